-- What loops compute, each as one definition: a reading run, a fold over numbers, the first hit.
-- A loop's invariant is that what is left of it from here gives what all of it gives from the start.
use Rattle.std.specs.Prelude.{ℕ, zero, suc, ◌+◌, ◌-◌, ◌<◌, ◌≤◌, ◌≡◌, Bool, Result, Ok, Err}
use Rattle.std.proofs.Math.Path.{sym}
use Rattle.std.proofs.Common.{ap, ◌∙◌, arith}
use Rattle.base.specs.Choice.{pick}

-- go on from the place that was reached, or keep the fault
unfoldable pub and_then : {E : Type 0} → Result ℕ E → (ℕ → Result ℕ E) → Result ℕ E
and_then (Ok x) f = f x
and_then (Err e) f = Err e

-- the reader f at i, i + 1, .., k times, from the place x
unfoldable pub run : {E : Type 0} → (ℕ → ℕ → Result ℕ E) → ℕ → ℕ → ℕ → Result ℕ E
run f zero i x = Ok x
run f (suc k) i x = and_then (f i x) (λ y. run f k (i + 1) y)

-- the first of the k numbers from i on of which the test holds, or i + k
unfoldable pub scan : (ℕ → Bool) → ℕ → ℕ → ℕ
scan p zero i = i
scan p (suc k) i = let later = scan p k (i + 1) in pick (p i) i later

-- f at i, i + 1, .., k times, each on what the one before gave
unfoldable pub fold_n {ℓ} : {A : Type ℓ} → (ℕ → A → A) → ℕ → ℕ → A → A
fold_n f zero i a = a
fold_n f (suc k) i a = fold_n f k (i + 1) (f i a)

-- as many are left as there are, less those passed
pub split : (n i : ℕ) → i < n → n - i ≡ suc (n - (i + 1))
split n i h = omega arith

-- none is left once all are passed
pub none_left : (n i : ℕ) → n ≤ i → n - i ≡ 0
none_left n i h = omega arith

-- ---- a loop over the numbers below n that reads: its state at i is right where the rest of the run from there gives the whole run
module _ {E : Type 0} (f : ℕ → ℕ → Result ℕ E) (n i x : ℕ) (whole : Result ℕ E) where
  pub run_starts : run f n 0 x ≡ run f (n - 0) 0 x
  run_starts = ap (λ (k : ℕ). run f k 0 x) (omega arith)

  pub run-goes_on : (y : ℕ) → i < n → f i x ≡ Ok y → run f (n - i) i x ≡ whole → run f (n - (i + 1)) (i + 1) y ≡ whole
  unfolding run and_then
  run-goes_on y h e p = sym (rw (split n i h, e, and_then)) ∙ p

  pub run-stops : (m : E) → i < n → f i x ≡ Err m → run f (n - i) i x ≡ whole → Err m ≡ whole
  unfolding run and_then
  run-stops m h e p = sym (rw (split n i h, e, and_then)) ∙ p

  pub run_ends : n ≤ i → run f (n - i) i x ≡ whole → Ok x ≡ whole
  unfolding run
  run_ends h p = sym (rw (none_left n i h)) ∙ p
