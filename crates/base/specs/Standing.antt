-- What stands one after the other from a place on: each with the place that follows it. Loops that go along it.
use Prim.Native.Nat.{ℕ, zero, suc, ◌+◌, ◌-◌, ◌<◌, ◌≤◌}
use Rattle.std.specs.Prelude.{◌≡◌, Bool, true, false, length, get_or, take, set, Result, Ok, Err}
use Rattle.std.proofs.Math.Path.{refl, sym, ap}
use Rattle.std.proofs.Common.{◌∙◌, subst, arith, add-one, le_of_suc-le-suc, not-suc-le-zero, add-zero, take_all, take-suc-set}
use mathlib.Core.List.{List, [], ◌∷◌, ◌++◌}
use Rattle.base.specs.Lists.{some}
use Rattle.base.specs.Loops.{and_then, run, split, none_left}

-- the place after n things, where the one at p is followed by the one at `next p`
unfoldable pub place_after : (ℕ → ℕ) → ℕ → ℕ → ℕ
place_after next p zero = p
place_after next p (suc n) = place_after next (next p) n

pub place_after-last : (next : ℕ → ℕ) (p n : ℕ) → place_after next p (suc n) ≡ next (place_after next p n)
unfolding place_after
place_after-last next p zero = refl
place_after-last next p (suc n) = place_after-last next (next p) n

-- a reading run goes from each thing to the one that follows it
pub run-leads : {E : Type 0} (f : ℕ → ℕ → Result ℕ E) (next : ℕ → ℕ) → ((i x y : ℕ) → f i x ≡ Ok y → y ≡ next x) → (n i x y : ℕ) → run f n i x ≡ Ok y → y ≡ place_after next x n
unfolding run and_then place_after
run-leads {E = E} f next leads zero i x y h = cc
run-leads {E = E} f next leads (suc n) i x y h = go (f i x) refl h (run-leads f next leads n (i + 1))
  where
    go : (c : Result ℕ E) → f i x ≡ c → and_then c (λ z. run f n (i + 1) z) ≡ Ok y
        → ((z w : ℕ) → run f n (i + 1) z ≡ Ok w → w ≡ place_after next z n) → y ≡ place_after next (next x) n
    go (Ok z) e q later = later z y q ∙ ap (λ (w : ℕ). place_after next w n) (leads i x z e)
    go (Err m) e q later = let z : ◌≡◌ {A = ℕ} 0 1 = cc in absurd (omega arith)

-- what each reading keeps, the run keeps
pub run_keeps : {E : Type 0} (f : ℕ → ℕ → Result ℕ E) (Good : ℕ → Type 0) → ((i x y : ℕ) → Good x → f i x ≡ Ok y → Good y) → (n i x y : ℕ) → Good x → run f n i x ≡ Ok y → Good y
unfolding run and_then
run_keeps {E = E} f Good keeps zero i x y g h = let e : x ≡ y = cc in subst Good e g
run_keeps {E = E} f Good keeps (suc n) i x y g h = go (f i x) refl h (run_keeps f Good keeps n (i + 1))
  where
    go : (c : Result ℕ E) → f i x ≡ c → and_then c (λ z. run f n (i + 1) z) ≡ Ok y → ((z w : ℕ) → Good z → run f n (i + 1) z ≡ Ok w → Good w) → Good y
    go (Ok z) e q later = later z y (keeps i x z g e) q
    go (Err m) e q later = let z : ◌≡◌ {A = ℕ} 0 1 = cc in absurd (omega arith)

-- each thing of a run was read where it stands
pub run_at : {E : Type 0} (f : ℕ → ℕ → Result ℕ E) (next : ℕ → ℕ) → ((i x y : ℕ) → f i x ≡ Ok y → y ≡ next x) → (n i x y j : ℕ) → run f n i x ≡ Ok y → j < n
    → (z : ℕ) × (f (i + j) (place_after next x j) ≡ Ok z)
unfolding run and_then place_after
run_at {E = E} f next leads zero i x y j h l = absurd (not-suc-le-zero l)
run_at {E = E} f next leads (suc n) i x y j h l = go (f i x) refl h j l (run_at f next leads n (i + 1))
  where
    go : (c : Result ℕ E) → f i x ≡ c → and_then c (λ z. run f n (i + 1) z) ≡ Ok y → (j : ℕ) → j < suc n
        → ((z w k : ℕ) → run f n (i + 1) z ≡ Ok w → k < n → (v : ℕ) × (f (i + 1 + k) (place_after next z k) ≡ Ok v))
        → (v : ℕ) × (f (i + j) (place_after next x j) ≡ Ok v)
    go (Err m) e q j l later = let z : ◌≡◌ {A = ℕ} 0 1 = cc in absurd (omega arith)
    go (Ok z) e q zero l later = (z, rw (add-zero i) e)
    go (Ok z) e q (suc k) l later =
        let r = later z y k q (le_of_suc-le-suc l) in
        let n : i + 1 + k ≡ i + suc k = omega arith in
        (r.0, rw (← n, ← (leads i x z e)) r.1)

module _ {A : Type 0} (here : ℕ → A) (next : ℕ → ℕ) where
  -- the n things from the place p on
  unfoldable pub standing : ℕ → ℕ → List A
  standing p zero = []
  standing p (suc n) = here p ∷ standing (next p) n

  -- one more stands last
  pub standing-last : (p n : ℕ) → standing p n ++ (here (place_after next p n) ∷ []) ≡ standing p (suc n)
  unfolding standing place_after
  standing-last p zero = refl
  standing-last p (suc n) = ap (λ (l : List A). here p ∷ l) (standing-last (next p) n)

  pub length-standing : (p n : ℕ) → length (standing p n) ≡ n
  unfolding standing
  length-standing p zero = refl
  length-standing p (suc n) = ap suc (length-standing (next p) n)

  -- the i-th of them stands at its place
  pub get_or-standing : (p n i : ℕ) (d : A) → i < n → get_or (standing p n) i d ≡ here (place_after next p i)
  unfolding standing place_after
  get_or-standing p zero i d h = absurd (not-suc-le-zero h)
  get_or-standing p (suc n) zero d h = refl
  get_or-standing p (suc n) (suc i) d h = get_or-standing (next p) n i d (le_of_suc-le-suc h)

-- ---- a loop that looks for a thing of which the test holds: what is left of it from here gives what all of it gives
module _ {A : Type 0} (here : ℕ → A) (next : ℕ → ℕ) (test : A → Bool) (n i x : ℕ) (whole : Bool) where
  pub some-hits : (r : Bool) → i < n → r ≡ true → r ≡ test (here x) → some test (standing here next x (n - i)) ≡ whole → true ≡ whole
  unfolding standing some
  some-hits r h t e p = sym (rw (split n i h, some, ← e, t)) ∙ p

  pub some-goes_on : (r : Bool) (y : ℕ) → i < n → r ≡ false → r ≡ test (here x) → y ≡ next x
      → some test (standing here next x (n - i)) ≡ whole → some test (standing here next y (n - (i + 1))) ≡ whole
  unfolding standing some
  some-goes_on r y h t e f p = rw f (sym (rw (split n i h, some, ← e, t)) ∙ p)

  pub some-ends : n ≤ i → some test (standing here next x (n - i)) ≡ whole → false ≡ whole
  unfolding standing some
  some-ends h p = sym (rw (none_left n i h)) ∙ p

-- ---- a loop that goes along: from here it is as far as from the start
module _ (next : ℕ → ℕ) (n i x whole : ℕ) where
  pub place-goes_on : (y : ℕ) → i < n → y ≡ next x → place_after next x (n - i) ≡ whole → place_after next y (n - (i + 1)) ≡ whole
  unfolding place_after
  place-goes_on y h e p = rw e (sym (rw (split n i h)) ∙ p)

  pub place-ends : n ≤ i → place_after next x (n - i) ≡ whole → x ≡ whole
  unfolding place_after
  place-ends h p = sym (rw (none_left n i h)) ∙ p

-- ---- a loop that fills a list: its first i are what stands, and x is where the next one does
module _ {A : Type 0} (here : ℕ → A) (next : ℕ → ℕ) (p : ℕ) where
  pub record FilledUpTo (xs : List A) (i x : ℕ) : Type 0 where
    pub so_far : take i xs ≡ standing here next p i
    pub there : x ≡ place_after next p i

  pub fill_starts : (xs : List A) → FilledUpTo xs 0 p
  unfolding standing place_after
  fill_starts xs = record { so_far = refl; there = refl }

  pub fill-goes_on : (xs : List A) (i x y : ℕ) (v : A) → i < length xs → v ≡ here x → y ≡ next x → FilledUpTo xs i x → FilledUpTo (set xs i v) (i + 1) y
  fill-goes_on xs i x y v h e f w =
      record {
        so_far = rw (add-one i) (take-suc-set xs i v h ∙ more ∙ standing-last here next p i);
        there = rw (add-one i) (f ∙ ap next w.there ∙ sym (place_after-last next p i));
      }
    where
      more : take i xs ++ (v ∷ []) ≡ standing here next p i ++ (here (place_after next p i) ∷ [])
      more = rw (w.so_far, e, w.there)

  pub fill-ends : (xs : List A) (n i x : ℕ) → length xs ≡ n → i ≡ n → FilledUpTo xs i x → xs ≡ standing here next p n
  fill-ends xs n i x h e w = sym (take_all n xs (omega arith)) ∙ rw (← e) w.so_far
