-- A loop that reads n things one after the other from the place p on, the one after i others by `f i`.
use Rattle.std.specs.Prelude.{ℕ, ◌+◌, ◌-◌, ◌<◌, ◌≤◌, ◌≡◌, Ok, Err}
use Rattle.std.proofs.Common.{sym, ◌∙◌}
use Rattle.base.specs.Loops.{run, run_starts, run-goes_on, run-stops, run_ends}
use Rattle.places.specs.Bytes.{Place}
use Rattle.meaning.specs.declared.Refusal.{Refusal}

-- i are read, and the next one stands at x: what is left from here gives what all gives from the start
pub record ReadSoFar (f : ℕ → ℕ → Place) (n p i x : ℕ) : Type 0 where
  pub left : run f (n - i) i x ≡ run f n 0 p

module _ {f : ℕ → ℕ → Place} {n p : ℕ} where
  pub reading_starts : ReadSoFar f n p 0 p
  reading_starts = record { left = sym (run_starts f n 0 p (Ok p)) }

  module _ {i x : ℕ} (so_far : ReadSoFar f n p i x) where
    -- the next place: read on from there
    pub reads_on : {r : Place} {y : ℕ} → i < n → r ≡ f i x → r ≡ Ok y → ReadSoFar f n p (i + 1) y
    reads_on {y = y} h e g = record { left = run-goes_on f n i x _ y h (sym e ∙ g) so_far.left }

    -- a fault: it is the whole answer
    pub reads-fault : {r : Place} {m : Refusal} → i < n → r ≡ f i x → r ≡ Err m → Err m ≡ run f n 0 p
    reads-fault {m = m} h e g = run-stops f n i x _ m h (sym e ∙ g) so_far.left

    -- none is left: the place that was reached
    pub all_read : n ≤ i → Ok x ≡ run f n 0 p
    all_read h = run_ends f n i x _ h so_far.left
