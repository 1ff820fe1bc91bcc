-- The first number of which a test holds: how a loop finds it, and what it tells.
use Prim.Native.Nat.{ℕ, zero, suc, ◌+◌, ◌-◌, ◌≤◌, ◌<◌}
use Rattle.std.specs.Prelude.{◌≡◌, Bool}
use Rattle.std.proofs.Math.Path.{refl, ap}
use Rattle.std.proofs.Common.{sym, ◌∙◌, eq-or-lt_of_le}
use Rattle.std.proofs.Math.Bool.{true, false}
use Rattle.std.proofs.Math.Logic.{⊎_elim}
use native.Mathlib.Omega.{arith}
use Rattle.base.specs.Choice.{pick}
use Rattle.base.specs.Loops.{scan, split, none_left}

-- ---- a loop `while i < n`: what is left of the search from i on gives the whole
module _ (p : ℕ → Bool) (n i whole : ℕ) where
  -- the test holds
  pub scan-stops : i < n → p i ≡ true → scan p (n - i) i ≡ whole → i ≡ whole
  unfolding scan pick
  scan-stops h e q = rw (split n i h, e) at q

  -- it fails
  pub scan-goes_on : i < n → p i ≡ false → scan p (n - i) i ≡ whole → scan p (n - (i + 1)) (i + 1) ≡ whole
  unfolding scan pick
  scan-goes_on h e q = rw (split n i h, e) at q

  -- no number is left
  pub scan-ends : n ≤ i → scan p (n - i) i ≡ whole → i ≡ whole
  unfolding scan
  scan-ends h q = rw (none_left n i h) at q

module _ (p : ℕ → Bool) where
  -- it is one of the numbers asked, or the one after them
  pub scan_among : (k i : ℕ) → (i ≤ scan p k i) × (scan p k i ≤ i + k)
  unfolding scan pick
  scan_among zero i = (omega arith, omega arith)
  scan_among (suc k) i = go (p i) (scan_among k (i + 1))
    where
      go : (b : Bool) → (i + 1 ≤ scan p k (i + 1)) × (scan p k (i + 1) ≤ i + 1 + k)
          → (i ≤ pick b i (scan p k (i + 1))) × (pick b i (scan p k (i + 1)) ≤ i + suc k)
      go true h = (omega arith, omega arith)
      go false h = (omega arith, omega arith)

  -- the test fails of those before it
  pub scan-first : (k i x : ℕ) → i ≤ x → x < scan p k i → p x ≡ false
  unfolding scan pick
  scan-first zero i x h l = absurd (omega arith)
  scan-first (suc k) i x h l = go (p i) refl (scan-first k (i + 1) x) l
    where
      go : (b : Bool) → p i ≡ b → (i + 1 ≤ x → x < scan p k (i + 1) → p x ≡ false) → x < pick b i (scan p k (i + 1)) → p x ≡ false
      go true e later m = absurd (omega arith)
      go false e later m = ⊎_elim (λ q. ap p (sym q) ∙ e) (λ q. later (omega arith) m) (eq-or-lt_of_le h)

  -- and holds of it, where it is one of them
  pub scan-holds : (k i : ℕ) → scan p k i < i + k → p (scan p k i) ≡ true
  unfolding scan pick
  scan-holds zero i l = absurd (omega arith)
  scan-holds (suc k) i l = go (p i) refl (scan-holds k (i + 1)) l
    where
      go : (b : Bool) → p i ≡ b → (scan p k (i + 1) < i + 1 + k → p (scan p k (i + 1)) ≡ true) → pick b i (scan p k (i + 1)) < i + suc k
          → p (pick b i (scan p k (i + 1))) ≡ true
      go true e later m = e
      go false e later m = later (omega arith)
