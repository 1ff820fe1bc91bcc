-- What the tests of two steps' axes and parents tell, as the functions make them.
use Rattle.std.specs.Prelude.{ℕ, zero, suc, ◌≡◌, refl, ◌⊎◌, Bool, true, false, not, ◌&&◌, eqb}
use Rattle.std.proofs.Common.{inl, inr, eqb-true, arith}
use Rattle.std.proofs.lemmas.Bool.{eqb-false, not-true, not-false}
use Rattle.meaning.specs.Forest.{axis_of, is_near}
use Rattle.meaning.specs.Satisfying.{any_or_same}
use Rattle.meaning.specs.Covering.{may_lie}
use Rattle.covering.specs.PlaceSearch.{in_reach}

-- a near step lies on a far one exactly if it is a starred leaf and its label fits
pub near_on_far : (x l y m : ℕ) (starred : Bool) → x ≡ 0 → not (eqb y 0) ≡ true → (starred && any_or_same l m) ≡ may_lie (axis_of x) l starred (axis_of y) m
unfolding may_lie axis_of is_near
near_on_far zero l zero m starred e f = absurd (eqb-false 0 0 (not-true (eqb 0 0) f) refl)
near_on_far zero l (suc y) m starred e f = refl
near_on_far (suc x) l y m starred e f = absurd (omega arith)

-- otherwise the labels decide
pub labels_decide : (x l y m : ℕ) (starred : Bool) → (not (eqb y 0) ≡ false) ⊎ (x ≡ 0 → ⊥) → any_or_same l m ≡ may_lie (axis_of x) l starred (axis_of y) m
unfolding may_lie axis_of is_near
labels_decide zero l zero m starred h = refl
labels_decide zero l (suc y) m starred (inl e) = absurd (omega (arith, eqb-true (suc y) 0 (not-false (eqb (suc y) 0) e)))
labels_decide zero l (suc y) m starred (inr n) = absurd (n refl)
labels_decide (suc x) l y m starred h = refl

-- a near step looks at children alone
pub near_elsewhere : (x w p : ℕ) (b : Bool) → x ≡ 0 → not (eqb p w) ≡ true → false ≡ (in_reach (axis_of x) w p && b)
unfolding in_reach axis_of
near_elsewhere zero w p b e f = rw (not-true (eqb p w) f)
near_elsewhere (suc x) w p b e f = absurd (omega arith)

-- at its child, and far, it may lie where it may
pub within_reach : (x w p : ℕ) (b : Bool) → (not (eqb p w) ≡ false) ⊎ (x ≡ 0 → ⊥) → b ≡ (in_reach (axis_of x) w p && b)
unfolding in_reach axis_of
within_reach zero w p b (inl e) = rw (not-false (eqb p w) e)
within_reach zero w p b (inr n) = absurd (n refl)
within_reach (suc x) w p b h = refl
