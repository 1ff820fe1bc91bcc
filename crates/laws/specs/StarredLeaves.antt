-- Starred leaves: where one may lie, and what may lie on one; a laying that makes no use of them is a laying.
use Rattle.std.specs.Prelude.{ℕ, ◌≤◌, ◌≡◌, refl, Bool, true, false, not, ◌||◌, List, eqb, length}
use Rattle.std.proofs.Common.{sym, subst, ⊎_elim, eqb-true}
use Rattle.std.proofs.lemmas.Bool.{false≢true}
use Rattle.base.specs.Bools.{and_first, and_second, and_both, or_cases, or_first, or_second}
use Rattle.meaning.specs.Forest.{Axis, near, far, axis_of, is_near, Forest, none, step, is_none, is_child, reaches}
use Rattle.meaning.specs.Satisfying.{any_or_same}
use Rattle.meaning.specs.Covering.{starred_leaf, may_lie, step_at, step_parents, is_childless, is_starred_leaf, LiesWell, Laying, finds, fits_at, lays, covers}
use Rattle.meaning.specs.declared.Step.{Step}
use Rattle.laws.specs.Laying.{leaf_with}

-- ---- where one may lie, and what may lie on one

-- what fits any is any
any_fits_any : (l m : ℕ) → any_or_same l m ≡ true → eqb m 0 ≡ true → eqb l 0 ≡ true
unfolding any_or_same
any_fits_any l m h e = ⊎_elim (λ z. z) (λ s. subst (λ (i : ℕ). eqb i 0 ≡ true) (sym (eqb-true l m s)) e) (or_cases (eqb l 0) (eqb l m) h)

-- a starred leaf may lie on any step
pub leaf-lies : (y : Axis) (l m : ℕ) (childless : Bool) → starred_leaf l childless ≡ true → may_lie near l (starred_leaf l childless) y m ≡ true
unfolding may_lie starred_leaf any_or_same
leaf-lies y l m childless h =
    and_both (is_near y || starred_leaf l childless) (any_or_same l m) (or_second (is_near y) (starred_leaf l childless) h)
    (or_first (eqb l 0) (eqb l m) (and_first (eqb l 0) childless h))

-- and no other near step on a far one
pub leaf_on_far : (l m : ℕ) (starred : Bool) → may_lie near l starred far m ≡ true → starred ≡ true
unfolding may_lie is_near
leaf_on_far l m starred h = and_first starred (any_or_same l m) h

-- where there are no steps, only none are laid
laid_on_none : (kids k : Forest) → lays kids k ≡ true → is_none k ≡ true → is_none kids ≡ true
unfolding lays finds is_none
laid_on_none none k h e = refl
laid_on_none (step x l kids later) none h e = absurd (false≢true h)
laid_on_none (step x l kids later) (step y m k more) h e = absurd (false≢true e)

-- and none are laid anywhere
pub none_laid : (kids k : Forest) → is_none kids ≡ true → lays kids k ≡ true
unfolding lays is_none
none_laid none k e = refl
none_laid (step x l kids later) k e = absurd (false≢true e)

-- what fits on a starred leaf is one
pub leaf_on_leaf :
    (l m : ℕ) (kids k : Forest) → any_or_same l m ≡ true → lays kids k ≡ true → leaf_with m k ≡ true → leaf_with l kids ≡ true
unfolding starred_leaf
leaf_on_leaf l m kids k h e s =
    and_both (eqb l 0) (is_none kids) (any_fits_any l m h (and_first (eqb m 0) (is_none k) s)) (laid_on_none kids k e (and_second (eqb m 0) (is_none k) s))

-- ---- layings with and without them

-- a near step that is one lies well on each child of its parent's place, near or far
pub starred_leaf-lies : (a b : List Step) (k t u : ℕ) → axis_of (step_at a k).axis ≡ near → is_starred_leaf a k ≡ true
    → (1 ≤ u) × (u ≤ length b) → is_child (step_parents b) t u ≡ true → LiesWell b (step_at a k) (is_starred_leaf a k) t u
unfolding reaches is_starred_leaf
starred_leaf-lies a b k t u at-near starred there child = record {
  there = there;
  within = rw at-near child;
  fits = rw at-near (leaf-lies _ (step_at a k).label _ (is_childless a k) starred);
}

-- any other near step lies on near ones alone
pub others_on_near : (b : List Step) (s : Step) (t u : ℕ) → axis_of s.axis ≡ near → LiesWell b s false t u → axis_of (step_at b u).axis ≡ near
others_on_near b s t u at-near w = on_near (axis_of (step_at b u).axis) (rw at-near at w.fits)
  where
    on_near : (y : Axis) → may_lie near s.label false y (step_at b u).label ≡ true → y ≡ near
    on_near near h = refl
    on_near far h = absurd (false≢true (leaf_on_far s.label (step_at b u).label false h))

-- a pattern that is a starred leaf alone covers exactly the patterns that have a step
pub starred_leaf-covers : (f : Forest) → covers (step near 0 none none) f ≡ not (is_none f)
unfolding covers lays finds fits_at may_lie starred_leaf is_none is_near any_or_same
starred_leaf-covers none = refl
starred_leaf-covers (step near m kids later) = refl
starred_leaf-covers (step far m kids later) = refl

-- a step that may lie where it isn't taken for one may lie there
lies_anyhow : (x y : Axis) (l m : ℕ) (starred : Bool) → may_lie x l false y m ≡ true → may_lie x l starred y m ≡ true
unfolding may_lie is_near
lies_anyhow near near l m starred h = h
lies_anyhow near far l m starred h = absurd (false≢true h)
lies_anyhow far y l m starred h = h

-- so places where no step is taken for one, near steps on near ones alone, are a laying
pub near_on_near : (a b : List Step) (place : ℕ → ℕ) → place 0 ≡ 0
    → ((k : ℕ) → 1 ≤ k → k ≤ length a → LiesWell b (step_at a k) false (place (step_at a k).parent) (place k)) → Laying a b
near_on_near a b place root lies = record {
  place = place;
  root = root;
  lies = λ k o l.
      let w = lies k o l in
      record { there = w.there; within = w.within; fits = lies_anyhow _ _ _ _ (is_starred_leaf a k) w.fits };
}
