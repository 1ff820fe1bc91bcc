-- A document is a forest whose steps are all near: to satisfy a pattern is to have it laid onto that forest, and so a
-- covering pattern loses no document.
use Rattle.std.specs.Prelude.{ℕ, zero, suc, ◌≤◌, ◌≡◌, Bool, true, List, [], ◌∷◌, map, length}
use Rattle.std.proofs.Math.Path.{refl, sym, ap₂}
use Rattle.std.proofs.Common.{ap, ◌∙◌, subst, arith}
use Rattle.std.proofs.Math.Bool.{◌&&◌}
use Rattle.std.proofs.lemmas.List.{length-map}
use Rattle.base.specs.Bools.{and_first, and_second, and_both, both_ways}
use Rattle.base.specs.Lists.{some, numbers_from}
use Rattle.base.specs.ListLaws.{some-gives, some_of, numbers_from-gives, numbers_from_of}
use Rattle.meaning.specs.Forest.{Axis, near, far, axis_of, is_near, Forest, none, step, forest, reaches}
use Rattle.meaning.specs.Sections.{Node}
use Rattle.meaning.specs.Satisfying.{any_or_same, parents_of, label_in, fits_below, hold_below, satisfies}
use Rattle.meaning.specs.Covering.{may_lie, step_at, step_parents, finds, fits_at, lays, covers}
use Rattle.meaning.specs.declared.Step.{Step}
use Rattle.laws.specs.Rising.{Rising}
use Rattle.laws.specs.Children.{children_of, children_of-root}
use Rattle.laws.specs.NumberedPlaces.{passes_at, finds_spot, spot_found}
use Rattle.laws.specs.Laying.{leaf_with, fits_with}
use Rattle.laws.specs.CoversOfCovers.{lays_trans}

-- a node as a near step
unfoldable pub near_step : Node → Step
near_step d = record { parent = d.parent; axis = 0; label = d.label }

-- the forest that a document's nodes are
unfoldable pub document_forest : List Node → Forest
document_forest ns = forest (map near_step ns)

-- the parents are the nodes'
parents_near : (ns : List Node) → step_parents (map near_step ns) ≡ parents_of ns
unfolding step_parents parents_of near_step
parents_near [] = refl
parents_near (d ∷ ns) = ap {B = List ℕ} (λ ps. d.parent ∷ ps) (parents_near ns)

-- every step is near
axis-near : (ns : List Node) (u : ℕ) → (step_at (map near_step ns) u).axis ≡ 0
unfolding step_at near_step
axis-near ns zero = refl
axis-near [] (suc k) = refl
axis-near (d ∷ ns) (suc zero) = refl
axis-near (d ∷ ns) (suc (suc k)) = axis-near ns (suc k)

-- and has its node's label
label-near : (ns : List Node) (u : ℕ) → (step_at (map near_step ns) u).label ≡ label_in ns u
unfolding step_at near_step label_in
label-near ns zero = refl
label-near [] (suc k) = refl
label-near (d ∷ ns) (suc zero) = refl
label-near (d ∷ ns) (suc (suc k)) = label-near ns (suc k)

-- on a near step only the label is asked
lies-near : (x : Axis) (l m : ℕ) (starred : Bool) → may_lie x l starred near m ≡ any_or_same l m
unfolding may_lie is_near
lies-near near l m starred = refl
lies-near far l m starred = refl

module _ (ns : List Node) (rises : Rising (parents_of ns)) where
  -- the steps rise as the nodes do
  rising : Rising (step_parents (map near_step ns))
  rising = subst Rising (sym (parents_near ns)) rises

  -- there are as many
  long : length (map near_step ns) ≡ length ns
  long = length-map ns near_step

  -- a node fits a step exactly if the step passes there
  fits_passes : (x : Axis) (l : ℕ) (kids : Forest) (t u : ℕ) → hold_below ns kids u ≡ lays kids (children_of (map near_step ns) u)
      → fits_below ns t x l (hold_below ns kids) u ≡ (reaches x (step_parents (map near_step ns)) t u && passes_at (map near_step ns) (fits_with x l kids) u)
  unfolding fits_below passes_at fits_at axis_of
  fits_passes x l kids t u same =
      rw (parents_near ns, axis-near ns u, label-near ns u, lies-near x l (label_in ns u) (leaf_with l kids), same)

  -- some node that may be looked at fits a step exactly if the step finds a place
  module _ (x : Axis) (l : ℕ) (kids : Forest)
      (same : (u : ℕ) → u ≤ length ns → hold_below ns kids u ≡ lays kids (children_of (map near_step ns) u)) (t : ℕ)
      (low : t ≤ length ns) where
    -- the node fits the step
    fits : ℕ → Bool
    fits u = fits_below ns t x l (hold_below ns kids) u

    -- a node that fits is a place
    fits-finds : some fits (numbers_from 1 (length ns)) ≡ true → finds x (fits_with x l kids) (children_of (map near_step ns) t) ≡ true
    unfolding fits
    fits-finds h =
        let r = some-gives fits (numbers_from 1 (length ns)) h in
        let b = numbers_from-gives 1 (length ns) r.1 in
        let inside = reaches x (step_parents (map near_step ns)) t r.0 in
        let passed = passes_at (map near_step ns) (fits_with x l kids) r.0 in
        let both = sym (fits_passes x l kids t r.0 (same r.0 (omega arith))) ∙ r.2 in
        spot_found (map near_step ns) rising (fits_with x l kids) x t
        (record { number = r.0; there = (b.0, omega (arith, long)); within = and_first inside passed both; passed = and_second inside passed both })

    -- a place is a node that fits
    finds-fits : finds x (fits_with x l kids) (children_of (map near_step ns) t) ≡ true → some fits (numbers_from 1 (length ns)) ≡ true
    unfolding fits
    finds-fits h =
        let r = finds_spot (map near_step ns) rising (fits_with x l kids) x t (omega (arith, long)) h in
        some_of fits (numbers_from_of 1 (length ns) r.number r.there.0 (omega (arith, long)))
        (fits_passes x l kids t r.number (same r.number (omega (arith, long))) ∙ and_both _ _ r.within r.passed)

  -- every step of the pattern holds below node t exactly if it can be laid there
  holds-lays : (p : Forest) (t : ℕ) → t ≤ length ns → hold_below ns p t ≡ lays p (children_of (map near_step ns) t)
  unfolding hold_below lays fits
  holds-lays none t low = refl
  holds-lays (step x l kids later) t low =
      ap₂ ◌&&◌
      (both_ways _ _ (fits-finds x l kids (holds-lays kids) t low) (finds-fits x l kids (holds-lays kids) t low))
      (holds-lays later t low)

-- a document satisfies a pattern exactly if the pattern can be laid onto the document
pub satisfies_is_laying : (ns : List Node) (p : Forest) → Rising (parents_of ns) → satisfies ns p ≡ lays p (document_forest ns)
unfolding satisfies document_forest
satisfies_is_laying ns p rises = holds-lays ns rises p 0 (omega arith) ∙ ap (lays p) (children_of-root (map near_step ns))

-- covering loses no document: what satisfies a pattern satisfies each that covers it
pub covering_loses_none : (ns : List Node) (a b : Forest) → Rising (parents_of ns) → covers a b ≡ true → satisfies ns b ≡ true → satisfies ns a ≡ true
unfolding covers
covering_loses_none ns a b rises c h =
    satisfies_is_laying ns a rises ∙ lays_trans a b (document_forest ns) c (sym (satisfies_is_laying ns b rises) ∙ h)
