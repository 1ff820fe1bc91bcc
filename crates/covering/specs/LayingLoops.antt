-- One law for each way through the two loops: what is left of the steps from here on answers what all of them answer.
use Rattle.std.specs.Prelude.{ℕ, ◌+◌, ◌-◌, ◌≤◌, ◌<◌, ◌≡◌, refl, ◌⊎◌, Bool, true, false, not, ◌&&◌, ◌||◌, List, eqb}
use Rattle.std.proofs.Math.Path.{sym}
use Rattle.std.proofs.Common.{◌∙◌, inl, inr, arith, ne_eqb}
use Rattle.std.proofs.Math.Bool.{and_assoc}
use Rattle.std.proofs.Math.Numerals.{add-one}
use Rattle.meaning.specs.Forest.{axis_of, is_none}
use Rattle.meaning.specs.Satisfying.{any_or_same}
use Rattle.meaning.specs.Covering.{step_at, fits_at, lays}
use Rattle.meaning.specs.declared.Step.{Step}
use Rattle.laws.specs.Children.{children_from, children_of}
use Rattle.laws.specs.Laying.{leaf_with}
use Rattle.shapes.specs.Shapes.{steps_in, WellFormed}
use Rattle.shapes.specs.Steps.{step_in, step_at_lem, step-number, child_here, child_not, children-end, last-is_leaf, next_tells}
use Rattle.shapes.specs.declared.Pattern.{Pattern}
use Rattle.covering.specs.OverBlock.{over_from, over_starts, over_step, over_ends, over_done}
use Rattle.covering.specs.PlaceSearch.{tries_step, place_found}
use Rattle.covering.specs.Questions.{children_lie, fits_step, some_fits, may_lie_below, lies_at}

-- all children of step v among the steps from place k on find a place below step w
unfoldable pub rest_lie : List Step → ℕ → ℕ → List Step → ℕ → Bool
rest_lie a v k b w = lays (children_from a v k) (children_of b w)

-- the loop over the children of v has come to place k: those from there on answer what all answer
pub record LayingChildren (p : Pattern) (v : ℕ) (b : List Step) (w k : ℕ) : Type 0 where
  pub sound : WellFormed p
  pub from : v ≤ k
  pub upto : k ≤ p.count
  pub rest : rest_lie (steps_in p) v k b w ≡ children_lie (steps_in p) v b w

-- it starts right after v
pub laying_starts : (p : Pattern) (v : ℕ) (b : List Step) (w : ℕ) → WellFormed p → v ≤ p.count → LayingChildren p v b w v
unfolding rest_lie children_lie children_of
laying_starts p v b w sound h = record { sound = sound; from = omega arith; upto = h; rest = refl }

module _ {p : Pattern} {v : ℕ} {b : List Step} {w k : ℕ} (i : LayingChildren p v b w k) where
  -- one step on
  further : k < p.count → rest_lie (steps_in p) v (k + 1) b w ≡ children_lie (steps_in p) v b w → LayingChildren p v b w (k + 1)
  further h e = record { sound = i.sound; from = omega (arith, i.from); upto = omega arith; rest = e }

  -- at a child of v
  rest_child : k < p.count → (step_in p k).parent ≡ v
      → rest_lie (steps_in p) v k b w ≡ (some_fits (steps_in p) (k + 1) b w && rest_lie (steps_in p) v (k + 1) b w)
  unfolding rest_lie lays some_fits fits_step
  rest_child h e = rw (child_here p i.sound v k h e, add-one, step_at_lem p i.sound k h)

  -- a child finds a place
  pub child_lies : k < p.count → (step_in p k).parent ≡ v → {r : Bool} → r ≡ some_fits (steps_in p) (k + 1) b w → r ≡ true → LayingChildren p v b w (k + 1)
  child_lies h e q t = further h (sym (rest_child h e ∙ rw (← q, t)) ∙ i.rest)

  -- a child finds none
  pub child_doesn't : k < p.count → (step_in p k).parent ≡ v → {r : Bool} → r ≡ some_fits (steps_in p) (k + 1) b w → r ≡ false
      → false ≡ children_lie (steps_in p) v b w
  child_doesn't h e q t = sym (rest_child h e ∙ rw (← q, t)) ∙ i.rest

  -- no child of v
  pub no_child : k < p.count → ((step_in p k).parent ≡ v → ⊥) → LayingChildren p v b w (k + 1)
  unfolding rest_lie
  no_child h e = further h (rw (child_not p i.sound v k h e) at i.rest)

  -- none is left
  pub all_lay : p.count ≤ k → true ≡ children_lie (steps_in p) v b w
  unfolding rest_lie lays
  all_lay h = rw (children-end p i.sound v k h) at i.rest

-- some place from place u on, below step w, fits step s, which is number k of A, a starred leaf or not
unfoldable pub rest_fits : List Step → ℕ → Step → Bool → List Step → ℕ → ℕ → Bool
rest_fits a k s starred b w u = over_from (tries_step (axis_of s.axis) (fits_step a k s starred) w) false b w u

-- the search below step w has come to place u: the places from there on answer what all answer
pub record Fitting (a : List Step) (k : ℕ) (s : Step) (starred : Bool) (p : Pattern) (w u : ℕ) : Type 0 where
  pub sound : WellFormed p
  pub from : w ≤ u
  pub upto : u ≤ p.count
  pub rest : rest_fits a k s starred (steps_in p) w u ≡ some_fits a k (steps_in p) w

-- whether step k has child steps is told by the parent of the step after it, or 0 where there is none
pub next-parent_tells : (p : Pattern) → WellFormed p → (k : ℕ) → 1 ≤ k → (next : ℕ)
    → ((k < p.count) × (next ≡ (step_in p k).parent)) ⊎ ((p.count ≤ k) × (next ≡ 0)) → not (eqb next k) ≡ is_none (children_of (steps_in p) k)
next-parent_tells p sound k o next (inl (h, e)) = rw e (next_tells p sound k h)
next-parent_tells p sound k o next (inr (h, e)) = rw (e, ne_eqb 0 k (λ q. omega arith)) (last-is_leaf p sound k h)

-- it starts right after w
pub search_starts : (a : List Step) (k : ℕ) (s : Step) (starred : Bool) (p : Pattern) (w : ℕ) → WellFormed p → w ≤ p.count
    → s ≡ step_at a k → starred ≡ leaf_with (step_at a k).label (children_of a k) → Fitting a k s starred p w w
unfolding rest_fits some_fits
search_starts a k s starred p w sound h e f = record {
  sound = sound;
  from = omega arith;
  upto = h;
  rest = over_starts _ _ w p sound h ∙ rw (e, f) (place_found (fits_step a k (step_at a k) _) w (axis_of (step_at a k).axis) (children_of (steps_in p) w));
}

module _ {a : List Step} {k : ℕ} {s : Step} {starred : Bool} {p : Pattern} {w u : ℕ} (i : Fitting a k s starred p w u) where
  -- the block below w ends
  pub block_ends : u < p.count → (step_in p u).parent < w → false ≡ some_fits a k (steps_in p) w
  unfolding rest_fits
  block_ends h l = sym (over_ends _ _ w p i.sound u h l) ∙ i.rest

  -- the steps end
  pub steps-done : p.count ≤ u → false ≡ some_fits a k (steps_in p) w
  unfolding rest_fits
  steps-done h = sym (over_done _ _ w p i.sound u h) ∙ i.rest

  module _ (h : u < p.count) (l : w ≤ (step_in p u).parent) where
    -- at a step of w's block
    rest-place : rest_fits a k s starred (steps_in p) w u
        ≡ ((may_lie_below s starred w (step_in p u) && children_lie a k (steps_in p) (u + 1)) || rest_fits a k s starred (steps_in p) w (u + 1))
    unfolding rest_fits tries_step may_lie_below children_lie fits_step fits_at
    rest-place = over_step _ _ w p i.sound u h l ∙ rw and_assoc

    module _ {m r : Bool} (may : m ≡ may_lie_below s starred w (step_in p u)) (is : r ≡ (m && children_lie a k (steps_in p) (u + 1))) where
      -- the place fits
      pub place_fits_lem : r ≡ true → true ≡ some_fits a k (steps_in p) w
      place_fits_lem t = sym (rest-place ∙ rw (← may, ← is, t)) ∙ i.rest

      -- it doesn't
      pub place_doesn't : r ≡ false → Fitting a k s starred p w (u + 1)
      place_doesn't t = record {
        sound = i.sound;
        from = omega (arith, i.from);
        upto = omega arith;
        rest = sym (rest-place ∙ rw (← may, ← is, t)) ∙ i.rest;
      }

-- a step can be laid at another exactly if its label fits and its children lie
pub label_and_children : {p q : Pattern} → WellFormed p → WellFormed q → (v w : ℕ) → 1 ≤ v → v ≤ p.count → 1 ≤ w → w ≤ q.count
    → {m r : Bool} → m ≡ any_or_same (step_in p (v - 1)).label (step_in q (w - 1)).label → r ≡ (m && children_lie (steps_in p) v (steps_in q) w)
    → r ≡ lies_at (steps_in p) v (steps_in q) w
unfolding lies_at
label_and_children {p} {q} sp sq v w hv lv hw lw fits e = rw (fits, step-number p sp v hv lv, step-number q sq w hw lw) at e
