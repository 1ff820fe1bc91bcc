-- The loops over pairs: the steps after a step, up to the first whose parent is above it, are the walk of its child steps.
use Rattle.std.specs.Prelude.{ℕ, zero, suc, ◌+◌, ◌≤◌, ◌<◌, ◌≡◌, Bool, false, ◌&&◌, List}
use Rattle.std.proofs.Math.Path.{refl, sym}
use Rattle.std.proofs.Common.{◌∙◌, ap, arith, add-one}
use Rattle.std.proofs.Math.Bool.{true}
use Rattle.std.proofs.Math.Dec.{eqb}
use borrow.Author.Tests.{eq-eqb, ne_eqb}
use Rattle.meaning.specs.Forest.{axis_of, is_near, Forest, none, step, size}
use Rattle.meaning.specs.Covering.{step_at}
use Rattle.meaning.specs.Merging.{Building, nothing, meet_at, across, through}
use Rattle.meaning.specs.declared.Step.{Step}
use Rattle.shapes.specs.Shapes.{steps_in, WellFormed}
use Rattle.shapes.specs.declared.Pattern.{Pattern}
use Rattle.shapes.specs.Steps.{step_in, step_at_lem}
use Rattle.laws.specs.Bridge.{axis-written}
use Rattle.laws.specs.Outside.{written_step}
use Rattle.laws.specs.Children.{children_of}
use Rattle.covering.specs.OverBlock.{over_forest, over_from, over_starts, over_step, over_ends, over_done}
use Rattle.meaning.specs.Numbers.{most_steps}

-- what a step with its child steps makes of what is being built; the first says that it is a near child
abbrev pub Meeting : Type 0
Meeting = Bool → ℕ → Forest → Building → Building

-- the step is a near child of w
unfoldable pub near_child : ℕ → Step → Bool
near_child w s = eqb s.parent w && is_near (axis_of s.axis)

-- near is 0
near_zero : (x : ℕ) → eqb x 0 ≡ is_near (axis_of x)
unfolding axis_of is_near
near_zero zero = refl
near_zero (suc x) = ne_eqb (suc x) 0 (λ e. omega arith)

-- a child is near where its axis is 0
pub near_if : (s : Step) (w : ℕ) → s.parent ≡ w → eqb s.axis 0 ≡ near_child w s
unfolding near_child
near_if s w e = rw (eq-eqb s.parent w e) (near_zero s.axis)

-- another step is no near child
pub near_not : (s : Step) (w : ℕ) → (s.parent ≡ w → ⊥) → false ≡ near_child w s
unfolding near_child
near_not s w e = rw (ne_eqb s.parent w e)

-- a step of the walk below w: what is built goes through it, and then through those after it
unfoldable pub meet_step : Meeting → ℕ → Step → Forest → (Building → Building) → Building → Building
meet_step pair w s kids later b = later (pair (near_child w s) s.label kids b)

-- a block is walked as its forest is
over_across : (pair : Meeting) (w p k : ℕ) (f : Forest) (later : Building → Building) (b : Building) → w ≤ p → p < k
    → over_forest (meet_step pair w) p k f later b ≡ later (across pair (eqb p w) f b)
unfolding over_forest meet_step near_child across written_step
over_across pair w p k none next b l h = refl
over_across pair w p k (step a m kids later) next b l h =
    let deep : eqb k w ≡ false = ne_eqb k w (λ e. omega arith) in
    rw (axis-written a, over_across pair w k (suc k) kids _ _ (omega arith) (omega arith), deep)
    (over_across pair w p (suc k + size kids) later next _ l (omega arith))

-- what a step v' makes: it meets every step w' below w
unfoldable pub meet_all : ℕ → Forest → Meeting
meet_all own w near_v l vs b = across (meet_at most_steps own near_v l vs (λ ws. through most_steps vs true 1 ws nothing)) true w b

-- the walk over all pairs is the walk of those steps
pub through-across : (own : ℕ) (w f : Forest) (child : Bool) (b : Building) → through most_steps f child own w b ≡ across (meet_all own w) child f b
unfolding through across meet_all
through-across own w none child b = refl
through-across own w (step x l vs later) child b =
    let c = meet_all own w (child && is_near x) l vs b in
    through-across own w later child (through most_steps vs false own w c)
    ∙ ap (across (meet_all own w) child later) (through-across own w vs false c)

-- ---- one law for each way through a loop
unfoldable pub rest_walks : Meeting → List Step → ℕ → ℕ → Building → Building
rest_walks pair ss w u b = over_from (meet_step pair w) (λ x. x) ss w u b

-- what the step at place u makes
abbrev pub step_makes : Meeting → Pattern → ℕ → ℕ → Building → Building
step_makes pair p w u b = pair (near_child w (step_in p u)) (step_at (steps_in p) (u + 1)).label (children_of (steps_in p) (u + 1)) b

module _ (p : Pattern) (sound : WellFormed p) (pair : Meeting) (w : ℕ) where
  pub walk_starts : (b : Building) → w ≤ p.count → rest_walks pair (steps_in p) w w b ≡ across pair true (children_of (steps_in p) w) b
  unfolding rest_walks
  walk_starts b h =
      let own : eqb w w ≡ true = eq-eqb w w refl in
      (λ i. over_starts (meet_step pair w) (λ x. x) w p sound h i b)
      ∙ over_across pair w w (suc w) (children_of (steps_in p) w) (λ x. x) b (omega arith) (omega arith) ∙ rw own

  module _ (u : ℕ) (b whole : Building) where
    -- a step of the block
    pub walk_step : u < p.count → w ≤ (step_in p u).parent → rest_walks pair (steps_in p) w u b ≡ whole
        → rest_walks pair (steps_in p) w (u + 1) (step_makes pair p w u b) ≡ whole
    unfolding rest_walks meet_step
    walk_step h l i =
        let here : step_at (steps_in p) (u + 1) ≡ step_in p u = rw (add-one u) (step_at_lem p sound u h) in
        rw here (sym (λ j. over_step (meet_step pair w) (λ x. x) w p sound u h l j b) ∙ i)

    -- the block ends
    pub walk_ends : u < p.count → (step_in p u).parent < w → rest_walks pair (steps_in p) w u b ≡ whole → b ≡ whole
    unfolding rest_walks
    walk_ends h l i = sym (λ j. over_ends (meet_step pair w) (λ x. x) w p sound u h l j b) ∙ i

    -- the steps end
    pub walk_done : p.count ≤ u → rest_walks pair (steps_in p) w u b ≡ whole → b ≡ whole
    unfolding rest_walks
    walk_done h i = sym (λ j. over_done (meet_step pair w) (λ x. x) w p sound u h j b) ∙ i
