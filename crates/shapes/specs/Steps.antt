-- The steps of a well-formed pattern by value: how many there are, each by its number and by its place, and what is below it.
use Rattle.std.specs.Prelude.{ℕ, zero, suc, ◌+◌, ◌-◌, ◌≤◌, ◌<◌, ◌≡◌, true, false, not, List, [], ◌∷◌, eqb, length, get_or}
use Rattle.std.proofs.Common.{sym, ◌∙◌, subst, ⊎_elim, arith, add-one, drop_of_length-le, eqb-true}
use Rattle.std.proofs.Math.Path.{ap}
use Rattle.std.proofs.Math.ListN.{drop}
use Rattle.std.proofs.Math.Seq.{drop-cons, get_or-take, length-take-le}
use Rattle.std.proofs.lemmas.Bool.{eqb-false}
use Rattle.base.specs.Bools.{true_or_false}
use Rattle.meaning.specs.Forest.{axis_of, none, step, is_none, size}
use Rattle.meaning.specs.Covering.{step_at, step_parents}
use Rattle.meaning.specs.declared.Step.{Step}
use Rattle.laws.specs.Rising.{Rising}
use Rattle.laws.specs.Bridge.{length-steps_of}
use Rattle.laws.specs.Outside.{read_back}
use Rattle.laws.specs.Blocks.{Block, block_of, empty_block}
use Rattle.laws.specs.WrittenRising.{written_rises}
use Rattle.laws.specs.Children.{children_from, children_of, children_of-root, child_first, other_first, none_first, parent-before}
use Rattle.shapes.specs.Shapes.{steps_in, pattern_of, WellFormed}
use Rattle.shapes.specs.declared.Pattern.{Pattern}
use Rattle.meaning.specs.Numbers.{most_steps}

-- the step at place k of a pattern's array, counted from 0
unfoldable pub step_in : Pattern → ℕ → Step
step_in p k = get_or p.steps k (record { parent = 0; axis = 0; label = 0 })

-- the child steps of the root are the pattern
pub root-children : (p : Pattern) → children_of (steps_in p) 0 ≡ pattern_of p
unfolding pattern_of
root-children p = children_of-root (steps_in p)

module _ (p : Pattern) (sound : WellFormed p) where
  -- as many steps are there as are counted
  pub length-steps : length (steps_in p) ≡ p.count
  unfolding steps_in
  length-steps = length-take-le p.count p.steps (omega (arith, sound.few, sound.full))

  -- at most 16
  pub few_steps : length (steps_in p) ≤ most_steps
  few_steps = omega (arith, length-steps, sound.few)

  -- as many as the forest has
  pub count-size : p.count ≡ size (pattern_of p)
  count-size = sym length-steps ∙ ap length (sym sound.written) ∙ length-steps_of (pattern_of p)

  -- step k + 1 stands at place k
  pub step_at_lem : (k : ℕ) → k < p.count → step_at (steps_in p) (suc k) ≡ step_in p k
  unfolding steps_in step_at step_in
  step_at_lem k h = get_or-take p.count p.steps k (record { parent = 0; axis = 0; label = 0 }) h

  -- step k stands at place k - 1
  pub step-number : (k : ℕ) → 1 ≤ k → k ≤ p.count → step_in p (k - 1) ≡ step_at (steps_in p) k
  step-number zero l h = absurd (omega arith)
  step-number (suc k) l h = ap (step_in p) (omega arith) ∙ sym (step_at_lem k h)

  -- the steps from a place on
  pub steps_from_lem : (k : ℕ) → k < p.count → drop k (steps_in p) ≡ step_in p k ∷ drop (suc k) (steps_in p)
  unfolding step_at
  steps_from_lem k h =
      drop-cons (steps_in p) k (record { parent = 0; axis = 0; label = 0 }) (rw length-steps h)
      ∙ ap (λ (s : Step). s ∷ drop (suc k) (steps_in p)) (step_at_lem k h)

  -- past the last there are none
  pub steps-end : (k : ℕ) → p.count ≤ k → drop k (steps_in p) ≡ []
  steps-end k h = drop_of_length-le (steps_in p) {i = k} (rw length-steps h)

  -- the parents of the steps rise
  pub steps_rise : Rising (step_parents (steps_in p))
  steps_rise = subst (λ (ss : List Step). Rising (step_parents ss)) sound.written (written_rises (pattern_of p))

  -- so the parent of a step has a lower number
  pub parent-low : (k : ℕ) → k < p.count → (step_in p k).parent ≤ k
  parent-low k h =
      let low = parent-before (steps_in p) steps_rise (suc k) (omega arith) (rw length-steps h) in
      omega (arith, ap (λ (s : Step). s.parent) (step_at_lem k h))

  -- after step v, or the root, stand the steps below it
  pub block_in : (v : ℕ) → v ≤ p.count → Block v (drop v (steps_in p))
  block_in v h = block_of v (pattern_of p) (steps_in p) sound.written (rw length-steps h)

  -- ---- the children of step v from place k on
  module _ (v k : ℕ) where
    -- the step at place k is one
    pub child_here : k < p.count → (step_in p k).parent ≡ v
        → children_from (steps_in p) v k
        ≡ step (axis_of (step_in p k).axis) (step_in p k).label (children_of (steps_in p) (k + 1)) (children_from (steps_in p) v (k + 1))
    child_here h e = rw (add-one, ← step_at_lem k h) (child_first (steps_in p) v k (rw length-steps h) (rw (← step_at_lem k h) at e))

    -- it is none
    pub child_not : k < p.count → ((step_in p k).parent ≡ v → ⊥) → children_from (steps_in p) v k ≡ children_from (steps_in p) v (k + 1)
    child_not h e = rw add-one (other_first (steps_in p) v k (rw length-steps h) (λ q. e (rw (step_at_lem k h) at q)))

    -- none is left
    pub children-end : p.count ≤ k → children_from (steps_in p) v k ≡ none
    children-end h = none_first (steps_in p) v k (rw length-steps h)

  -- ---- whether step v has child steps is told by the step after it
  module _ (v : ℕ) where
    -- there is none
    pub last-is_leaf : p.count ≤ v → true ≡ is_none (children_of (steps_in p) v)
    unfolding is_none children_of
    last-is_leaf h = ap is_none (sym (children-end v v h))

    -- it hangs on v
    has_child : v < p.count → (step_in p v).parent ≡ v → is_none (children_of (steps_in p) v) ≡ false
    unfolding is_none children_of
    has_child h e = ap is_none (child_here v v h e)

    -- it hangs elsewhere
    is_leaf : v < p.count → ((step_in p v).parent ≡ v → ⊥) → is_none (children_of (steps_in p) v) ≡ true
    unfolding is_none children_of children_from
    is_leaf h e =
        let b : Block v (step_in p v ∷ drop (suc v) (steps_in p)) = rw (← steps_from_lem v h) (block_in v (omega arith)) in
        let read = read_back v (suc v) b.below b.after (omega arith) b.outside in
        rw (steps_from_lem v h, b.split, read) (ap is_none (empty_block b e))

    -- either way it tells
    pub next_tells : v < p.count → not (eqb (step_in p v).parent v) ≡ is_none (children_of (steps_in p) v)
    next_tells h =
        ⊎_elim
        (λ e. ap not e ∙ sym (has_child h (eqb-true (step_in p v).parent v e)))
        (λ e. ap not e ∙ sym (is_leaf h (eqb-false (step_in p v).parent v e)))
        (true_or_false (eqb (step_in p v).parent v))
