-- A walk over the steps after step w, up to the first whose parent is above it, is a walk over the child steps of w.
use Prim.Native.Nat.{ℕ, suc, ◌+◌, ◌≤◌, ◌<◌}
use Rattle.std.specs.Prelude.{◌≡◌, ltb, drop}
use Rattle.std.proofs.Math.Path.{refl, ap}
use Rattle.std.proofs.Common.{◌∙◌, add-one}
use mathlib.Core.List.{List, [], ◌∷◌, ◌++◌}
use native.Mathlib.Omega.{arith}
use borrow.Author.Tests.{lt-ltb, le-ltb}
use Rattle.base.specs.Choice.{pick}
use Rattle.meaning.specs.Forest.{Forest, none, step, size, children_in, steps_from}
use Rattle.meaning.specs.declared.Step.{Step}
use Rattle.laws.specs.Outside.{Outside, outside_later, afterwards, outside-afterwards, written_step, steps-split, read_back}
use Rattle.laws.specs.Blocks.{Ends}
use Rattle.laws.specs.Children.{children_from, children_of}
use Rattle.shapes.specs.Shapes.{steps_in, WellFormed}
use Rattle.shapes.specs.Steps.{step_in, steps_from_lem, steps-end, block_in}
use Rattle.shapes.specs.declared.Pattern.{Pattern}

-- the steps from number k on: each with its child steps makes something of what those after it make
unfoldable pub over_steps : {R : Type 0} → (Step → Forest → R → R) → R → ℕ → ℕ → List Step → R
over_steps visit end w k [] = end
over_steps visit end w k (s ∷ ss) =
    pick (ltb s.parent w) end (visit s (children_in k (suc k) ss) (over_steps visit end w (suc k) ss))

-- the same of a forest that is written below p, its first step numbered k
unfoldable pub over_forest : {R : Type 0} → (Step → Forest → R → R) → ℕ → ℕ → Forest → R → R
over_forest visit p k none r = r
over_forest visit p k (step a m kids later) r =
    visit (written_step p a m) kids (over_forest visit k (suc k) kids (over_forest visit p (suc k + size kids) later r))

-- from place u of the steps on
unfoldable pub over_from : {R : Type 0} → (Step → Forest → R → R) → R → List Step → ℕ → ℕ → R
over_from visit end ss w u = over_steps visit end w (suc u) (drop u ss)

module _ {R : Type 0} (visit : Step → Forest → R → R) (end : R) (w : ℕ) where
  -- nothing is visited past the block
  ended : (k : ℕ) (after : List Step) → Ends w after → over_steps visit end w k after ≡ end
  unfolding over_steps Ends pick
  ended k [] e = refl
  ended k (s ∷ ss) e = rw (lt-ltb s.parent w e)

  -- the steps of a forest are visited as the forest is
  over_written : (p k : ℕ) (f : Forest) (after : List Step) → w ≤ p → p < k → Outside p (k + size f) after
      → over_steps visit end w k (steps_from p k f ++ after) ≡ over_forest visit p k f (over_steps visit end w (k + size f) after)
  unfolding over_steps over_forest pick size steps_from afterwards written_step
  over_written p k none after l h o = ap (λ (n : ℕ). over_steps visit end w n after) (omega arith)
  over_written p k (step a m kids later) after l h o =
      let o' = outside_later p k a m kids later after o in
      let out = outside-afterwards p k kids later after h o' in
      let below = read_back k (suc k) kids (afterwards p k kids later after) (omega arith) out in
      let inside = over_written k (suc k) kids (afterwards p k kids later after) (omega arith) (omega arith) out in
      let beside = over_written p (suc k + size kids) later after l (omega arith) o' in
      let n1 : suc k + size kids + size later ≡ k + suc (size kids + size later) = omega arith in
      ap (over_steps visit end w k) (steps-split p k a m kids later after) ∙ rw (le-ltb p w l, below, inside, beside, n1)

  -- ---- one law for each way through a loop over the steps of a pattern
  module _ (p : Pattern) (sound : WellFormed p) where
    -- it starts right after w
    pub over_starts : w ≤ p.count → over_from visit end (steps_in p) w w ≡ over_forest visit w (suc w) (children_of (steps_in p) w) end
    unfolding over_from children_of children_from
    over_starts h =
        let b = block_in p sound w h in
        let back = read_back w (suc w) b.below b.after (omega arith) b.outside in
        let walked = over_written w (suc w) b.below b.after (omega arith) (omega arith) b.outside in
        rw (b.split, back) (walked ∙ rw (ended (suc w + size b.below) b.after b.ends))

    module _ (u : ℕ) where
      -- a step of the block
      pub over_step : u < p.count → w ≤ (step_in p u).parent
          → over_from visit end (steps_in p) w u ≡ visit (step_in p u) (children_of (steps_in p) (u + 1)) (over_from visit end (steps_in p) w (u + 1))
      unfolding over_from over_steps pick children_of children_from
      over_step h l = rw (add-one u, steps_from_lem p sound u h, le-ltb (step_in p u).parent w l)

      -- the block ends
      pub over_ends : u < p.count → (step_in p u).parent < w → over_from visit end (steps_in p) w u ≡ end
      unfolding over_from over_steps pick
      over_ends h l = rw (steps_from_lem p sound u h, lt-ltb (step_in p u).parent w l)

      -- the steps end
      pub over_done : p.count ≤ u → over_from visit end (steps_in p) w u ≡ end
      unfolding over_from over_steps
      over_done h = rw (steps-end p sound u h)
