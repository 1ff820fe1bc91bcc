-- The steps below a step of a pattern, copied after other steps: they are the same forest, written there.
use Prim.Native.Nat.{ℕ, suc, ◌+◌, ◌-◌, ◌≤◌, ◌<◌}
use Rattle.std.specs.Prelude.{◌≡◌}
use Rattle.std.proofs.Math.Path.{refl}
use Rattle.std.proofs.Common.{◌∙◌}
use Rattle.std.proofs.Math.Bool.{true}
use mathlib.Core.List.{List, [], ◌∷◌, ◌++◌, append_assoc, append-nil}
use native.Mathlib.Omega.{arith}
use Rattle.std.proofs.Math.Dec.{eqb}
use borrow.Author.Tests.{eq-eqb, ne_eqb}
use Rattle.base.specs.Choice.{pick}
use Rattle.meaning.specs.Forest.{axis_of, Forest, none, step, size, steps_from, steps_of}
use Rattle.meaning.specs.declared.Step.{Step}
use Rattle.shapes.specs.Shapes.{steps_in}
use Rattle.shapes.specs.Holding.{Holds, StandsFor, stands}
use Rattle.shapes.specs.declared.Pattern.{Pattern}
use Rattle.laws.specs.Bridge.{axis-read}
use Rattle.laws.specs.Outside.{written_step}
use Rattle.covering.specs.OverBlock.{over_forest}

-- one step with a forest written below it
pub one_branch : (r t : Pattern) (axis label : ℕ) (kids : Forest) → axis ≤ 1 → Holds r (record { parent = 0; axis = axis; label = label } ∷ [])
    → Holds t (steps_in r ++ steps_from 1 (suc r.count) kids) → StandsFor t (step (axis_of axis) label kids none)
unfolding steps_of steps_from
one_branch r t axis label kids h one whole =
    let same : steps_in r ++ steps_from 1 (suc r.count) kids ≡ steps_of (step (axis_of axis) label kids none) =
    rw (one.steps, one.number, axis-read axis h, append-nil) in
    stands t _ (rw same at whole)

-- step s of the block below v, as it stands after n steps, with the children of v below `top`
unfoldable pub moved_step : ℕ → ℕ → ℕ → Step → Step
moved_step v n top s = record { parent = pick (eqb s.parent v) top (s.parent - v + n); axis = s.axis; label = s.label }

-- it is copied before those after it
unfoldable pub copy_step : ℕ → ℕ → ℕ → Step → Forest → List Step → List Step
copy_step v n top s kids later = moved_step v n top s ∷ later

module _ (v n top : ℕ) where
  -- the number that stands in the place of a parent
  new_parent : ℕ → ℕ
  new_parent p = pick (eqb p v) top (p - v + n)

  -- below a deeper step a parent moves by as much as all do
  deeper : (k : ℕ) → v < k → new_parent k ≡ k - v + n
  unfolding new_parent pick
  deeper k h = rw (ne_eqb k v (λ e. omega arith))

  -- a forest written below p is moved to where p stands now
  moved-forest : (p k : ℕ) (f : Forest) (rest : List Step) → v ≤ p → p < k
      → over_forest (copy_step v n top) p k f rest ≡ steps_from (new_parent p) (k - v + n) f ++ rest
  unfolding over_forest copy_step moved_step steps_from new_parent pick written_step
  moved-forest p k none rest l h = refl
  moved-forest p k (step a m kids later) rest l h =
      let inside = moved-forest k (suc k) kids (over_forest (copy_step v n top) p (suc k + size kids) later rest) (omega arith) (omega arith) in
      let beside = moved-forest p (suc k + size kids) later rest l (omega arith) in
      let down = deeper k (omega arith) in
      let n1 : suc k - v + n ≡ suc (k - v + n) = omega arith in
      let n2 : suc k + size kids - v + n ≡ suc (k - v + n) + size kids = omega arith in
      rw (inside, down, n1, beside, n2, append_assoc)

  -- what stands below v, moved after n steps
  pub moved_block : (f : Forest) → over_forest (copy_step v n top) v (suc v) f [] ≡ steps_from top (suc n) f
  unfolding new_parent pick
  moved_block f =
      let n1 : suc v - v + n ≡ suc n = omega arith in
      let own : eqb v v ≡ true = eq-eqb v v refl in
      moved-forest v (suc v) f [] (omega arith) (omega arith) ∙ rw (own, n1) (append-nil (steps_from top (suc n) f))
