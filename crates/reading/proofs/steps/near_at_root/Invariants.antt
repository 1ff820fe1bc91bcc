-- `reading::steps::near_at_root` meets its contract.
-- The invariant: what is left from here gives what all gives from the start.
use mathlib.Core.Path.{◌≡◌}
use Prim.Native.Nat.{◌+◌, ◌*◌, ◌-◌}
use Rattle.base.specs.Standing.{standing}
use Rattle.meaning.specs.Sections.{is_near_root}
use Rattle.base.specs.Lists.{some}
use Rattle.reading.specs.SheetPlaces.{step_at_place, after_step}
use Rattle.reading.proofs.steps.near_at_root.Given as goal

abbrev pub invariant-loop-i : goal.invariant-loop-i
invariant-loop-i l = some is_near_root (standing (step_at_place l.s) after_step (l.p + 3 * l.i) (l.k - l.i)) ≡ some is_near_root (standing (step_at_place l.s) after_step l.p l.k)
