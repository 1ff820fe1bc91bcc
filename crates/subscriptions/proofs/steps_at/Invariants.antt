-- `subscriptions::steps_at` meets its contract.
-- The invariant: what is filled is what stands there, and behind it all is empty.
use Rattle.reading.specs.SheetPlaces.{step_at_place, after_step}
use Rattle.shapes.specs.Shapes.{no_steps}
use lib.ListN.{length, drop}
use mathlib.Core.Path.{◌≡◌}
use Prim.Native.Nat.{◌+◌, ◌*◌}
use Rattle.base.specs.Standing.{FilledUpTo}
use Rattle.meaning.specs.Numbers.{most_steps}
use Rattle.subscriptions.proofs.steps_at.Given as goal

abbrev pub invariant-loop-i : goal.invariant-loop-i
invariant-loop-i l = (length l.steps ≡ most_steps) × FilledUpTo (step_at_place l.s) after_step l.p l.steps l.i (l.p + 3 * l.i) × (drop l.i l.steps ≡ drop l.i no_steps.steps)
