-- `lines::steps::steps_of` meets its contract.
-- The invariant: how far the line has been read is a stand of the definition; the measure: the bytes that are left.
use Prim.Native.Nat.{◌-◌}
use lib.ListN.{length}
use Rattle.labels.specs.LabelPlaces.{labels_in}
use Rattle.lines.specs.ReadSoFar.{Reached}
use Rattle.lines.proofs.steps.steps_of.Given as goal

abbrev pub invariant-loop-c : goal.invariant-loop-c
invariant-loop-c l = Reached (labels_in l.s) l.line l.c l.opens l.steps

abbrev pub decreases-loop-c : goal.decreases-loop-c
decreases-loop-c l = length l.line - l.c.at
