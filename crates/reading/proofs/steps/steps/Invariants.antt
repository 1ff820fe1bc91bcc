-- `reading::steps::steps` meets its contract.
-- The invariant: k steps are read, and the next one stands at x.
use Rattle.places.specs.ReadingLoop.{ReadSoFar}
use Rattle.reading.specs.StepSection.{step_place}
use Rattle.reading.proofs.steps.steps.Given as goal

abbrev pub invariant-loop-k : goal.invariant-loop-k
invariant-loop-k l = ReadSoFar (step_place l.s l.known l.p) l.n l.p l.k l.x
