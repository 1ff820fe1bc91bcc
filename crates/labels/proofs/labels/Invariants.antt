-- `labels::labels` meets its contract.
-- The invariant: i labels are read, and the next one stands at x.
use Rattle.places.specs.ReadingLoop.{ReadSoFar}
use Rattle.labels.specs.LabelSection.{label_place}
use Rattle.labels.proofs.labels.Given as goal

abbrev pub invariant-loop-i : goal.invariant-loop-i
invariant-loop-i l = ReadSoFar (label_place l.s l.k l.d l.p) l.n l.p l.i l.x
