-- `documents::nodes_from` meets its contract.
-- The invariant: i nodes are read, and the next one stands at x.
use Rattle.places.specs.ReadingLoop.{ReadSoFar}
use Rattle.documents.specs.DocumentSection.{node_place}
use Rattle.documents.proofs.nodes_from.Given as goal

abbrev pub invariant-loop-i : goal.invariant-loop-i
invariant-loop-i l = ReadSoFar (node_place l.d l.known) l.n l.p l.i l.x
