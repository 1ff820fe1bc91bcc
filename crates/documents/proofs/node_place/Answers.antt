-- `documents::node_place` meets its contract.
use native.Mathlib.Omega.{arith}
use Rattle.documents.specs.DocumentSection.{node_count_at}
use Rattle.documents.proofs.node_place.Goals as goal

pub returns : goal.returns
unfolding node_count_at
returns c = (rw (← c.byte_at.ensures.0, ← c.after_labels.ensures.0), omega arith)
