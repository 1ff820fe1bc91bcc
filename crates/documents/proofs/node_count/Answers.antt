-- `documents::node_count` meets its contract.
use Rattle.documents.specs.DocumentSection.{node_count_at}
use Rattle.documents.proofs.node_count.Goals as goal

pub returns : goal.returns
unfolding node_count_at
returns c =
    let pair = c.pair_at.ensures in
    (rw (← c.byte_at.ensures.0, ← c.after_labels.ensures.0) pair.0, pair.1)
