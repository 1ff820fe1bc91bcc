-- `documents::node_label` meets its contract.
use Rattle.base.specs.Choice.{picks}
use Rattle.documents.specs.DocumentSection.{node_label}
use Rattle.documents.proofs.node_label.Goals as goal

pub returns-then-d-x : goal.returns-then-d-x
unfolding node_label
returns-then-d-x c = search picks depth 15

pub returns-then-label-lt1 : goal.returns-then-label-lt1
unfolding node_label
returns-then-label-lt1 c = rw (← c.byte_at-label.ensures.0) (search picks depth 15)

pub returns-then-known-label : goal.returns-then-known-label
unfolding node_label
returns-then-known-label c = rw (← c.byte_at-label.ensures.0) (search picks depth 15)

pub returns : goal.returns
unfolding node_label
returns c = rw (← c.byte_at-label.ensures.0) (search picks depth 15)
