-- `documents::node` meets its contract.
use Rattle.base.specs.Choice.{picks}
use Rattle.documents.specs.DocumentSection.{node_section, node_label}
use Rattle.documents.proofs.node.Goals as goal

pub returns-then-d-x : goal.returns-then-d-x
unfolding node_section
returns-then-d-x c = search picks depth 15

pub returns-then-d-x-2 : goal.returns-then-d-x-2
unfolding node_section
returns-then-d-x-2 c = search picks depth 15

pub returns-then-node_parent : goal.returns-then-node_parent
unfolding node_section node_label
returns-then-node_parent c = rw (← c.pair_at-parent.ensures.0, ← c.node_parent.ensures) (search picks depth 15)

pub returns : goal.returns
unfolding node_section
returns c = rw (← c.pair_at-parent.ensures.0, ← c.node_parent.ensures) (search picks depth 15)
