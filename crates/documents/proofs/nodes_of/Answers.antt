-- `documents::nodes_of` meets its contract: they stand where they are looked for, and as many.
use Rattle.documents.specs.DocumentSection.{document_at}
use Rattle.documents.proofs.nodes_of.Goals as goal

pub returns : goal.returns
unfolding document_at
returns c = rw (c.node_place.ensures.0, c.node_count.ensures.0)
