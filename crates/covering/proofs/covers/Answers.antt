-- `covers` meets its contract: nothing is noted yet.
use Rattle.covering.specs.PairNotes.{nothing-noted}
use Rattle.covering.proofs.covers.Goals as goal

pub covers_noting-requires : goal.covers_noting-requires
covers_noting-requires c =
    nothing-noted c.args.a c.args.b c.requires.0 c.requires.1
