-- `known_at` meets its contract: the pair's cell, or that the step doesn't lie there.
use Rattle.base.specs.Choice.{picks}
use Rattle.covering.specs.PairNotes.{known_at}
use Rattle.covering.proofs.known_at.Goals as goal

pub returns-then-may : goal.returns-then-may
unfolding known_at
returns-then-may c = rw (← c.cell.ensures.0) (search picks)

pub returns-else-may : goal.returns-else-may
unfolding known_at
returns-else-may c = search picks
