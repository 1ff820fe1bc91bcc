-- `covering::said` meets its contract.
use Rattle.std.proofs.Common.{refl}
use Rattle.base.specs.Choice.{pick, picks}
use Rattle.covering.specs.PairNotes.{noted}
use Rattle.covering.proofs.said.Goals as goal

pub returns-in-1 : goal.returns-in-1
unfolding noted
returns-in-1 c = search picks

pub returns-in-2 : goal.returns-in-2
unfolding noted pick
returns-in-2 c = rw c.in-2.is refl

pub returns-in_default : goal.returns-in_default
unfolding noted
returns-in_default c = search picks
