-- `places::end` meets its contract.
use Rattle.base.specs.Choice.{picks}
use Rattle.places.specs.Bytes.{end_place}
use Rattle.places.proofs.end.Goals as goal

pub returns-then-x-s : goal.returns-then-x-s
unfolding end_place
returns-then-x-s c = search picks depth 15

pub returns : goal.returns
unfolding end_place
returns c = search picks depth 15
