-- `places::within` meets its contract.
use Rattle.base.specs.Choice.{picks}
use Rattle.places.proofs.within.Goals as goal

pub returns-then-n-most : goal.returns-then-n-most
returns-then-n-most c = search picks depth 5

pub returns-else-n-most : goal.returns-else-n-most
returns-else-n-most c = search picks depth 5
