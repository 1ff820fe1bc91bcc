-- `subscriptions::step_at` meets its contract.
use mathlib.Core.Path.{refl}
use Rattle.reading.specs.SheetPlaces.{step_at_place}
use Rattle.subscriptions.proofs.step_at.Goals as goal

pub returns : goal.returns
unfolding step_at_place
returns c = refl
