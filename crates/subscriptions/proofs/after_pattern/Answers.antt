-- `subscriptions::after_pattern` meets its contract.
use Rattle.reading.specs.SheetPlaces.{after_pattern}
use native.Mathlib.Omega.{arith}
use Rattle.subscriptions.proofs.after_pattern.Goals as goal

pub returns : goal.returns
unfolding after_pattern
returns c = (rw (← c.byte_at.ensures.0), omega arith)
