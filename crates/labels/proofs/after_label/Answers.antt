-- `labels::after_label` meets its contract.
use native.Mathlib.Omega.{arith}
use Rattle.base.specs.Choice.{picks}
use Rattle.labels.specs.LabelPlaces.{after_label}
use Rattle.labels.proofs.after_label.Goals as goal

pub returns-then-p-s : goal.returns-then-p-s
unfolding after_label
returns-then-p-s c = (rw (← c.byte_at.ensures.0) (search picks depth 15), omega arith)

pub returns : goal.returns
unfolding after_label
returns c = (search picks depth 15, omega arith)
