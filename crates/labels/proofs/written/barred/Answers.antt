-- `labels::written::barred` meets its contract: each of the bytes, and no other.
use native.Mathlib.Omega.{arith}
use Rattle.labels.specs.WrittenLabels.{alone-barred, two-barred, not_barred}
use Rattle.labels.proofs.written.barred.Goals as goal

pub returns-in_default : goal.returns-in_default
returns-in_default c = not_barred _ (λ a. omega arith) (λ e. omega arith) (λ e. omega arith)

pub returns-in_default-2 : goal.returns-in_default-2
returns-in_default-2 c = not_barred _ (λ a. omega arith) (λ e. omega arith) (λ e. omega arith)

pub returns-in-47 : goal.returns-in-47
returns-in-47 c = alone-barred _ c.in-47.is

pub returns-in-47-2 : goal.returns-in-47-2
returns-in-47-2 c = two-barred _ (omega arith) (omega arith)
