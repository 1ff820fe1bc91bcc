-- `turns::names::name_at` meets its contract.
use native.Mathlib.Omega.{arith}
use Rattle.turns.specs.Names.{star-name, label-name}
use Rattle.turns.proofs.names.name_at.Goals as goal

pub returns-then-line-at-eq42 : goal.returns-then-line-at-eq42
returns-then-line-at-eq42 c = (star-name _ _ _ c.if-line-at-eq42.true, omega arith)

pub returns : goal.returns
returns c =
    let end = c.label_end-end.ensures in
    (label-name _ _ _ _ _ c.if-line-at-eq42.false end.0 c.number_of-label.ensures, end.1)
