use Rattle.std.proofs.Common.{sym, ◌∙◌, arith}
use Rattle.turns.specs.Names.{label-stops, label-goes_on, label-ends}
use Rattle.turns.proofs.names.label_end.Goals as goal

pub returns-then-barred : goal.returns-then-barred
returns-then-barred c =
    let l = c.loop-i in
    (label-stops _ l.i _ l.invariant c.loop-i-test.true (sym c.barred.ensures ∙ c.if-barred.true), omega arith)

pub loop-i-preserved : goal.loop-i-preserved
loop-i-preserved c =
    let l = c.loop-i in
    label-goes_on _ l.i _ l.invariant c.loop-i-test.true (sym c.barred.ensures ∙ c.if-barred.false)

pub returns : goal.returns
returns c =
    let l = c.loop-i in
    (omega (arith, label-ends _ l.i _ l.invariant c.loop-i-test.false), omega arith)
