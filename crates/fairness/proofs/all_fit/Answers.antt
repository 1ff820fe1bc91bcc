use Rattle.std.proofs.Common.{arith}
use Rattle.fairness.specs.Each.{fitting_starts, entry-fits, entry_doesn't_fit, fitting-ends}
use Rattle.fairness.proofs.all_fit.Goals as goal

pub loop-j-init : goal.loop-j-init
loop-j-init c = fitting_starts c.args.table.now.stand

pub returns-then-not-members_fit : goal.returns-then-not-members_fit
returns-then-not-members_fit c =
    entry_doesn't_fit c.loop-j.invariant (omega arith) c.members.ensures c.members_fit.ensures
    c.if-not-members_fit.true

pub loop-j-preserved : goal.loop-j-preserved
loop-j-preserved c =
    entry-fits c.loop-j.invariant (omega arith) c.members.ensures c.members_fit.ensures
    c.if-not-members_fit.false

pub returns : goal.returns
returns c = fitting-ends c.loop-j.invariant (omega arith)
