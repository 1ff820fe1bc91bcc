use Rattle.std.proofs.Common.{arith}
use Rattle.meaning.specs.Calls.{subscription}
use Rattle.fairness.specs.Each.{standing_starts, subscription-stands, subscription_doesn't, standing-ends}
use Rattle.fairness.proofs.all_stand.Goals as goal

pub loop-i-init : goal.loop-i-init
loop-i-init c = standing_starts c.args.sheet.now.stand

pub returns-then-not-stands : goal.returns-then-not-stands
unfolding subscription
returns-then-not-stands c =
    subscription_doesn't c.loop-i.invariant (omega arith) c.pattern.ensures.0 c.stands.ensures
    c.if-not-stands.true

pub loop-i-preserved : goal.loop-i-preserved
unfolding subscription
loop-i-preserved c =
    subscription-stands c.loop-i.invariant (omega arith) c.pattern.ensures.0 c.stands.ensures
    c.if-not-stands.false

pub returns : goal.returns
returns c = standing-ends c.loop-i.invariant (omega arith)
