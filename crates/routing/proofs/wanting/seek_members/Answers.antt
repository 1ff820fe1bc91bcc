use Rattle.std.proofs.Common.{refl, arith}
use Rattle.meaning.specs.Calls.{subscription}
use Rattle.routing.specs.Wanting.{seeking_starts, seeking_stops, seeking_goes_on, seeking_ends}
use Rattle.routing.proofs.wanting.seek_members.Goals as goal

pub loop-i-init : goal.loop-i-init
loop-i-init c = seeking_starts

pub returns-then-asked : goal.returns-then-asked
unfolding subscription
returns-then-asked c = seeking_stops c.loop-i.invariant (omega arith) refl c.try_member-asked.ensures c.if-asked.true

pub loop-i-preserved : goal.loop-i-preserved
unfolding subscription
loop-i-preserved c = seeking_goes_on c.loop-i.invariant (omega arith) refl c.try_member-asked.ensures c.if-asked.false

pub returns : goal.returns
returns c = seeking_ends c.loop-i.invariant (omega arith)
