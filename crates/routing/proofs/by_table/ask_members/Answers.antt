use Rattle.std.proofs.Common.{refl, arith}
use Rattle.meaning.specs.Calls.{subscription}
use Rattle.routing.specs.Tabling.{members-start, members-go_on, members-end}
use Rattle.routing.proofs.by_table.ask_members.Goals as goal

pub loop-i-init : goal.loop-i-init
loop-i-init c = members-start

pub loop-i-preserved : goal.loop-i-preserved
unfolding subscription
loop-i-preserved c = members-go_on c.loop-i.invariant (omega arith) refl c.ask_member-so_far.ensures

pub returns : goal.returns
returns c = members-end c.loop-i.invariant (omega arith)
