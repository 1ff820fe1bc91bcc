-- `hub_c::hub_plain_route` meets its contract: the number and the set of the hub's answer; where it is refused the number is not 0.
use Rattle.meaning.specs.Given.{refusal, gives, routed_given}
use Rattle.laws.specs.AnswerNumbers.{by_number_lem, plain_route_told}
use Rattle.hub_c.proofs.hub_plain_route.Goals as goal

pub returns-in-Err : goal.returns-in-Err
unfolding routed_given refusal
returns-in-Err c = rw c.number.ensures (by_number_lem routed_given (plain_route_told _ _) c.in-Err.is c.plain_route.ensures)

pub returns-in-Ok : goal.returns-in-Ok
unfolding routed_given gives
returns-in-Ok c = by_number_lem routed_given (plain_route_told _ _) c.in-Ok.is c.plain_route.ensures
