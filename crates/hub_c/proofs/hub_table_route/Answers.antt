-- `hub_c::hub_table_route` meets its contract: the number, the set and the tries of the hub's answer; where it is refused the number is not 0.
use Rattle.meaning.specs.Given.{refusal, gives, tabled_given}
use Rattle.laws.specs.AnswerNumbers.{by_number_lem, table_route_told}
use Rattle.hub_c.proofs.hub_table_route.Goals as goal

pub returns-in-Err : goal.returns-in-Err
unfolding tabled_given refusal
returns-in-Err c = rw c.number.ensures (by_number_lem tabled_given (table_route_told _ _ _) c.in-Err.is c.table_route.ensures)

pub returns-in-Ok : goal.returns-in-Ok
unfolding tabled_given gives
returns-in-Ok c = by_number_lem tabled_given (table_route_told _ _ _) c.in-Ok.is c.table_route.ensures
