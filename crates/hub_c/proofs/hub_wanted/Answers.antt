-- `hub_c::hub_wanted` meets its contract: the number of the hub's answer, and yes or no; where it is refused the number is not 0.
use Rattle.meaning.specs.Given.{refusal, gives, asked_given}
use Rattle.laws.specs.AnswerNumbers.{by_number_lem, wanted_told}
use Rattle.hub_c.proofs.hub_wanted.Goals as goal

pub returns-in-Err : goal.returns-in-Err
unfolding asked_given refusal
returns-in-Err c = rw c.number.ensures (by_number_lem asked_given (wanted_told _ _ _) c.in-Err.is c.wanted.ensures)

pub returns-in-Ok : goal.returns-in-Ok
unfolding asked_given gives
returns-in-Ok c = by_number_lem asked_given (wanted_told _ _ _) c.in-Ok.is c.wanted.ensures
