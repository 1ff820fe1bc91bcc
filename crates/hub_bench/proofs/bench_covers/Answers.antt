-- `hub_bench::bench_covers` meets its contract: the number and the yes or no of the hub's answer.
use Rattle.meaning.specs.Given.{refusal, gives, asked_given}
use Rattle.laws.specs.AnswerNumbers.{by_number_lem, covers_told}
use Rattle.hub_bench.proofs.bench_covers.Goals as goal

pub returns-in-Err : goal.returns-in-Err
unfolding asked_given refusal
returns-in-Err c = rw c.number.ensures (by_number_lem asked_given (covers_told _ _ _) c.in-Err.is c.covers.ensures)

pub returns-in-Ok : goal.returns-in-Ok
unfolding asked_given gives
returns-in-Ok c = by_number_lem asked_given (covers_told _ _ _) c.in-Ok.is c.covers.ensures
