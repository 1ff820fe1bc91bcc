-- `hub_bench::bench_write_subscription` meets its contract: the number and the length of the hub's answer, and what it writes.
use Rattle.meaning.specs.Given.{refusal, gives, output_given}
use Rattle.laws.specs.AnswerNumbers.{by_number_lem, write_subscription_told}
use Rattle.hub_bench.proofs.bench_write_subscription.Goals as goal

pub returns-in-Err : goal.returns-in-Err
unfolding output_given refusal
returns-in-Err c = rw c.number.ensures (let given = c.write_subscription.ensures in record { answer = by_number_lem output_given (write_subscription_told _ _ _) c.in-Err.is given.answer; output = given.output })

pub returns-in-Ok : goal.returns-in-Ok
unfolding output_given gives
returns-in-Ok c =
    let given = c.write_subscription.ensures in
    record { answer = by_number_lem output_given (write_subscription_told _ _ _) c.in-Ok.is given.answer; output = given.output }
