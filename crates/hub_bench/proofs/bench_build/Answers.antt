-- `hub_bench::bench_build` meets its contract: the number, the rounds and the length of the hub's answer, and what it writes.
use Rattle.meaning.specs.Given.{refusal, gives, built_given}
use Rattle.laws.specs.AnswerNumbers.{by_number_lem, build_told}
use Rattle.hub_bench.proofs.bench_build.Goals as goal

pub returns-in-Err : goal.returns-in-Err
unfolding built_given refusal
returns-in-Err c = rw c.number.ensures (let given = c.build.ensures in record { answer = by_number_lem built_given (build_told _ _ _) c.in-Err.is given.answer; output = given.output })

pub returns-in-Ok : goal.returns-in-Ok
unfolding built_given gives
returns-in-Ok c =
    let given = c.build.ensures in
    record { answer = by_number_lem built_given (build_told _ _ _) c.in-Ok.is given.answer; output = given.output }
