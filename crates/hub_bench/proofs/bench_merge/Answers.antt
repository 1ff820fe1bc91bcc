-- `hub_bench::bench_merge` meets its contract: the number, the mark and the length of the hub's answer, and what it writes.
use Rattle.meaning.specs.Given.{refusal, gives, merged_given}
use Rattle.laws.specs.AnswerNumbers.{by_number_lem, merge_told}
use Rattle.hub_bench.proofs.bench_merge.Goals as goal

pub returns-in-Err : goal.returns-in-Err
unfolding merged_given refusal
returns-in-Err c = rw c.number.ensures (let given = c.merge.ensures in record { answer = by_number_lem merged_given (merge_told _ _ _ _) c.in-Err.is given.answer; output = given.output })

pub returns-in-Ok : goal.returns-in-Ok
unfolding merged_given gives
returns-in-Ok c =
    let given = c.merge.ensures in
    record { answer = by_number_lem merged_given (merge_told _ _ _ _) c.in-Ok.is given.answer; output = given.output }
