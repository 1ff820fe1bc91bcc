-- `hub_bench::bench_read_line` meets its contract: the number, the place and the length of the hub's answer, and what it writes.
use Rattle.meaning.specs.Given.{refusal, gives, lined_given}
use Rattle.laws.specs.AnswerNumbers.{by_number_lem, read_line_told}
use Rattle.hub_bench.proofs.bench_read_line.Goals as goal

pub returns-in-Err : goal.returns-in-Err
unfolding lined_given refusal
returns-in-Err c = rw c.number.ensures (let given = c.read_line.ensures in record { answer = by_number_lem lined_given (read_line_told _ _ _) c.in-Err.is given.answer; output = given.output })

pub returns-in-Ok : goal.returns-in-Ok
unfolding lined_given gives
returns-in-Ok c =
    let given = c.read_line.ensures in
    record { answer = by_number_lem lined_given (read_line_told _ _ _) c.in-Ok.is given.answer; output = given.output }
