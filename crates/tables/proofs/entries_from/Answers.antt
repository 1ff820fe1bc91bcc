use Rattle.std.proofs.lemmas.Result.{err_from_is_err_and}
use Rattle.places.specs.ReadingLoop.{reads_on, reads-fault, all_read}
use native.Mathlib.Omega.{arith}
use Rattle.tables.proofs.entries_from.Goals as goal

pub returns-in_err-x : goal.returns-in_err-x
returns-in_err-x c =
    let p = err_from_is_err_and c.from_residual.result c.from_residual.ensures.1 in
    rw (p.1, p.2) (reads-fault c.loop.invariant (omega arith) c.entry.ensures c.in_err-x.was)

pub loop-preserved : goal.loop-preserved
loop-preserved c =
    reads_on c.loop.invariant (omega arith) c.entry.ensures c.in_ok-x.was

pub returns : goal.returns
returns c = all_read c.loop.invariant (omega arith)
