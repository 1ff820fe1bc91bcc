use Rattle.base.specs.Exits.{exits}
use Rattle.places.specs.ReadingLoop.{reads_on, reads-fault, all_read}
use native.Mathlib.Omega.{arith}
use Rattle.reading.proofs.patterns.patterns_from.Goals as goal

pub returns-in_err-x : goal.returns-in_err-x
returns-in_err-x c =
    rw (exits _ _ c.from_residual.ensures.1) (reads-fault c.loop.invariant (omega arith) c.pattern.ensures c.in_err-x.was)

pub loop-preserved : goal.loop-preserved
loop-preserved c =
    reads_on c.loop.invariant (omega arith) c.pattern.ensures c.in_ok-x.was

pub returns : goal.returns
returns c = all_read c.loop.invariant (omega arith)
