use Rattle.base.specs.Exits.{exits}
use Rattle.places.specs.ReadingLoop.{reads_on, reads-fault, all_read}
use Rattle.labels.specs.LabelSection.{labels_section}
use native.Mathlib.Omega.{arith}
use Rattle.labels.proofs.labels.Goals as goal

pub returns-in_err-x : goal.returns-in_err-x
unfolding labels_section
returns-in_err-x c =
    rw (exits _ _ c.from_residual.ensures.1) (reads-fault c.loop-i.invariant (omega arith) c.label.ensures c.in_err-x.was)

pub loop-i-preserved : goal.loop-i-preserved
loop-i-preserved c =
    reads_on c.loop-i.invariant (omega arith) c.label.ensures c.in_ok-x.was

pub returns : goal.returns
unfolding labels_section
returns c = all_read c.loop-i.invariant (omega arith)
