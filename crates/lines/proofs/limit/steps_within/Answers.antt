-- `lines::limit::steps_within` meets its contract.
use mathlib.Core.Path.{refl, sym}
use native.Mathlib.Omega.{arith}
use lib.Seq.{length-take-le}
use Rattle.base.specs.Exits.{exits}
use Rattle.meaning.specs.Numbers.{longest_line}
use Rattle.lines.specs.Found.{off_line}
use Rattle.lines.specs.Limit.{within-limit, longer-sound, longer_off}
use Rattle.lines.proofs.limit.steps_within.Goals as goal

pub returns-then-line-le-LONGEST_LINE : goal.returns-then-line-le-LONGEST_LINE
returns-then-line-le-LONGEST_LINE c = within-limit _ _ _ c.if-line-le-LONGEST_LINE.true c.steps_of.ensures

pub slice_bounds-steps_of-end : goal.slice_bounds-steps_of-end
slice_bounds-steps_of-end c = sym (length-take-le longest_line c.args.line.now (omega arith))

pub returns : goal.returns
unfolding off_line
returns c = longer-sound _ _ (omega arith) _ c.in_ok-steps_of.ensures _ refl

pub returns-in_err-steps_of : goal.returns-in_err-steps_of
returns-in_err-steps_of c = rw (exits _ _ c.from_residual.ensures.1) (longer_off _ _ (omega arith) _ c.in_err-steps_of.ensures)
