-- `spelling::only_pattern` meets its contract.
use Rattle.base.specs.Exits.{exits}
use Rattle.base.specs.Loops.{and_then}
use Rattle.spelling.specs.OnlyPattern.{only_section}
use Rattle.spelling.proofs.only_pattern.Goals as goal

pub returns : goal.returns
unfolding only_section and_then
returns c = rw (← c.pattern.ensures, c.in_ok-x.was) c.end.ensures

pub returns-in_err-x : goal.returns-in_err-x
unfolding only_section and_then
returns-in_err-x c =
    rw (exits _ _ c.from_residual.ensures.1, ← c.pattern.ensures, c.in_err-x.was)
