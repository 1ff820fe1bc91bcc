-- `lines::steps::may_end` meets its contract.
use Rattle.lines.specs.Ends.{may_end_at, may_end_nowhere}
use Rattle.lines.proofs.steps.may_end.Goals as goal

pub returns-in-Dot : goal.returns-in-Dot
unfolding may_end_at
returns-in-Dot c = cc

pub returns-in-Ended : goal.returns-in-Ended
unfolding may_end_at
returns-in-Ended c = cc

pub returns-in_default : goal.returns-in_default
returns-in_default c = may_end_nowhere _ _ c.in_default.not-Dot c.in_default.not-Ended
