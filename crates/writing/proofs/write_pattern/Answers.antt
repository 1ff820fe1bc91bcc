-- `writing::write_pattern` meets its contract, where there is room and where there is none.
use Rattle.writing.specs.Gives.{gives-stored, gives-not_stored}
use Rattle.writing.proofs.write_pattern.Goals as goal

pub returns-then-out-n : goal.returns-then-out-n
returns-then-out-n c = gives-not_stored _ _ _ c.pattern_length-n.ensures.0 c.if-out-n.true

pub returns : goal.returns
returns c = gives-stored _ _ _ c.pattern_length-n.ensures.0 c.if-out-n.false _ c.put_pattern.ensures.1
