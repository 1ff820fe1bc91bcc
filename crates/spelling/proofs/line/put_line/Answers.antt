-- `spelling::line::put_line` meets its contract.
use Rattle.std.proofs.Common.{rules}
use Rattle.texts.specs.Puts.{puts_all}
use Rattle.spelling.proofs.line.put_line.Goals as goal

pub returns : goal.returns
returns c = puts_all _ _ _ c.new-text.ensures.begins c.put_pattern.ensures (search rules)
