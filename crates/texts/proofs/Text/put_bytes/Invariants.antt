-- `texts::Text::put_bytes` meets its contract. The loop: what is left of the bytes, put from here, gives what all of them give.
use Rattle.std.proofs.Common.{drop}
use Rattle.texts.specs.Puts.{StillToPut}
use Rattle.texts.proofs.Text.put_bytes.Given as goal

abbrev pub invariant-loop-b : goal.invariant-loop-b
invariant-loop-b l = StillToPut l.initial.self l.bytes l.self (drop l.b-index l.bytes)
