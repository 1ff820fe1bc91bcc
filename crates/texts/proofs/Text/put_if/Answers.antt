-- `texts::Text::put_if` meets its contract. The byte is put, or left out.
use Rattle.std.proofs.Common.{refl}
use Rattle.texts.specs.PutText.{put}
use Rattle.texts.specs.Wanted.{byte_put, byte-left-out}
use Rattle.texts.proofs.Text.put_if.Goals as goal

pub returns-then-wanted : goal.returns-then-wanted
unfolding put
returns-then-wanted c =
    record { same = c.put_byte.ensures.same; puts = byte_put _ _ _ _ c.if-wanted.true c.put_byte.ensures.puts }

pub returns-else-wanted : goal.returns-else-wanted
returns-else-wanted c = record { same = refl; puts = byte-left-out _ _ _ c.if-wanted.false }
