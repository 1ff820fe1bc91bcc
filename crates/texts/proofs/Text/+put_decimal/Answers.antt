-- `texts::Text::put_decimal` meets its contract. The tenth is a smaller number, so the calls end.
use Rattle.std.proofs.Common.{◌∙◌, arith}
use Rattle.texts.specs.PutText.{put}
use Rattle.texts.specs.Decimals.{digit-put, last-put}
use Rattle.texts.proofs.Text.+put_decimal.Goals as goal

pub returns-then-n-lt10 : goal.returns-then-n-lt10
unfolding put
returns-then-n-lt10 t c =
    record { same = c.put_byte.ensures.same; puts = digit-put _ _ _ (omega arith) c.put_byte.ensures.puts }

pub returns-else-n-lt10 : goal.returns-else-n-lt10
unfolding put
returns-else-n-lt10 t c =
    let higher = c.put_decimal.ensures in
    let last = c.put_byte-else-n-lt10.ensures in
    record { same = last.same ∙ higher.same; puts = last-put _ _ _ _ (omega arith) higher.puts last.puts }
