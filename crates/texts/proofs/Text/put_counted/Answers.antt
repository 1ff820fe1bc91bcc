-- `texts::Text::put_counted` meets its contract. The number, and then the bytes.
use Rattle.texts.specs.Puts.{puts_then}
use Rattle.texts.proofs.Text.put_counted.Goals as goal

pub returns : goal.returns
returns c = puts_then c.put_decimal.ensures c.put_bytes.ensures
