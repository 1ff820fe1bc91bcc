-- `texts::Text::put_axis` meets its contract. One stroke or two.
use Rattle.texts.specs.Puts.{puts_is}
use Rattle.texts.specs.StepTexts.{near-text, far-text}
use Rattle.texts.proofs.Text.put_axis.Goals as goal

pub returns-then-axis-eq0 : goal.returns-then-axis-eq0
returns-then-axis-eq0 c = puts_is (near-text _ c.if-axis-eq0.true) c.put_bytes.ensures

pub returns-else-axis-eq0 : goal.returns-else-axis-eq0
returns-else-axis-eq0 c = puts_is (far-text _ c.if-axis-eq0.false) c.put_bytes-else-axis-eq0.ensures
