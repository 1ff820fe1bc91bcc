-- `texts::Text::put_label` meets its contract. Any, or the bytes of the label.
use Rattle.std.proofs.Common.{sym, ◌∙◌}
use Rattle.texts.specs.Puts.{puts_is}
use Rattle.texts.specs.StepTexts.{any_text, label_text_lem}
use Rattle.texts.proofs.Text.put_label.Goals as goal

pub returns-then-l-eq0 : goal.returns-then-l-eq0
returns-then-l-eq0 c = puts_is (any_text _ _ c.if-l-eq0.true) c.put_bytes.ensures

pub returns-else-l-eq0 : goal.returns-else-l-eq0
returns-else-l-eq0 c =
    puts_is (label_text_lem _ _ c.if-l-eq0.false ∙ sym c.label_at.ensures) c.put_bytes-else-l-eq0.ensures
