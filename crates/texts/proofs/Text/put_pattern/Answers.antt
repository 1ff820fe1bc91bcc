-- `texts::Text::put_pattern` meets its contract. A dot, or the branches below the root.
use Rattle.texts.specs.Puts.{puts_is}
use Rattle.texts.specs.BranchTexts.{dot-text, pattern_text_lem}
use Rattle.texts.proofs.Text.put_pattern.Goals as goal

pub returns-then-p-eq0 : goal.returns-then-p-eq0
returns-then-p-eq0 c = puts_is (dot-text _ c.args.p.now c.if-p-eq0.true) c.put_bytes.ensures

pub returns-else-p-eq0 : goal.returns-else-p-eq0
returns-else-p-eq0 c = puts_is (pattern_text_lem _ c.args.p.now c.requires c.if-p-eq0.false) c.put_below.ensures
