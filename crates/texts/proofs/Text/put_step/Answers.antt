-- `texts::Text::put_step` meets its contract. The axis, and then the label.
use Rattle.texts.specs.Puts.{puts_then}
use Rattle.texts.specs.BranchTexts.{step_text}
use Rattle.texts.proofs.Text.put_step.Goals as goal

pub returns : goal.returns
unfolding step_text
returns c = puts_then c.put_axis.ensures (rw c.from.ensures at c.put_label.ensures)
