-- `labels::label_at` meets its contract. No label, or the bytes at the label's place.
use mathlib.Core.Path.{ap, ◌∙◌}
use native.Mathlib.Omega.{arith}
use Rattle.labels.specs.LabelPlaces.{text_at}
use Rattle.labels.specs.LabelLoops.{label_zero, label_over, label_there}
use Rattle.labels.proofs.label_at.Goals as goal
use Rattle.labels.proofs.label_at.Goals.{then-n-eq0-via-then-n-eq0, then-n-eq0-via-else-n-eq0+then-byte_at-n}

pub returns-then-n-eq0 : goal.returns-then-n-eq0
returns-then-n-eq0 c =
    elim c.then-n-eq0.branch [
      | then-n-eq0-via-then-n-eq0 w ↦ label_zero _ _ w.if-n-eq0.true
      | then-n-eq0-via-else-n-eq0+then-byte_at-n w ↦ label_over _ _ (omega (arith, w.if-byte_at-n.true, w.byte_at.ensures.0))
    ]

pub returns : goal.returns
returns c =
    c.text_at.ensures
    ∙ ap (text_at _) c.after_labels.ensures.0
    ∙ label_there _ _ c.if-n-eq0.false (omega (arith, c.byte_at.ensures.0))
