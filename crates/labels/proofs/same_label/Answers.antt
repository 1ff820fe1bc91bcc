-- `labels::same_label` meets its contract: all bytes decide; where lengths or beginnings differ, so do the labels.
use Rattle.std.proofs.Common.{sym, ◌∙◌}
use Rattle.labels.specs.LabelLoops.{same-pointwise, unequal_lengths, unlike_beginnings}
use Rattle.labels.proofs.same_label.Goals as goal
use Rattle.labels.proofs.same_label.Goals.{then-a-b, else-a-b}

pub returns-then-eq : goal.returns-then-eq
returns-then-eq c = c.eq-then-eq.ensures ∙ same-pointwise _ _

pub returns-else-eq : goal.returns-else-eq
returns-else-eq c = elim c.if-a-b.branch [
  | then-a-b w ↦
      c.if-eq.false
      ∙ unlike_beginnings 8 _ _ _ _ w.first_chunk.ensures.cases w.first_chunk-then-a-b.ensures.cases (sym w.eq.ensures ∙ sym w.value-is ∙ c.if-eq.false)
  | else-a-b w ↦ c.if-eq.false ∙ unequal_lengths _ _ w.if-a-b.false
]
