-- `labels::label` meets its contract.
use Prim.Native.Nat.{◌<◌, ◌≤◌}
use Rattle.base.specs.Choice.{picks}
use Rattle.labels.specs.LabelPlaces.{text_at}
use Rattle.labels.specs.LabelSection.{label_section}
use Rattle.meaning.specs.Numbers.{longest_label}
use Rattle.labels.proofs.label.Goals as goal
use Rattle.labels.proofs.label.Goals.{then-long-lt1-via-then-long-lt1, then-long-lt1-via-else-long-lt1+then-long-gt-LONGEST_LABEL}
use Rattle.labels.proofs.label.Goals.{then-occurs-via-then-occurs, then-occurs-via-else-occurs+then-occurs-2}

pub returns-then-d-x : goal.returns-then-d-x
unfolding label_section
returns-then-d-x c = search picks depth 15

pub returns-then-long-lt1 : goal.returns-then-long-lt1
unfolding label_section
returns-then-long-lt1 c =
    rw (← c.byte_at-long.ensures.0)
    (elim c.then-long-lt1.branch [
      | then-long-lt1-via-then-long-lt1 w ↦ let few = w.if-long-lt1.true in search picks depth 15
      | then-long-lt1-via-else-long-lt1+then-long-gt-LONGEST_LABEL w ↦
          let some : 1 ≤ c.byte_at-long.result = w.if-long-lt1.false in
          let over : longest_label < c.byte_at-long.result = w.if-long-gt-LONGEST_LABEL.true in
          search picks depth 15
    ])

pub returns-then-d-x-2 : goal.returns-then-d-x-2
unfolding label_section
returns-then-d-x-2 c = rw (← c.byte_at-long.ensures.0) (search picks depth 15)

pub returns-then-occurs : goal.returns-then-occurs
unfolding label_section text_at
returns-then-occurs c =
    rw (
      ← c.text_at-text.ensures,
      ← c.byte_at-long.ensures.0,
      ← c.occurs.ensures,
    )
    (elim c.then-occurs.branch [
      | then-occurs-via-then-occurs w ↦ let yes = w.if-occurs.true in search picks depth 15
      | then-occurs-via-else-occurs+then-occurs-2 w ↦
          let no = w.if-occurs.false in
          let yes = w.if-occurs-2.true in
          rw (← w.occurs-else-occurs.ensures) (search picks depth 15)
    ])

pub returns : goal.returns
unfolding label_section text_at
returns c =
    rw (
      ← c.text_at-text.ensures,
      ← c.byte_at-long.ensures.0,
      ← c.occurs.ensures,
      ← c.occurs-else-occurs.ensures,
    )
    (search picks depth 15)
