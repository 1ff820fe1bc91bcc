-- `printing::put_table` meets its contract. The totals; then the loop: what is left of the entries, put from here, gives what
-- all of them give.
use Rattle.texts.specs.Puts.{StillToPut}
use Rattle.labels.specs.LabelPlaces.{labels_in}
use Rattle.printing.specs.TableTexts.{entries_text}
use Rattle.printing.proofs.put_table.Given as goal

abbrev pub invariant-loop-e : goal.invariant-loop-e
invariant-loop-e l =
    StillToPut l.initial.text (entries_text (labels_in l.s) l.subscriptions l.fn.t 0)
    l.text (entries_text (labels_in l.s) l.subscriptions l.fn.t l.e-index)
