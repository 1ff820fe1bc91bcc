-- `labels::number_of` meets its contract.
-- The invariant: what is left from here gives what all gives from the start.
use mathlib.Core.Path.{◌≡◌}
use Prim.Native.Nat.{◌+◌, ◌-◌}
use Rattle.base.specs.Standing.{standing}
use Rattle.meaning.specs.LineCalls.{number_from}
use Rattle.labels.specs.LabelPlaces.{text_at, after_label, labels_in}
use Rattle.labels.proofs.number_of.Given as goal

abbrev pub invariant-loop-i : goal.invariant-loop-i
invariant-loop-i l = number_from (l.i + 1) (standing (text_at l.s) (after_label l.s) l.x (l.n - l.i)) l.text ≡ number_from 1 (labels_in l.s) l.text
