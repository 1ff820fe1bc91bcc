-- `labels::occurs` meets its contract.
-- The invariant: what is left from here gives what all gives from the start.
use mathlib.Core.Path.{◌≡◌}
use Prim.Native.Nat.{◌-◌}
use Rattle.base.specs.Standing.{standing}
use Rattle.meaning.specs.Sections.{same_label}
use Rattle.base.specs.Lists.{some}
use Rattle.labels.specs.LabelPlaces.{text_at, after_label}
use Rattle.labels.proofs.occurs.Given as goal

abbrev pub invariant-loop : goal.invariant-loop
invariant-loop l = some (same_label l.text) (standing (text_at l.s) (after_label l.s) l.x (l.n - l.counter)) ≡ some (same_label l.text) (standing (text_at l.s) (after_label l.s) l.p l.n)
