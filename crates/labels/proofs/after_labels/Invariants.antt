-- `labels::after_labels` meets its contract.
-- The invariant: what is left from here gives what all gives from the start.
use mathlib.Core.Path.{◌≡◌}
use Prim.Native.Nat.{◌+◌, ◌*◌, ◌-◌, ◌≤◌}
use Rattle.base.specs.Standing.{place_after}
use Rattle.labels.specs.LabelPlaces.{after_label}
use Rattle.labels.proofs.after_labels.Given as goal

abbrev pub invariant-loop : goal.invariant-loop
invariant-loop l = (l.x ≤ l.p + 256 * l.counter) × (l.counter ≤ l.n) × (place_after (after_label l.s) l.x (l.n - l.counter) ≡ place_after (after_label l.s) l.p l.n)
