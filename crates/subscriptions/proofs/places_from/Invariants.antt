-- `subscriptions::places_from` meets its contract.
-- The invariant: what is filled is what stands there, and x is where the next one stands.
use Rattle.std.proofs.Common.{◌≡◌, ◌+◌, ◌*◌, ◌≤◌, length}
use Rattle.base.specs.Standing.{FilledUpTo}
use Rattle.reading.specs.SheetPlaces.{after_pattern}
use Rattle.subscriptions.specs.Taken.{itself}
use Rattle.subscriptions.proofs.places_from.Given as goal

abbrev pub invariant-loop-place : goal.invariant-loop-place
invariant-loop-place g l =
    (length l.place-items ≡ g.row.N) × (l.x ≤ l.p + 774 * l.place-index)
    × FilledUpTo itself (λ x. after_pattern l.s (x + l.before)) l.p l.place-items l.place-index l.x
