-- `subscriptions::subscriptions_in` meets its contract.
use Rattle.reading.specs.SheetPlaces.{pattern_count_at}
use Rattle.subscriptions.specs.Taken.{subscription_count, subscriptions_of, places_of_patterns}
use Rattle.subscriptions.proofs.subscriptions_in.Goals as goal

pub returns : goal.returns
unfolding subscriptions_of subscription_count pattern_count_at
returns c =
    rw (
      ← c.byte_at.ensures.0,
      ← c.after_labels-x.ensures.0,
      ← c.byte_at-2.ensures.0,
      ← c.within-count.ensures,
      c.places_from-places.ensures,
      places_of_patterns,
    )
