-- `tables::entries_in` meets its contract.
use Rattle.tables.specs.TableSection.{table_entries, entry_places, after_entry}
use Rattle.subscriptions.specs.Taken.{places_from}
use Rattle.tables.proofs.entries_in.Goals as goal

pub returns : goal.returns
unfolding table_entries entry_places after_entry places_from
returns c = rw (← c.byte_at.ensures.0, ← c.within-count.ensures) (λ j. record { count = c.within-count.result; places = c.places_from-places.ensures j })
