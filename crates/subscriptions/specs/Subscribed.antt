-- The subscriptions of a sheet that was judged, by their places: how many there are, and the pattern of each.
use Rattle.std.specs.Prelude.{ℕ, ◌≤◌, ◌<◌, ◌≡◌, true, false, List, length, get_or}
use Rattle.std.specs.Coded.{Coded, code_by, coded_list}
use Rattle.std.proofs.Common.{arith, lt-ltb, le-ltb}
use Rattle.laws.specs.Bridge.{forest-steps_of}
use Rattle.meaning.specs.declared.Step.{Step}
use Rattle.meaning.specs.Forest.{Forest, none, forest, steps_of}
use Rattle.meaning.specs.Calls.{is_subscription}
use Rattle.shapes.specs.Patterns.{pattern_of, WellFormed, step_coded}
use Rattle.shapes.specs.declared.Pattern.{Pattern}
use Rattle.laws.specs.RoundTrip.{sheet-read}
use Rattle.reading.specs.SheetPlaces.{sheet_at}
use Rattle.reading.specs.SheetJudged.{SheetStands}
use Rattle.subscriptions.specs.declared.Subscriptions.{Subscriptions}
use Rattle.subscriptions.specs.Taken.{pattern_at, subscriptions_of}
use Rattle.subscriptions.specs.TakenRead.{subscriptions_counted, subscription-taken}
use Rattle.meaning.specs.Numbers.{most_patterns}

-- as many as the sheet has patterns, at most 64, each the pattern at its place, well formed
pub record SubscriptionsStand (s : List ℕ) (v : Subscriptions) : Type 0 where
  pub few : v.count ≤ most_patterns
  pub counted : v.count ≡ length (sheet_at s).patterns
  pub taken : (i : ℕ) → i < v.count → (pattern_of (pattern_at s (get_or v.places i 0)) ≡ get_or (sheet_at s).patterns i none)
      × WellFormed (pattern_at s (get_or v.places i 0))

-- so it is of a sheet that was judged
pub subscriptions_stand : (s : List ℕ) (v : Subscriptions) → SheetStands s → v ≡ subscriptions_of s → SubscriptionsStand s v
subscriptions_stand s v stands e =
    let all : v.count ≡ length (sheet_at s).patterns = rw e (subscriptions_counted s _ _ stands.was_read) in
    record {
      few = omega (arith, (sheet-read s _ _ stands.was_read).few);
      counted = all;
      taken = λ i l. rw e (subscription-taken s _ _ stands.was_read i (omega arith));
    }

-- the pattern by value at the i-th place is that of subscription i, well formed
pub pattern-here : (s : List ℕ) (v : Subscriptions) → SubscriptionsStand s v → (i : ℕ) (p : Pattern) → i < v.count
    → p ≡ pattern_at s (get_or v.places i 0) → (pattern_of p ≡ get_or (sheet_at s).patterns i none) × WellFormed p
pattern-here s v stand i p l h = rw h (stand.taken i l)

-- a number below the count is that of a subscription, and one from the count on is not
module _ {s : List ℕ} {v : Subscriptions} (stand : SubscriptionsStand s v) (i : ℕ) where
  pub number_subscribed : i < v.count → is_subscription (sheet_at s) i ≡ true
  unfolding is_subscription
  number_subscribed h = rw (← stand.counted) (lt-ltb i v.count h)

  pub number_unsubscribed : v.count ≤ i → is_subscription (sheet_at s) i ≡ false
  unfolding is_subscription
  number_unsubscribed h = rw (← stand.counted) (le-ltb i v.count h)

-- a forest is its steps: so two proofs that forests are the same don't differ
pub forest_coded : Coded Forest
forest_coded = code_by (List Step) (coded_list step_coded) steps_of forest forest-steps_of
