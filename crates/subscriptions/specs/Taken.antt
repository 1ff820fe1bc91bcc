-- A pattern by value out of bytes, and where the subscriptions of a sheet stand: for any bytes and any place.
use Rattle.std.specs.Prelude.{ℕ, ◌+◌, ◌*◌, ◌-◌, ◌≡◌, List, ◌++◌, leb, ltb, length, get_or, drop}
use Rattle.std.proofs.Common.{add-zero}
use Rattle.base.specs.Choice.{pick}
use Rattle.base.specs.Standing.{standing}
use Rattle.shapes.specs.Shapes.{no_steps}
use Rattle.shapes.specs.declared.Pattern.{Pattern}
use Rattle.meaning.specs.declared.Step.{Step}
use Rattle.subscriptions.specs.declared.Subscriptions.{Subscriptions}
use Rattle.reading.specs.SheetPlaces.{steps_at, after_pattern, pattern_count_at}
use Rattle.meaning.specs.Numbers.{most_patterns, most_steps}

-- the n steps from the place p on, and empty ones behind them, up to sixteen
unfoldable pub steps_filled : List ℕ → ℕ → ℕ → List Step
steps_filled s p n = steps_at s p n ++ drop n no_steps.steps

-- the pattern at x: its steps, and empty ones behind them; none where the count or the bytes don't allow it
unfoldable pub pattern_at : List ℕ → ℕ → Pattern
pattern_at s x =
    pick (ltb x (length s))
    (pick (leb (get_or s x 0) most_steps)
    (pick (leb (3 * get_or s x 0) (length s - (x + 1))) (record { count = get_or s x 0; steps = steps_filled s (x + 1) (get_or s x 0) }) no_steps)
    no_steps)
    no_steps

-- a place itself
unfoldable pub itself : ℕ → ℕ
itself x = x

-- the places of n patterns from the place p on
unfoldable pub pattern_places : List ℕ → ℕ → ℕ → List ℕ
pattern_places s = standing itself (after_pattern s)

-- n places from p on, each with so many bytes before a pattern
unfoldable pub places_from : List ℕ → ℕ → ℕ → ℕ → List ℕ
places_from s before = standing itself (λ x. after_pattern s (x + before))

-- nothing before a pattern
pub places_of_patterns : (s : List ℕ) (p n : ℕ) → places_from s 0 p n ≡ pattern_places s p n
unfolding places_from pattern_places
places_of_patterns s p n = simp add-zero

-- how many subscriptions a sheet has; none where the count is outside its limits
unfoldable pub subscription_count : List ℕ → ℕ
subscription_count s = pick (leb (get_or s (pattern_count_at s) 0) most_patterns) (get_or s (pattern_count_at s) 0) 0

-- the count, and the place of each pattern; behind those the places go on in the same way
unfoldable pub subscriptions_of : List ℕ → Subscriptions
subscriptions_of s = record { count = subscription_count s; places = pattern_places s (pattern_count_at s + 1) most_patterns }

-- subscriptions that are lent part by part
abbrev pub subscriptions_lent : ℕ → List ℕ → Subscriptions
subscriptions_lent count places = record { count = count; places = places }
