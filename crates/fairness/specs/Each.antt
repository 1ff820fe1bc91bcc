-- A fair table: every entry peopled from within the sheet, and each subscription in exactly one entry that covers it; asked one after the other.
use Rattle.std.specs.Prelude.{ℕ, ◌+◌, ◌^◌, ◌≤◌, ◌<◌, ◌≡◌, refl, Bool, true, false, ◌&&◌, List, [], ◌∷◌, ltb, length, get_or, drop}
use Rattle.std.proofs.Math.Path.{sym}
use Rattle.std.proofs.Common.{ap, ◌∙◌, arith, add-one, drop_of_length-le, drop-cons}
use Rattle.std.proofs.Math.Bool.{and_assoc}
use Rattle.base.specs.Lists.{every}
use Rattle.base.specs.Along.{every-goes_on, every-stops, every-ends}
use Rattle.meaning.specs.Building.{no_entry}
use Rattle.meaning.specs.Forest.{Forest, none}
use Rattle.meaning.specs.Sections.{Entry}
use Rattle.members.specs.Fitting.{members_fit}
use Rattle.reading.specs.SheetPlaces.{sheet_at}
use Rattle.subscriptions.specs.declared.Subscriptions.{Subscriptions}
use Rattle.subscriptions.specs.Subscribed.{SubscriptionsStand}
use Rattle.tables.specs.declared.Entries.{Entries}
use Rattle.tables.specs.TableSection.{table_at}
use Rattle.tables.specs.TableJudged.{EntriesStand}
use Rattle.meaning.specs.Fair.{entries_of, one_that_covers, each_in_one, is_peopled, is_within, fair}

-- an entry with members, and all within the sheet, of n subscriptions
unfoldable pub is_fit : ℕ → Entry → Bool
is_fit n e = members_fit n e.members

-- the entries from j on fit exactly if all do
pub record FittingEntries (n : ℕ) (t : List ℕ) (v : Entries) (j : ℕ) : Type 0 where
  pub stand : EntriesStand t v
  pub left : every (is_fit n) (drop j (table_at t)) ≡ every (is_fit n) (table_at t)

module _ {n : ℕ} {t : List ℕ} {v : Entries} where
  -- all are left
  pub fitting_starts : EntriesStand t v → FittingEntries n t v 0
  fitting_starts stand = record { stand = stand; left = refl }

  module _ {j : ℕ} (turn : FittingEntries n t v j) where
    -- the members of the next one are asked
    module _ (below : j < v.count) {m : ℕ} {r : Bool} (taken : m ≡ (get_or (table_at t) j no_entry).members) (asked : r ≡ members_fit n m) where
      next_fit : (b : Bool) → r ≡ b → is_fit n (get_or (table_at t) j no_entry) ≡ b
      unfolding is_fit
      next_fit b h = rw (← taken) (sym asked ∙ h)

      -- they fit
      pub entry-fits : r ≡ true → FittingEntries n t v (j + 1)
      entry-fits h =
          let inside : j < length (table_at t) = omega (arith, turn.stand.counted) in
          record { stand = turn.stand; left = every-goes_on (is_fit n) (table_at t) no_entry j _ turn.left inside (next_fit true h) }

      -- they don't
      pub entry_doesn't_fit : r ≡ false → false ≡ every (is_fit n) (table_at t)
      entry_doesn't_fit h =
          every-stops (is_fit n) (table_at t) no_entry j _ turn.left (omega (arith, turn.stand.counted)) (next_fit false h)

    -- none is left
    pub fitting-ends : v.count ≤ j → true ≡ every (is_fit n) (table_at t)
    fitting-ends h = every-ends (is_fit n) (table_at t) no_entry j _ turn.left (omega (arith, turn.stand.counted))

-- no entry without members, no member outside
both_every : (n : ℕ) (es : List Entry) → every (is_fit n) es ≡ (every is_peopled es && every (is_within n) es)
unfolding every is_fit members_fit is_peopled is_within
both_every n [] = refl
both_every n (e ∷ es) = go (ltb 0 e.members) (ltb e.members (2 ^ n)) (every is_peopled es) (every (is_within n) es) (both_every n es)
  where
    go : (a b x y : Bool) → every (is_fit n) es ≡ (x && y) → ((a && b) && every (is_fit n) es) ≡ ((a && x) && (b && y))
    go false b x y h = refl
    go true true true y h = h
    go true true false y h = h
    go true false true y h = refl
    go true false false y h = refl

-- both parts make a table fair
pub fair_parts : (ps : List Forest) (es : List Entry) → (every (is_fit (length ps)) es && each_in_one 0 ps es) ≡ fair ps es
unfolding fair
fair_parts ps es =
    ap (λ (b : Bool). b && each_in_one 0 ps es) (both_every (length ps) es)
    ∙ and_assoc (every is_peopled es) (every (is_within (length ps)) es) (each_in_one 0 ps es)

-- ---- each subscription, from number i on
module _ (ps : List Forest) (es : List Entry) (i : ℕ) (whole : Bool) (left : each_in_one i (drop i ps) es ≡ whole) where
  -- one more stands
  each_goes_on : (r : Bool) (p : Forest) → i < length ps → r ≡ true → r ≡ one_that_covers p (entries_of i es) → p ≡ get_or ps i none
      → each_in_one (i + 1) (drop (i + 1) ps) es ≡ whole
  unfolding each_in_one
  each_goes_on r p h t e f = rw (add-one i) (sym (rw (drop-cons ps i none h, each_in_one, ← f, ← e, t)) ∙ left)

  -- one does not
  each_stops : (r : Bool) (p : Forest) → i < length ps → r ≡ false → r ≡ one_that_covers p (entries_of i es) → p ≡ get_or ps i none → false ≡ whole
  unfolding each_in_one
  each_stops r p h t e f = sym (rw (drop-cons ps i none h, each_in_one, ← f, ← e, t)) ∙ left

  -- none is left
  each_ends : length ps ≤ i → true ≡ whole
  unfolding each_in_one
  each_ends h = sym (rw (drop_of_length-le ps h)) ∙ left

-- the subscriptions from i on are in one entry each, which covers them, exactly if all are
pub record StandingFrom (s : List ℕ) (v : Subscriptions) (es : List Entry) (i : ℕ) : Type 0 where
  pub stand : SubscriptionsStand s v
  pub left : each_in_one i (drop i (sheet_at s).patterns) es ≡ each_in_one 0 (sheet_at s).patterns es

module _ {s : List ℕ} {v : Subscriptions} {es : List Entry} where
  -- all are left
  pub standing_starts : SubscriptionsStand s v → StandingFrom s v es 0
  standing_starts stand = record { stand = stand; left = refl }

  module _ {i : ℕ} (turn : StandingFrom s v es i) where
    -- the pattern of the next one is asked
    module _ (below : i < v.count) {p : Forest} {r : Bool} (here : p ≡ get_or (sheet_at s).patterns i none)
        (asked : r ≡ one_that_covers p (entries_of i es)) where
      -- it stands
      pub subscription-stands : r ≡ true → StandingFrom s v es (i + 1)
      subscription-stands h =
          let inside : i < length (sheet_at s).patterns = omega (arith, turn.stand.counted) in
          record { stand = turn.stand; left = each_goes_on (sheet_at s).patterns es i _ turn.left r _ inside h asked here }

      -- it doesn't
      pub subscription_doesn't : r ≡ false → false ≡ each_in_one 0 (sheet_at s).patterns es
      subscription_doesn't h =
          each_stops (sheet_at s).patterns es i _ turn.left r _ (omega (arith, turn.stand.counted)) h asked here

    -- none is left
    pub standing-ends : v.count ≤ i → true ≡ each_in_one 0 (sheet_at s).patterns es
    standing-ends h = each_ends (sheet_at s).patterns es i _ turn.left (omega (arith, turn.stand.counted))
