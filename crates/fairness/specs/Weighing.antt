-- Whether a subscription is in exactly one entry, which covers it: the entries weighed one after the other.
use Rattle.std.specs.Prelude.{ℕ, ◌+◌, ◌≤◌, ◌<◌, ◌≡◌, Bool, length, get_or, drop}
use Rattle.std.proofs.Math.Path.{refl, sym, ap}
use Rattle.std.proofs.Common.{◌∙◌, arith}
use Rattle.std.proofs.Math.Bool.{true, false}
use mathlib.Core.List.{List, [], ◌∷◌}
use Rattle.base.specs.Choice.{pick}
use Rattle.base.specs.Lists.{keep}
use Rattle.base.specs.Along.{fold_along, along-goes_on, along-ends}
use Rattle.meaning.specs.Forest.{Forest}
use Rattle.meaning.specs.Sections.{Entry}
use Rattle.meaning.specs.Building.{no_entry}
use Rattle.meaning.specs.Covering.{covers}
use Rattle.meaning.specs.Fair.{is_member, has_member, entries_of, one_that_covers}
use Rattle.fairness.specs.declared.Held.{Held}
use Rattle.fairness.specs.declared.Held.TheVariants.{Nowhere, Covered, Wrongly}
use Rattle.tables.specs.declared.Entries.{Entries}
use Rattle.tables.specs.TableSection.{table_at}
use Rattle.tables.specs.TableJudged.{EntriesStand}

-- exactly one has it, and covers it
unfoldable pub is_covered : Held → Bool
is_covered Nowhere = false
is_covered Covered = true
is_covered Wrongly = false

-- one more entry has it: right if it is the first, and covers it
unfoldable pub one_more_has : Bool → Held → Held
one_more_has covering Nowhere = pick covering Covered Wrongly
one_more_has covering Covered = Wrongly
one_more_has covering Wrongly = Wrongly

module _ (i : ℕ) (p : Forest) where
  -- an entry weighed that may have subscription i as a member, for its pattern
  unfoldable pub weighed : Entry → Held → Held
  weighed e held = pick (has_member i e) (one_more_has (covers e.pattern p) held) held

  -- what is wrong stays so
  spoilt : (es : List Entry) → fold_along weighed es Wrongly ≡ Wrongly
  unfolding fold_along weighed one_more_has pick
  spoilt [] = refl
  spoilt (e ∷ es) = go (has_member i e) (spoilt es)
    where
      go : (b : Bool) → fold_along weighed es Wrongly ≡ Wrongly → fold_along weighed es (pick b Wrongly Wrongly) ≡ Wrongly
      go true h = h
      go false h = h

  -- after one that covers, no other may have it
  after_one : (e : Entry) (es : List Entry) → covers e.pattern p ≡ true → is_covered (fold_along weighed es Covered) ≡ one_that_covers p (e ∷ entries_of i es)
  unfolding fold_along weighed one_more_has is_covered one_that_covers entries_of keep pick
  after_one e [] h = sym h
  after_one e (f ∷ es) h = go (has_member i f) (after_one e es h)
    where
      go : (b : Bool) → is_covered (fold_along weighed es Covered) ≡ one_that_covers p (e ∷ keep (has_member i) es)
          → is_covered (fold_along weighed es (pick b Wrongly Covered)) ≡ one_that_covers p (e ∷ pick b (f ∷ keep (has_member i) es) (keep (has_member i) es))
      go true later = ap is_covered (spoilt es)
      go false later = later

  -- one that does not cover is never right
  not_covered : (e : Entry) (es : List Entry) → covers e.pattern p ≡ false → false ≡ one_that_covers p (e ∷ es)
  unfolding one_that_covers
  not_covered e [] h = sym h
  not_covered e (f ∷ es) h = refl

  -- exactly one, and it covers
  one_weighed : (es : List Entry) → is_covered (fold_along weighed es Nowhere) ≡ one_that_covers p (entries_of i es)
  unfolding fold_along weighed one_more_has is_covered one_that_covers entries_of keep pick
  one_weighed [] = refl
  one_weighed (e ∷ es) = go (has_member i e) (one_weighed es)
    where
      first : (b : Bool) → covers e.pattern p ≡ b → is_covered (fold_along weighed es (pick b Covered Wrongly)) ≡ one_that_covers p (e ∷ keep (has_member i) es)
      first true h = after_one e es h
      first false h = ap is_covered (spoilt es) ∙ not_covered e (keep (has_member i) es) h

      go : (b : Bool) → is_covered (fold_along weighed es Nowhere) ≡ one_that_covers p (keep (has_member i) es)
          → is_covered (fold_along weighed es (pick b (pick (covers e.pattern p) Covered Wrongly) Nowhere))
          ≡ one_that_covers p (pick b (e ∷ keep (has_member i) es) (keep (has_member i) es))
      go true later = first (covers e.pattern p) refl
      go false later = later

-- one entry, by its members
module _ (i : ℕ) (p : Forest) (e : Entry) (held : Held) {members : ℕ} (same : members ≡ e.members) {r : Bool} (asked : r ≡ is_member members i) where
  has : (b : Bool) → r ≡ b → has_member i e ≡ b
  unfolding has_member
  has b h = rw same at (sym asked ∙ h)

  -- another's is passed over
  pub weigh_passes : r ≡ false → held ≡ weighed i p e held
  unfolding weighed pick
  weigh_passes h = sym (rw (has false h))

  -- a second one spoils it
  pub weigh_again : r ≡ true → (held ≡ Nowhere → ⊥) → Wrongly ≡ weighed i p e held
  unfolding weighed one_more_has pick
  weigh_again h n = sym (rw (has true h) (spoils held n))
    where
      spoils : (was : Held) → (was ≡ Nowhere → ⊥) → one_more_has (covers e.pattern p) was ≡ Wrongly
      spoils Nowhere n = absurd (n refl)
      spoils Covered n = refl
      spoils Wrongly n = refl

  -- the first decides by covering
  pub weigh-first : r ≡ true → held ≡ Nowhere → (b : Bool) {said : Bool} → said ≡ covers e.pattern p → said ≡ b
      → pick b Covered Wrongly ≡ weighed i p e held
  unfolding weighed one_more_has pick
  weigh-first h n b c d = sym (rw (has true h, n, sym c ∙ d))

-- the entries from j on, weighed on how subscription i is held, give what all give from the start
pub record WeighingEntries (i : ℕ) (p : Forest) (t : List ℕ) (v : Entries) (j : ℕ) (held : Held) : Type 0 where
  pub stand : EntriesStand t v
  pub left : fold_along (weighed i p) (drop j (table_at t)) held ≡ fold_along (weighed i p) (table_at t) Nowhere

module _ {i : ℕ} {p : Forest} {t : List ℕ} {v : Entries} where
  -- all are left
  pub weighing_starts : EntriesStand t v → WeighingEntries i p t v 0 Nowhere
  weighing_starts stand = record { stand = stand; left = refl }

  module _ {j : ℕ} {held : Held} (turn : WeighingEntries i p t v j held) where
    -- the next entry is weighed
    pub weighing_goes_on : {more : Held} → j < v.count → more ≡ weighed i p (get_or (table_at t) j no_entry) held
        → WeighingEntries i p t v (j + 1) more
    weighing_goes_on h e =
        let inside : j < length (table_at t) = omega (arith, turn.stand.counted) in
        record { stand = turn.stand; left = rw e (along-goes_on (weighed i p) (table_at t) no_entry j held _ turn.left inside) }

    -- none is left
    pub weighing_ends : v.count ≤ j → is_covered held ≡ one_that_covers p (entries_of i (table_at t))
    weighing_ends h =
        let all = along-ends (weighed i p) (table_at t) no_entry j held _ turn.left (omega (arith, turn.stand.counted)) in
        ap is_covered all ∙ one_weighed i p (table_at t)
