-- The pair that saves most, found pair by pair.
use Rattle.std.specs.Prelude.{ℕ, ◌+◌, ◌-◌, ◌≤◌, ◌<◌, ◌≡◌, refl, List, map, Option, Some, None, get_or}
use Rattle.std.proofs.Common.{arith, lt-ltb, le-ltb}
use Rattle.std.specs.Option.{option_map_or}
use Rattle.base.specs.Choice.{pick}
use Rattle.base.specs.Lists.{numbers_from}
use Rattle.base.specs.Numbering.{numbers-split, numbers-end}
use Rattle.meaning.specs.Building.{Pair, pair, entry_steps, no_pair, best, better, best_of, saves}
use Rattle.meaning.specs.Building
use Rattle.shapes.specs.Shapes.{pattern_of, entry_of, table_of, WellFormedTable}
use Rattle.shapes.specs.TableValues.{no_entry_value, entry_at_lem}
use Rattle.shapes.specs.declared.Table.{Table}
use Rattle.building.specs.declared.rounds.Best.{Best}
use Rattle.building.specs.Saving.{saved_by}

-- the pair found, or nothing
unfoldable pub best_is : Option Best → Building.Best
best_is None = no_pair
best_is (Some b) = best b.saved (pair b.i b.j)

-- how many steps it saves, 0 where there is none
abbrev pub most_saved : Option Best → ℕ
most_saved found = option_map_or (λ b. b.saved) found 0

-- ---- one pair more

-- something is found where there is a pair
pub found_some : (b : Best) → best_is (Some b) ≡ best b.saved (pair b.i b.j)
unfolding best_is
found_some b = refl

-- nothing where there is none
pub found_none : best_is None ≡ no_pair
unfolding best_is
found_none = refl

-- a pair that saves more is taken
pub saves_more : (b : Option Best) (n i j : ℕ) → most_saved b < n → better n (pair i j) (best_is b) ≡ best_is (Some (record { saved = n; i = i; j = j }))
unfolding better pick best_is
saves_more None n i j h = rw (lt-ltb 0 n h)
saves_more (Some b) n i j h = rw (lt-ltb b.saved n h)

-- on ties the first stays
pub saves_no_more : (b : Option Best) (n i j : ℕ) → n ≤ most_saved b → better n (pair i j) (best_is b) ≡ best_is b
unfolding better pick best_is
saves_no_more None n i j h = rw (le-ltb 0 n h)
saves_no_more (Some b) n i j h = rw (le-ltb b.saved n h)

-- ---- a row: the pairs (i, j) with j after i

-- from j on
abbrev pub row_from : Table → ℕ → ℕ → List Pair
row_from t i j = map (pair i) (numbers_from j (t.count - j))

-- the best so far is b, and the pairs (i, j) from j on are still to be asked
pub record InRow (t : Table) (i : ℕ) (found : Option Best) (j : ℕ) (b : Option Best) : Type 0 where
  pub there : i < t.count
  pub reached : j ≤ t.count
  pub rest : best_of (table_of t) (row_from t i j) (best_is b) ≡ best_of (table_of t) (row_from t i (i + 1)) (best_is found)

-- what a pair of entries saves
saves_at : (t : Table) (i j : ℕ) → WellFormedTable t → i < t.count → j < t.count
    → saves (table_of t) (pair i j) ≡ saved_by (pattern_of (get_or t.entries i no_entry_value).pattern) (pattern_of (get_or t.entries j no_entry_value).pattern)
unfolding saves saved_by entry_steps pair entry_of
saves_at t i j s hi hj = rw (entry_at_lem t s i no_entry_value hi, entry_at_lem t s j no_entry_value hj)

-- before the first pair of the row
pub row_starts : (t : Table) (i : ℕ) (found : Option Best) → i < t.count → InRow t i found (i + 1) found
row_starts t i found h = record { there = h; reached = omega arith; rest = refl }

module _ {t : Table} {i : ℕ} {found : Option Best} {j : ℕ} {b : Option Best} (z : InRow t i found j b) where
  module _ {n : ℕ} (s : WellFormedTable t) (h : j < t.count)
      (e : n ≡ saved_by (pattern_of (get_or t.entries i no_entry_value).pattern) (pattern_of (get_or t.entries j no_entry_value).pattern)) where
    -- with one pair asked
    here : best_of (table_of t) (row_from t i (j + 1)) (better n (pair i j) (best_is b)) ≡ best_of (table_of t) (row_from t i (i + 1)) (best_is found)
    unfolding best_of
    here = rw (e, ← saves_at t i j s z.there h) (rw (numbers-split j t.count h) at z.rest)

    -- it saves more and is taken
    pub row_better : most_saved b < n → InRow t i found (j + 1) (Some (record { saved = n; i = i; j = j }))
    row_better l = record { there = z.there; reached = omega arith; rest = rw (saves_more b n i j l) at here }

    -- it saves no more and is not
    pub row_no_better : n ≤ most_saved b → InRow t i found (j + 1) b
    row_no_better l = record { there = z.there; reached = omega arith; rest = rw (saves_no_more b n i j l) at here }

  -- after the last pair the row is asked
  pub row_ends : t.count ≤ j → best_is b ≡ best_of (table_of t) (row_from t i (i + 1)) (best_is found)
  unfolding best_of
  row_ends h = rw (numbers-end j t.count h) at z.rest
