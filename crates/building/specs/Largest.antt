-- The entry with most steps, found entry by entry; and it loses its last step.
use Rattle.std.specs.Prelude.{ℕ, ◌+◌, ◌-◌, ◌≤◌, ◌<◌, ◌≡◌, refl, ltb, get_or, set}
use Rattle.std.proofs.Common.{◌∙◌, ap, arith}
use borrow.Author.Tests.{lt-ltb, le-ltb}
use Rattle.base.specs.Choice.{pick}
use Rattle.base.specs.Lists.{numbers_from}
use Rattle.base.specs.Numbering.{numbers-split, numbers-end}
use Rattle.meaning.specs.Building.{entry_at, entry_steps, cut, largest, cut_largest}
use Rattle.shapes.specs.Shapes.{pattern_of, WellFormed, entry_of, entries_in, table_of, WellFormedTable}
use Rattle.shapes.specs.TableValues.{no_entry_value, length-table, entry_at_lem, steps_at_lem}
use Rattle.shapes.specs.declared.Pattern.{Pattern}
use Rattle.shapes.specs.declared.Entry.{Entry}
use Rattle.shapes.specs.declared.Table.{Table}
use Rattle.settling.specs.Placing.{table_with, put_table_lem, put-sound}

-- the entry found is i, and those from j on are still to be asked
pub record Largest (t : Table) (i j : ℕ) : Type 0 where
  pub there : i < t.count
  pub reached : j ≤ t.count
  pub rest : largest (table_of t) (numbers_from j (t.count - j)) i ≡ largest (table_of t) (numbers_from 0 t.count) 0

-- before the first entry
pub largest_starts : (t : Table) → 0 < t.count → Largest t 0 0
largest_starts t h = record { there = h; reached = omega arith; rest = ap (λ (n : ℕ). largest (table_of t) (numbers_from 0 n) 0) (omega arith) }

module _ {t : Table} {i j : ℕ} (z : Largest t i j) where
  module _ (s : WellFormedTable t) (h : j < t.count) where
    -- the steps of an entry, as the definition counts them
    steps_at : ℕ → ℕ
    steps_at k = entry_steps (entry_at (table_of t) k)

    -- with one entry asked
    here : largest (table_of t) (numbers_from (j + 1) (t.count - (j + 1))) (pick (ltb (steps_at i) (steps_at j)) j i)
        ≡ largest (table_of t) (numbers_from 0 t.count) 0
    unfolding largest steps_at
    here = rw (numbers-split j t.count h) at z.rest

    -- it has more steps and is the largest so far
    pub larger : (get_or t.entries i no_entry_value).pattern.count < (get_or t.entries j no_entry_value).pattern.count → Largest t j (j + 1)
    unfolding pick steps_at
    larger l =
        let test = lt-ltb (steps_at i) (steps_at j) (omega (arith, steps_at_lem t s i no_entry_value z.there, steps_at_lem t s j no_entry_value h)) in
        record { there = h; reached = omega arith; rest = rw test at here }

    -- it has no more, and on ties the first stays
    pub not_larger : (get_or t.entries j no_entry_value).pattern.count ≤ (get_or t.entries i no_entry_value).pattern.count → Largest t i (j + 1)
    unfolding pick steps_at
    not_larger l =
        let test = le-ltb (steps_at i) (steps_at j) (omega (arith, steps_at_lem t s i no_entry_value z.there, steps_at_lem t s j no_entry_value h)) in
        record { there = z.there; reached = omega arith; rest = rw test at here }

  -- after the last entry
  pub largest-ends : t.count ≤ j → i ≡ largest (table_of t) (numbers_from 0 t.count) 0
  unfolding largest
  largest-ends h = rw (numbers-end j t.count h) at z.rest

-- an entry with another pattern
abbrev pub changed : Entry → Pattern → Entry
changed e p = record { members = e.members; pattern = p }

-- a table with no entries has none to cut
pub cut_empty : (t : Table) → t.count ≡ 0 → table_of t ≡ cut_largest (table_of t)
unfolding table_of entries_in cut_largest
cut_empty t e = rw e refl

module _ (t : Table) (i : ℕ) (p : Pattern) (s : WellFormedTable t) (h : i < t.count) (e : i ≡ largest (table_of t) (numbers_from 0 t.count) 0) where
  -- the table in which the entry with most steps stands without its last step is what the definition cuts
  pub cut_there : pattern_of p ≡ cut (pattern_of (get_or t.entries i no_entry_value).pattern)
      → (u : Table) → u.count ≡ t.count → u.entries ≡ set t.entries i (changed (get_or t.entries i no_entry_value) p) → table_of u ≡ cut_largest (table_of t)
  unfolding cut_largest entry_of
  cut_there q u c es =
      put_table_lem t s i (changed (get_or t.entries i no_entry_value) p) h u c es
      ∙ rw (length-table t s, ← e, entry_at_lem t s i no_entry_value h, q)

  -- and its entries are well formed
  pub cut-sound : (sp : WellFormed p) → WellFormedTable (table_with t s i (changed (get_or t.entries i no_entry_value) p) h sp)
  cut-sound sp = put-sound t s i (changed (get_or t.entries i no_entry_value) p) h sp
