-- The text of a table, as a loop goes through its entries, and its totals.
use Rattle.std.specs.Prelude.{ℕ, ◌+◌, ◌≤◌, ◌<◌, ◌≡◌, length, get_or, take}
use Rattle.std.proofs.Common.{sym, ◌∙◌}
use mathlib.Core.List.{List, [], ◌++◌, flat_map, append_assoc}
use Rattle.base.specs.Storing.{parts_from, parts_go_on, parts_end, flat_map-map}
use Rattle.meaning.specs.Sections.{Sheet}
use Rattle.meaning.specs.Building.{steps_together}
use Rattle.meaning.specs.Building
use Rattle.meaning.specs.PatternText.{ascii}
use Rattle.meaning.specs.Printing.{decimal, totals_text, entry_text, table_text}
use Rattle.shapes.specs.Shapes.{entry_of, entries_in, table_of, WellFormedTable}
use Rattle.shapes.specs.TableValues.{entries_fit, length-table}
use Rattle.shapes.specs.declared.Entry.{Entry}
use Rattle.shapes.specs.declared.Table.{Table}

-- the entries of a table by value, after so many rounds
unfoldable pub built_table : Table → ℕ → Building.Table
built_table t rounds = record { entries = table_of t; rounds = rounds }

-- the text of a table beside the labels of a sheet of so many subscriptions
unfoldable pub text_of : List (List ℕ) → ℕ → Building.Table → List ℕ
text_of ls subscriptions t = totals_text subscriptions t ++ flat_map (entry_text ls subscriptions) t.entries

-- it is what is printed for a sheet with these labels and so many subscriptions
pub text_of_lem : (sh : Sheet) (ls : List (List ℕ)) (subscriptions : ℕ) (t : Building.Table) → sh.labels ≡ ls → length sh.patterns ≡ subscriptions
    → table_text sh t ≡ text_of ls subscriptions t
unfolding table_text text_of
text_of_lem sh ls subscriptions t e f = λ i. totals_text (f i) t ++ flat_map (entry_text (e i) (f i)) t.entries

-- ---- totals

-- the totals, as four numbers
unfoldable pub totals_of : ℕ → ℕ → ℕ → ℕ → List ℕ
totals_of subscriptions entries steps rounds =
    (decimal subscriptions ++ ascii " subscriptions, ")
    ++ ((decimal entries ++ ascii " entries, ") ++ ((decimal steps ++ ascii " steps, ") ++ (decimal rounds ++ ascii " rounds\n")))

totals_of_lem : (subscriptions : ℕ) (t : Building.Table)
    → totals_text subscriptions t ≡ totals_of subscriptions (length t.entries) (steps_together t.entries) t.rounds
unfolding totals_text totals_of
totals_of_lem subscriptions t = simp append_assoc

-- ---- entries

-- the text of an entry by value
unfoldable pub entry_text_of : List (List ℕ) → ℕ → Entry → List ℕ
entry_text_of ls subscriptions e = entry_text ls subscriptions (entry_of e)

-- the texts of the entries from place i on
unfoldable pub entries_text : List (List ℕ) → ℕ → Table → ℕ → List ℕ
entries_text ls subscriptions t i = parts_from (entry_text_of ls subscriptions) t.count i t.entries

module _ (t : Table) (sound : WellFormedTable t) where
  module _ (ls : List (List ℕ)) (subscriptions : ℕ) where
    -- an entry, and then the others
    pub entry_here : (i : ℕ) (d : Entry) → i < t.count
        → entries_text ls subscriptions t i ≡ entry_text ls subscriptions (entry_of (get_or t.entries i d)) ++ entries_text ls subscriptions t (i + 1)
    unfolding entries_text entry_text_of
    entry_here i d h = parts_go_on (entry_text_of ls subscriptions) t.count i t.entries (entries_fit t sound) d h

    -- none is left
    pub entries-end : (i : ℕ) → t.count ≤ i → entries_text ls subscriptions t i ≡ []
    unfolding entries_text
    entries-end i h = parts_end (entry_text_of ls subscriptions) t.count i t.entries (entries_fit t sound) h

    -- the totals, and then all entries
    pub table_text_lem : (rounds steps : ℕ) → steps ≡ steps_together (table_of t)
        → text_of ls subscriptions (built_table t rounds) ≡ totals_of subscriptions t.count steps rounds ++ entries_text ls subscriptions t 0
    unfolding text_of built_table entries_text entry_text_of parts_from table_of entries_in
    table_text_lem rounds steps e =
        λ i. (totals_of_lem subscriptions (built_table t rounds) ∙ λ j. totals_of subscriptions (length-table t sound j) (sym e j) rounds) i
        ++ flat_map-map (entry_text ls subscriptions) entry_of (take t.count t.entries) i
