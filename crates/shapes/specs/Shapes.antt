-- What a pattern, an entry and a table by value stand for, and what is so of each that the hub makes; nodes as they stand in bytes.
use Rattle.std.specs.Prelude.{ℕ, ◌+◌, ◌*◌, ◌≤◌, ◌≡◌, refl, length, get_or, take}
use mathlib.Core.List.{List, map, Memᴰ}
use Rattle.base.specs.Standing.{standing}
use Rattle.meaning.specs.Numbers.{most_entries}
use Rattle.meaning.specs.Sections.{Node}
use Rattle.meaning.specs.Sections
unfoldable pub use Rattle.shapes.specs.Patterns.{steps_in, pattern_of, no_steps}
pub use Rattle.shapes.specs.Patterns.{WellFormed, no_steps-stand}
use Rattle.shapes.specs.declared.Entry.{Entry}
use Rattle.shapes.specs.declared.Table.{Table}

unfoldable pub entry_of : Entry → Sections.Entry
entry_of e = record { members = e.members; pattern = pattern_of e.pattern }

-- the entries that are there
unfoldable pub entries_in : Table → List Entry
entries_in t = take t.count t.entries

unfoldable pub table_of : Table → List Sections.Entry
table_of t = map entry_of (entries_in t)

-- tables of the same entries stand for the same
pub same_table : (t u : Table) → u.count ≡ t.count → u.entries ≡ t.entries → table_of u ≡ table_of t
unfolding table_of entries_in
same_table t u c es = rw (c, es) refl

pub record WellFormedTable (t : Table) : Type 0 where
  pub few : t.count ≤ most_entries
  pub full : length t.entries ≡ most_entries
  pub patterns : (e : Entry) → Memᴰ e (entries_in t) → WellFormed e.pattern

-- every table is
pub well_formed_table : (t : Table) → WellFormedTable t
unfolding entries_in
well_formed_table t = record { few = t.few; full = t.full; patterns = t.patterns }

-- ---- nodes as they stand in bytes

-- two bytes of parent, the low one first, and a label
unfoldable pub node_at : List ℕ → ℕ → Node
node_at bs at = record { parent = get_or bs at 0 + 256 * get_or bs (at + 1) 0; label = get_or bs (at + 2) 0 }

unfoldable pub after_node : ℕ → ℕ
after_node at = at + 3

-- n nodes from a place on
unfoldable pub nodes_at : List ℕ → ℕ → ℕ → List Node
nodes_at bs = standing (node_at bs) after_node
