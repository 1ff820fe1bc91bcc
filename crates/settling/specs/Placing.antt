-- An entry of a table by value is replaced: what the table then stands for.
use Rattle.std.specs.Prelude.{ℕ, ◌<◌, ◌≡◌, set, take}
use Rattle.std.proofs.Common.{◌∙◌, ⊎_elim, length-set}
use Rattle.std.proofs.Math.Path.{ap}
use mathlib.Core.List.{map}
use Rattle.std.proofs.Math.Seq.{take-set-lt}
use Rattle.base.specs.Mapping.{map-set}
use Rattle.base.specs.Replacing.{set_gives}
use Rattle.shapes.specs.Patterns.{WellFormed, WellFormedAll}
use Rattle.shapes.specs.Shapes.{entry_of, entries_in, table_of, WellFormedTable, well_formed_table}
use Rattle.shapes.specs.declared.Entry.{Entry}
use Rattle.shapes.specs.declared.Table.{Table}

-- an entry is put at a place
module _ (t : Table) (s : WellFormedTable t) (i : ℕ) (e : Entry) (h : i < t.count) where
  -- the entries that are then there
  put : take t.count (set t.entries i e) ≡ set (take t.count t.entries) i e
  put = take-set-lt t.count t.entries i e h

  -- what the entries of the table with it stand for
  pub put_table_lem : (u : Table) → u.count ≡ t.count → u.entries ≡ set t.entries i e → table_of u ≡ set (table_of t) i (entry_of e)
  unfolding table_of entries_in
  put_table_lem u c es = rw (c, es) (ap (map entry_of) put ∙ map-set entry_of (entries_in t) i e)

  module _ (sp : WellFormed e.pattern) where
    -- they are well formed where its pattern is
    pub put_patterns : WellFormedAll (take t.count (set t.entries i e))
    put_patterns f m = ⊎_elim (λ q. rw q sp) (λ k. t.patterns f k) (set_gives (take t.count t.entries) i e (rw put at m))

    -- that table
    abbrev pub table_with : Table
    table_with = record { count = t.count; entries = set t.entries i e; few = t.few; full = length-set t.entries i e ∙ t.full; patterns = put_patterns }

    -- is well formed
    pub put-sound : WellFormedTable table_with
    put-sound = well_formed_table table_with
