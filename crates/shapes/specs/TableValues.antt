-- A well-formed table by value: how many entries it has, what stands at each place, and how many steps that has.
use Rattle.std.specs.Prelude.{ℕ, ◌≤◌, ◌<◌, ◌≡◌, [], length, get_or}
use Rattle.std.proofs.Math.Path.{sym, ap}
use Rattle.std.proofs.Common.{◌∙◌, arith}
use Rattle.std.proofs.Math.ListN.{length-map}
use Rattle.std.proofs.Math.Seq.{length-take-le, get_or-take}
use Rattle.base.specs.Mapping.{get_or-map_there}
use Rattle.base.specs.Replacing.{place_in}
use Rattle.meaning.specs.Building.{entry_at, entry_steps}
use Rattle.shapes.specs.Shapes.{WellFormed, entry_of, entries_in, table_of, WellFormedTable}
use Rattle.shapes.specs.Steps.{count-size}
use Rattle.shapes.specs.declared.Entry.{Entry}
use Rattle.shapes.specs.declared.Table.{Table}

-- what a place behind the last entry reads as
abbrev pub no_entry_value : Entry
no_entry_value = record { members = 0; pattern = record { count = 0; steps = [] } }

module _ (t : Table) (sound : WellFormedTable t) where
  -- the array has as many entries as are counted
  pub entries_fit : t.count ≤ length t.entries
  entries_fit = omega (arith, sound.few, sound.full)

  -- as many of them are there as are counted
  pub length-entries : length (entries_in t) ≡ t.count
  unfolding entries_in
  length-entries = length-take-le t.count t.entries entries_fit

  -- as many as the table has
  pub length-table : length (table_of t) ≡ t.count
  unfolding table_of
  length-table = length-map (entries_in t) entry_of ∙ length-entries

  module _ (i : ℕ) (d : Entry) (h : i < t.count) where
    -- each stands where it stands in the array
    pub entry_held : get_or (entries_in t) i d ≡ get_or t.entries i d
    unfolding entries_in
    entry_held = get_or-take t.count t.entries i d h

    -- what stands at a place
    pub entry_at_lem : entry_at (table_of t) i ≡ entry_of (get_or t.entries i d)
    unfolding entry_at table_of
    entry_at_lem = get_or-map_there entry_of (entries_in t) i d _ (omega (arith, length-entries)) ∙ ap entry_of entry_held

    -- its pattern is well formed
    pub entry-sound : WellFormed (get_or t.entries i d).pattern
    entry-sound = rw entry_held at (sound.patterns (get_or (entries_in t) i d) (place_in (entries_in t) i d (omega (arith, length-entries))))

    -- and has as many steps as it counts
    pub steps_at_lem : entry_steps (entry_at (table_of t) i) ≡ (get_or t.entries i d).pattern.count
    unfolding entry_steps entry_of
    steps_at_lem = ap entry_steps entry_at_lem ∙ sym (count-size (get_or t.entries i d).pattern entry-sound)
