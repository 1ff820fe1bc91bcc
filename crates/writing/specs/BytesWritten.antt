-- The bytes of a pattern and of a table, as the loops that write them go.
use Rattle.std.specs.Prelude.{ℕ, ◌+◌, ◌*◌, ◌≤◌, ◌<◌, ◌≡◌, refl, length, get_or}
use Rattle.std.proofs.Common.{sym, ◌∙◌, arith, length-append}
use Rattle.std.proofs.Math.Path.{ap}
use mathlib.Core.List.{List, [], ◌∷◌, flat_map}
use Rattle.std.proofs.lemmas.List.Edits.{sets}
use Rattle.std.proofs.Math.Seq.{get_or-take}
use Rattle.base.specs.Storing.{sets-append, parts_from, parts_go_on, parts_end, flat_map-map}
use Rattle.meaning.specs.Written.{step_bytes, pattern_bytes, number_bytes, entry_bytes, table_bytes}
use Rattle.meaning.specs.declared.Step.{Step}
use Rattle.members.specs.MemberBytes.{length-number_bytes}
use Rattle.shapes.specs.Shapes.{steps_in, pattern_of, entry_of, entries_in, table_of, WellFormed, WellFormedTable}
use Rattle.shapes.specs.Steps.{length-steps, count-size}
use Rattle.shapes.specs.TableValues.{entries_fit, length-table}
use Rattle.shapes.specs.declared.Pattern.{Pattern}
use Rattle.shapes.specs.declared.Entry.{Entry}
use Rattle.shapes.specs.declared.Table.{Table}

-- ---- patterns

-- three bytes a step
three_each : (ss : List Step) → length (flat_map step_bytes ss) ≡ 3 * length ss
unfolding flat_map step_bytes
three_each [] = refl
three_each (s ∷ ss) = omega (arith, three_each ss)

module _ (p : Pattern) (sound : WellFormed p) where
  -- a pattern's bytes: its count, and then its steps, all of which are left
  pub pattern_bytes_lem : pattern_bytes (pattern_of p) ≡ p.count ∷ parts_from step_bytes p.count 0 p.steps
  unfolding pattern_bytes parts_from steps_in
  pattern_bytes_lem = rw (← count-size p sound, sound.written)

  -- three bytes for each step
  pub steps-length : length (parts_from step_bytes p.count 0 p.steps) ≡ 3 * p.count
  unfolding parts_from steps_in
  steps-length = three_each (steps_in p) ∙ ap (λ (n : ℕ). 3 * n) (length-steps p sound)

  -- one byte more for the count
  pub pattern_length_lem : length (pattern_bytes (pattern_of p)) ≡ 1 + 3 * p.count
  pattern_length_lem = ap length pattern_bytes_lem ∙ omega (arith, steps-length)

  -- each step stands where it stands in the array
  pub step_held : (k : ℕ) (d : Step) → k < p.count → get_or (steps_in p) k d ≡ get_or p.steps k d
  unfolding steps_in
  step_held k d h = get_or-take p.count p.steps k d h

-- ---- tables

-- the bytes of an entry by value
unfoldable pub bytes_of : Entry → List ℕ
bytes_of e = entry_bytes (entry_of e)

-- eight bytes of members, and the pattern's
pub entry_length : (e : Entry) → length (bytes_of e) ≡ 8 + length (pattern_bytes (pattern_of e.pattern))
unfolding bytes_of entry_bytes entry_of
entry_length e = length-append (number_bytes 8 e.members) _ ∙ omega (arith, length-number_bytes 8 e.members)

-- members stored, and then the pattern behind them
pub entry_stored : (e : Entry) (out : List ℕ) (at : ℕ)
    → sets (sets out at (number_bytes 8 e.members)) (at + 8) (pattern_bytes (pattern_of e.pattern)) ≡ sets out at (bytes_of e)
unfolding bytes_of entry_bytes entry_of
entry_stored e out at =
    ap (λ (n : ℕ). sets (sets out at (number_bytes 8 e.members)) (at + n) (pattern_bytes (pattern_of e.pattern))) (sym (length-number_bytes 8 e.members))
    ∙ sym (sets-append out at (number_bytes 8 e.members) (pattern_bytes (pattern_of e.pattern)))

-- the length so far and that of the entries from i on are the table's; at most 57 bytes for each entry so far
pub record Measuring (t : Table) (i long : ℕ) : Type 0 where
  pub within : i ≤ t.count
  pub all : long + length (parts_from bytes_of t.count i t.entries) ≡ length (table_bytes (table_of t))
  pub small : long ≤ 1 + 57 * i

module _ (t : Table) (sound : WellFormedTable t) where
  -- a table's bytes: its count, and then its entries, all of which are left
  pub table_bytes_lem : table_bytes (table_of t) ≡ t.count ∷ parts_from bytes_of t.count 0 t.entries
  unfolding table_bytes table_of entries_in parts_from bytes_of
  table_bytes_lem = λ i. length-table t sound i ∷ flat_map-map entry_bytes entry_of (entries_in t) i

  -- the entries from i on take what the entry at i takes, and those after it
  entries-length : (i : ℕ) (d : Entry) → i < t.count
      → length (parts_from bytes_of t.count i t.entries)
      ≡ 8 + length (pattern_bytes (pattern_of (get_or t.entries i d).pattern)) + length (parts_from bytes_of t.count (i + 1) t.entries)
  entries-length i d h =
      ap length (parts_go_on bytes_of t.count i t.entries (entries_fit t sound) d h)
      ∙ length-append (bytes_of (get_or t.entries i d)) _
      ∙ omega (arith, entry_length (get_or t.entries i d))

  -- the count is measured
  pub measuring_starts : Measuring t 0 1
  measuring_starts = record { within = omega arith; all = omega (arith, ap length table_bytes_lem); small = omega arith }

  module _ {i long : ℕ} (turn : Measuring t i long) where
    -- the entry at i, by its pattern's length
    pub measuring_goes_on : (d : Entry) (n : ℕ) → i < t.count → (n ≡ length (pattern_bytes (pattern_of (get_or t.entries i d).pattern))) × (n ≤ 49)
        → Measuring t (i + 1) (long + (8 + n))
    measuring_goes_on d n h found =
        record {
          within = omega arith;
          all = omega (arith, turn.all, found.0, entries-length i d h);
          small = omega (arith, turn.small, found.1);
        }

    -- all entries are
    pub measuring_ends : t.count ≤ i → long ≡ length (table_bytes (table_of t))
    measuring_ends h = omega (arith, turn.all, ap length (parts_end bytes_of t.count i t.entries (entries_fit t sound) h))
