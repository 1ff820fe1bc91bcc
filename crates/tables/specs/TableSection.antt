-- The bytes of a table beside a sheet that was judged: how they are judged by places, and that this is how the paper reads
-- them; where its entries stand.
use Rattle.std.specs.Prelude.{ℕ, ◌+◌, refl, List, leb, get_or}
use Rattle.std.proofs.Common.{sym, ap}
use Rattle.base.specs.Choice.{pick}
use Rattle.base.specs.Loops.{and_then}
use Rattle.base.specs.Standing.{standing}
use Rattle.meaning.specs.Numbers.{most_entries}
use Rattle.meaning.specs.Reader.{repeat}
use Rattle.meaning.specs.Sections.{Entry, entry, table}
use Rattle.shapes.specs.declared.Entry as shapes
use Rattle.places.specs.NumberRead.{number_in}
use Rattle.places.specs.Section.{Section, read_as, stands_as}
use Rattle.reading.specs.SheetPlaces.{forest_at, after_pattern, sheet_at, labels-counted}
use Rattle.reading.specs.SheetSection.{pattern_section, sheet_place}
use Rattle.subscriptions.specs.Taken.{itself, pattern_at}
use Rattle.tables.specs.declared.Entries.{Entries}
use Rattle.places.specs.Fields.{byte_then, number_then, unless_then, then_given, section_then, end_then}
use Rattle.places.specs.InTurn.{repeated}
use Rattle.meaning.specs.declared.Refusal.TheVariants.{CountOutside}
use Rattle.places.specs.Bytes.{Place}

-- ---- where entries stand: eight bytes of members, then the pattern

-- the place after the entry at x
unfoldable pub after_entry : List ℕ → ℕ → ℕ
after_entry t x = after_pattern t (x + 8)

-- the entry at x, as it is read
unfoldable pub entry_in : List ℕ → ℕ → Entry
entry_in t x = record { members = number_in t x 8; pattern = forest_at t (x + 8) }

-- the entry at x by value
unfoldable pub entry_taken : List ℕ → ℕ → shapes.Entry
entry_taken t x = record { members = number_in t x 8; pattern = pattern_at t (x + 8) }

-- the entries of a table, as they stand
unfoldable pub table_at : List ℕ → List Entry
table_at t = standing (entry_in t) (after_entry t) 1 (get_or t 0 0)

-- the places of n entries
unfoldable pub entry_places : List ℕ → ℕ → ℕ → List ℕ
entry_places t = standing itself (after_entry t)

-- how many entries a table has, none where the count is outside its limits, and the place of each; behind those the
-- places go on in the same way
unfoldable pub table_entries : List ℕ → Entries
table_entries t = record { count = pick (leb (get_or t 0 0) most_entries) (get_or t 0 0) 0; places = entry_places t 1 most_entries }

-- entries that are lent part by part
abbrev pub entries_lent : ℕ → List ℕ → Entries
entries_lent count places = record { count = count; places = places }

-- ---- how they are judged

-- an entry at x, with so many labels
unfoldable pub entry_section : (t : List ℕ) (known x : ℕ) → Section t (entry known) x
unfolding entry entry_in after_entry pattern_section
entry_section t known x =
    stands_as (entry_in t x) (after_entry t x) (
    number_then 8 λ ms.
    then_given (λ p. record { members = ms; pattern = p }) (pattern_section t known (x + 8)))
    refl refl

abbrev pub entry_place : List ℕ → ℕ → ℕ → Place
entry_place t known x = (entry_section t known x).place

-- the bytes of a table, beside the sheet
unfoldable pub table_section : (s t : List ℕ) → Section t (table (sheet_at s)) 0
unfolding table sheet_at table_at entry_section
table_section s t =
    stands_as (table_at t) _ (
    byte_then λ n.
    unless_then CountOutside (leb n most_entries) (
    section_then _ (read_as (ap (λ (k : ℕ). repeat n (entry k)) (sym (labels-counted s))) (repeated (entry_section t (get_or s 0 0)) n 1)) λ y.
    end_then _))
    refl refl

-- where a table ends, or the number of its first fault
abbrev pub table_place : List ℕ → List ℕ → Place
table_place s t = (table_section s t).place

-- where both end, the sheet judged first
unfoldable pub sheet_table_place : List ℕ → List ℕ → Place
sheet_table_place s t = and_then (sheet_place s) (λ x. table_place s t)
