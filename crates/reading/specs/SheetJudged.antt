-- A sheet that was judged stands as it was read.
use Rattle.std.specs.Prelude.{ℕ, ◌≡◌, List, drop, Ok, Err}
use Rattle.std.proofs.Common.{sym, ◌∙◌}
use Rattle.meaning.specs.Reader.{read}
use Rattle.meaning.specs.Sections.{Sheet, sheet}
use Rattle.meaning.specs.Calls.{judged}
use Rattle.reading.specs.SheetPlaces.{sheet_at}
use Rattle.reading.specs.SheetSection.{sheet_section, sheet_place}
use Rattle.places.specs.Section.{section-read}
use Rattle.places.specs.Reached.{reached, section-judged, was_reached, was_refused}
use Rattle.meaning.specs.declared.Refusal.{Refusal}

-- a sheet is answered by its place
pub sheet-judged : {B : Type 0} (s : List ℕ) (refuse : Refusal → B) (next : Sheet → B)
    → judged (sheet s) refuse next ≡ reached (sheet_place s) refuse (next (sheet_at s))
unfolding sheet_section
sheet-judged s refuse next = section-judged (sheet_section s) refuse next

module _ {B : Type 0} (s : List ℕ) (refuse : Refusal → B) (next : Sheet → B) where
  -- what follows from the sheet where a place was reached
  pub sheet-said : (y : ℕ) → sheet_place s ≡ Ok y → next (sheet_at s) ≡ judged (sheet s) refuse next
  sheet-said y h = sym (sheet-judged s refuse next ∙ was_reached (sheet_place s) y refuse (next (sheet_at s)) h)

  -- and its refusal where none was
  pub sheet-refused : (n : Refusal) → sheet_place s ≡ Err n → refuse n ≡ judged (sheet s) refuse next
  sheet-refused n h = sym (sheet-judged s refuse next ∙ was_refused (sheet_place s) n refuse (next (sheet_at s)) h)

-- a sheet that was judged
pub record SheetStands (s : List ℕ) : Type 0 where
  pub left : List ℕ
  pub was_read : sheet s ≡ read (sheet_at s) left

-- so it is where a place was reached
pub sheet-stands : (s : List ℕ) (y : ℕ) → sheet_place s ≡ Ok y → SheetStands s
unfolding sheet_section
sheet-stands s y h = record { left = drop y s; was_read = section-read (sheet_section s) y h }
