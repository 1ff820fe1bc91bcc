-- The bytes of a pattern, and no more: how they are judged by places, and that the pattern by value is the one that was read.
use Rattle.std.specs.Prelude.{ℕ, ◌≡◌, List, Ok}
use Rattle.std.proofs.Math.Path.{refl}
use Rattle.meaning.specs.LineCalls.{only_pattern}
use Rattle.shapes.specs.Shapes.{pattern_of, WellFormed}
use Rattle.places.specs.Bytes.{end_place, Place}
use Rattle.places.specs.Answer.{passed_on}
use Rattle.places.specs.Section.{Section, stands_as}
use Rattle.places.specs.Fields.{section_then, end_then}
use Rattle.reading.specs.SheetPlaces.{forest_at}
use Rattle.reading.specs.SheetSection.{pattern_section, pattern_place}
use Rattle.subscriptions.specs.Taken.{pattern_at}
use Rattle.subscriptions.specs.TakenRead.{taken-sound}

module _ (p : List ℕ) (known : ℕ) where
  -- with so many labels
  unfoldable pub only_section : Section p (only_pattern known) 0
  unfolding only_pattern pattern_section
  only_section =
      stands_as (forest_at p 0) _ (
      section_then _ (pattern_section p known 0) λ y.
      end_then _)
      refl refl

  abbrev pub only_place : Place
  only_place = only_section.place

  -- the pattern by value at their start is the one that was read, well formed
  pub only_taken : (y : ℕ) → only_place ≡ Ok y → (pattern_of (pattern_at p 0) ≡ forest_at p 0) × WellFormed (pattern_at p 0)
  unfolding only_section
  only_taken y h =
      let first = passed_on (pattern_place p known 0) (end_place p) y h in
      taken-sound p known 0 first.0 first.1
