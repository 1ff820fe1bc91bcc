-- Patterns and sheets: how they are judged by places in their bytes, and that this is how the paper reads them.
use Rattle.std.specs.Prelude.{ℕ, ◌+◌, ◌≡◌, true, List, leb, ltb, length, get_or, Ok, Err}
use Rattle.std.proofs.Math.Path.{refl}
use Rattle.std.proofs.Common.{sym, ap}
use Rattle.base.specs.Choice.{pick}
use Rattle.base.specs.Standing.{standing}
use Rattle.base.specs.Loops.{and_then, run}
use Rattle.meaning.specs.Numbers.{most_steps, most_patterns}
use Rattle.meaning.specs.Reader.{read, ◌>>=◌, ◌>>◌, give, unless, byte, repeat, end}
use Rattle.meaning.specs.Forest.{Forest, forest}
use Rattle.meaning.specs.Sections.{pattern, Sheet, sheet}
use Rattle.meaning.specs.Calls.{sheet_number}
use Rattle.labels.specs.LabelPlaces.{texts_at, labels_in}
use Rattle.labels.specs.LabelSection.{labels_place, labels_section, length-texts}
use Rattle.reading.specs.SheetPlaces.{pattern_count_at, sheet_at, forest_at, after_pattern, forests_at}
use Rattle.reading.specs.StepSection.{steps_section}
use Rattle.places.specs.Bytes.{end_place, number_at, Place}
use Rattle.places.specs.Answer.{and_then-pick, passed, passed_on}
use Rattle.places.specs.Section.{Section, judged_as, read_as, stands_as, section_is, section-number}
use Rattle.places.specs.Fields.{byte_then, unless_then, then_given, section_then, end_then}
use Rattle.places.specs.InTurn.{repeated, each_place}
use Rattle.meaning.specs.declared.Refusal.TheVariants.{EndsEarly, CountOutside}

-- ---- patterns

module _ (s : List ℕ) (known : ℕ) where
  -- a pattern at x, with so many labels
  unfoldable pub pattern_section : (x : ℕ) → Section s (pattern known) x
  unfolding pattern forest_at after_pattern steps_section
  pattern_section x =
      stands_as (forest_at s x) (after_pattern s x) (
      byte_then λ n.
      unless_then CountOutside (leb n most_steps) (
      then_given forest (steps_section s known (x + 1) n)))
      refl refl

  abbrev pub pattern_place : ℕ → Place
  pattern_place x = (pattern_section x).place

  -- the patterns of a sheet from their count at x on
  unfoldable pub patterns_place : ℕ → Place
  patterns_place x =
      pick (ltb x (length s))
      (pick (leb (get_or s x 0) most_patterns) (run (each_place pattern_section) (get_or s x 0) 0 (x + 1)) (Err CountOutside))
      (Err EndsEarly)

-- ---- a sheet

-- a sheet of its labels and patterns
abbrev pub a_sheet : List (List ℕ) → List Forest → Sheet
a_sheet ls ps = record { labels = ls; patterns = ps }

-- the patterns of a sheet of n labels, from their count at x on, and the end
unfoldable pub patterns_to_end : (s : List ℕ) (n x : ℕ) → Section s (
    ◌>>=◌ byte λ m.
    ◌>>◌ (unless CountOutside (leb m most_patterns)) (
    ◌>>=◌ (repeat m (pattern (length (texts_at s 1 n)))) λ ps.
    ◌>>◌ end (give (a_sheet (texts_at s 1 n) ps)))) x
unfolding patterns_place and_then
patterns_to_end s n x =
    judged_as (and_then (patterns_place s n x) (end_place s)) (
    byte_then λ m.
    unless_then CountOutside (leb m most_patterns) (
    section_then _ (read_as (ap (λ (k : ℕ). repeat m (pattern k)) (sym (length-texts s 1 n))) (repeated (pattern_section s n) m (x + 1))) λ y.
    end_then _))
    (simp and_then-pick)

unfoldable pub sheet_section : (s : List ℕ) → Section s sheet 0
unfolding sheet texts_at standing patterns_to_end pattern_section sheet_at labels_in pattern_count_at forests_at labels_section
sheet_section s =
    stands_as (sheet_at s) _ (
    byte_then λ n.
    section_then _ (labels_section s 0 s 1 n) (patterns_to_end s n))
    refl refl

-- where a sheet ends, or the number of its first fault
abbrev pub sheet_place : List ℕ → Place
sheet_place s = (sheet_section s).place

-- the number of a sheet
pub sheet_number_lem : (s : List ℕ) → number_at (sheet_place s) ≡ sheet_number s
unfolding sheet_number
sheet_number_lem s = sym (section-number (sheet_section s))

-- the patterns of a sheet that was read: how many there are, and that all of them were read where they stand
pub record PatternsStand (s : List ℕ) : Type 0 where
  pub few : leb (get_or s (pattern_count_at s) 0) most_patterns ≡ true
  pub final : ℕ
  pub all_read : run (each_place (pattern_section s (get_or s 0 0))) (get_or s (pattern_count_at s) 0) 0 (pattern_count_at s + 1) ≡ Ok final

-- so it is of every sheet that was read
pub patterns-stand : (s : List ℕ) (sh : Sheet) (left : List ℕ) → sheet s ≡ read sh left → PatternsStand s
unfolding sheet_section patterns_to_end labels_section patterns_place pattern_count_at
patterns-stand s sh left h =
    let c = (section_is (sheet_section s) sh left h).1 in
    let a = passed (ltb 0 (length s)) _ EndsEarly c.0 c.1 in
    let b = passed_on (labels_place s 0 s 1 (get_or s 0 0)) _ c.0 a.1 in
    let e = passed_on (patterns_place s (get_or s 0 0) b.0) _ c.0 b.2 in
    section b.0 e.0 ((labels_section s 0 s 1 (get_or s 0 0)).leads b.0 b.1) e.1
  where
    section : (x y : ℕ) → x ≡ pattern_count_at s → patterns_place s (get_or s 0 0) x ≡ Ok y → PatternsStand s
    section x y there h =
        let f = passed (ltb x (length s)) _ EndsEarly y h in
        let g = passed (leb (get_or s x 0) most_patterns) _ CountOutside y f.1 in
        record { few = rw there at g.0; final = y; all_read = rw there at g.1 }
