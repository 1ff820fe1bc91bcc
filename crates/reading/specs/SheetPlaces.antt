-- Where steps, patterns and sheets stand in bytes, and what stands there: for any bytes and any place.
use Rattle.std.specs.Prelude.{ℕ, ◌+◌, ◌*◌, ◌≡◌, List, length, get_or}
use Rattle.base.specs.Standing.{standing, place_after, length-standing}
use Rattle.meaning.specs.Forest.{Forest, forest}
use Rattle.meaning.specs.Sections.{Sheet}
use Rattle.meaning.specs.declared.Step.{Step}
use Rattle.labels.specs.LabelPlaces.{text_at, texts_at, after_label, labels_in}

-- ---- steps: parent, axis, label

-- the step at p
unfoldable pub step_at_place : List ℕ → ℕ → Step
step_at_place s p = record { parent = get_or s p 0; axis = get_or s (p + 1) 0; label = get_or s (p + 2) 0 }

-- the place after it
unfoldable pub after_step : ℕ → ℕ
after_step p = p + 3

-- n steps from the place p on
unfoldable pub steps_at : List ℕ → ℕ → ℕ → List Step
steps_at s = standing (step_at_place s) after_step

-- ---- patterns: a step count and the steps

-- the pattern at p
unfoldable pub forest_at : List ℕ → ℕ → Forest
forest_at s p = forest (steps_at s (p + 1) (get_or s p 0))

-- the place after that pattern
unfoldable pub after_pattern : List ℕ → ℕ → ℕ
after_pattern s p = p + 1 + 3 * get_or s p 0

-- n patterns from the place p on
unfoldable pub forests_at : List ℕ → ℕ → ℕ → List Forest
forests_at s = standing (forest_at s) (after_pattern s)

-- ---- a sheet: labels after their count, then patterns after theirs

-- the place of the count of patterns
unfoldable pub pattern_count_at : List ℕ → ℕ
pattern_count_at s = place_after (after_label s) 1 (get_or s 0 0)

-- the sheet that stands in the bytes
unfoldable pub sheet_at : List ℕ → Sheet
sheet_at s = record { labels = labels_in s; patterns = forests_at s (pattern_count_at s + 1) (get_or s (pattern_count_at s) 0) }

-- it has as many labels as their count says
pub labels-counted : (s : List ℕ) → length (sheet_at s).labels ≡ get_or s 0 0
unfolding sheet_at labels_in texts_at
labels-counted s = length-standing (text_at s) (after_label s) 1 (get_or s 0 0)
