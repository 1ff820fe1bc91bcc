-- How a pattern and a table are written: the bytes that read back as they are.
use Rattle.std.specs.Prelude.{ℕ, zero, suc, ◌/◌, ◌%◌, length}
use mathlib.Core.List.{List, [], ◌∷◌, ◌++◌, flat_map}
use Rattle.meaning.specs.Forest.{Forest, size, steps_of}
use Rattle.meaning.specs.Sections.{Sheet, Entry}
use Rattle.meaning.specs.declared.Step.{Step}

-- three bytes a step
unfoldable pub step_bytes : Step → List ℕ
step_bytes s = s.parent ∷ s.axis ∷ s.label ∷ []

-- a step count and the steps
unfoldable pub steps_bytes : List Step → List ℕ
steps_bytes ss = length ss ∷ flat_map step_bytes ss

-- those of a pattern
unfoldable pub pattern_bytes : Forest → List ℕ
pattern_bytes f = size f ∷ flat_map step_bytes (steps_of f)

-- n bytes of a number, the low byte first
unfoldable pub number_bytes : ℕ → ℕ → List ℕ
number_bytes zero x = []
number_bytes (suc n) x = x % 256 ∷ number_bytes n (x / 256)

-- eight bytes of members, then the pattern
unfoldable pub entry_bytes : Entry → List ℕ
entry_bytes e = number_bytes 8 e.members ++ pattern_bytes e.pattern

unfoldable pub table_bytes : List Entry → List ℕ
table_bytes es = length es ∷ flat_map entry_bytes es

-- a length and that many bytes
unfoldable pub label_bytes : List ℕ → List ℕ
label_bytes text = length text ∷ text

unfoldable pub sheet_bytes : Sheet → List ℕ
sheet_bytes sh =
    (length sh.labels ∷ flat_map label_bytes sh.labels)
    ++ (length sh.patterns ∷ flat_map pattern_bytes sh.patterns)
