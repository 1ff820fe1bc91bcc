-- A pattern as text. Notation: / near, // far, * any; one child follows at once, several stand in brackets; a pattern without
-- steps is a dot.
use Rattle.std.specs.Prelude.{ℕ, zero, suc, Bool, true, false, List, [], ◌∷◌, ◌++◌}
use Prim.Native.Char.{code}
use Prim.Native.String.{String}
use Rattle.meaning.specs.Forest.{Axis, near, far, Forest, none, step}
use Rattle.meaning.specs.LabelBytes.{label_at}

-- the bytes of a text in ASCII
unfoldable pub ascii : String → List ℕ
ascii String.[] = []
ascii (String.◌∷◌ c s) = code c ∷ ascii s

unfoldable pub axis_text : Axis → List ℕ
axis_text near = ascii "/"
axis_text far = ascii "//"

unfoldable pub label_text : List (List ℕ) → ℕ → List ℕ
label_text ls zero = ascii "*"
label_text ls (suc l) = label_at ls (suc l)

-- several branches below one parent
unfoldable pub several : Forest → Bool
several none = false
several (step a l kids none) = false
several (step a l kids (step b m more later)) = true

unfoldable pub in_brackets : Bool → List ℕ → List ℕ
in_brackets true text = ascii "[" ++ (text ++ ascii "]")
in_brackets false text = text

-- the branches below one parent, each in brackets where there are several
unfoldable pub branches_text : List (List ℕ) → Bool → Forest → List ℕ
branches_text ls many none = []
branches_text ls many (step a l kids later) =
    in_brackets many (axis_text a ++ (label_text ls l ++ branches_text ls (several kids) kids)) ++ branches_text ls many later

unfoldable pub pattern_text : List (List ℕ) → Forest → List ℕ
pattern_text ls none = ascii "."
pattern_text ls (step a l kids later) = branches_text ls (several (step a l kids later)) (step a l kids later)
