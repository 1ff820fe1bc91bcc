-- The rose bench: sheet R and document D1 as bytes, and the patterns of the examples.
use Rattle.std.specs.Prelude.{ℕ, List, [], ◌∷◌, ◌++◌}
use Rattle.meaning.specs.Forest.{near, far, Forest, none, step}
use Rattle.meaning.specs.PatternText.{ascii}

-- labels CD, SONY, Bach; s0 = /CD[/SONY][/*/Bach], s1 = //CD/Bach, s2 = /CD
unfoldable pub sheet_r : List ℕ
sheet_r =
    0x03 ∷ (0x02 ∷ ascii "CD" ++ (0x04 ∷ ascii "SONY" ++ (0x04 ∷ ascii "Bach" ++ (
    0x03
    ∷ 0x04 ∷ 0x00 ∷ 0x00 ∷ 0x01 ∷ 0x01 ∷ 0x00 ∷ 0x02 ∷ 0x01 ∷ 0x00 ∷ 0x00 ∷ 0x03 ∷ 0x00 ∷ 0x03
    ∷ 0x02 ∷ 0x00 ∷ 0x01 ∷ 0x01 ∷ 0x01 ∷ 0x00 ∷ 0x03
    ∷ 0x01 ∷ 0x00 ∷ 0x00 ∷ 0x01
    ∷ []))))

-- CD over SONY and composer, composer over Bach
unfoldable pub document_d1 : List ℕ
document_d1 =
    0x01 ∷ (0x08 ∷ ascii "composer" ++ (
    0x04 ∷ 0x00
    ∷ 0x00 ∷ 0x00 ∷ 0x01
    ∷ 0x01 ∷ 0x00 ∷ 0x02
    ∷ 0x01 ∷ 0x00 ∷ 0x04
    ∷ 0x03 ∷ 0x00 ∷ 0x03
    ∷ []))

-- a document of one node SONY
unfoldable pub document_sony : List ℕ
document_sony = 0x00 ∷ 0x01 ∷ 0x00 ∷ 0x00 ∷ 0x00 ∷ 0x02 ∷ []

-- the table for limit 3: //CD/Bach with member 1, then /CD with members 0 and 2
unfoldable pub table_r3 : List ℕ
table_r3 =
    0x02
    ∷ 0x02 ∷ 0x00 ∷ 0x00 ∷ 0x00 ∷ 0x00 ∷ 0x00 ∷ 0x00 ∷ 0x00
    ∷ 0x02 ∷ 0x00 ∷ 0x01 ∷ 0x01 ∷ 0x01 ∷ 0x00 ∷ 0x03
    ∷ 0x05 ∷ 0x00 ∷ 0x00 ∷ 0x00 ∷ 0x00 ∷ 0x00 ∷ 0x00 ∷ 0x00
    ∷ 0x01 ∷ 0x00 ∷ 0x00 ∷ 0x01
    ∷ []

-- the table for limit 2: one entry //CD, members 0, 1, 2
unfoldable pub table_r2 : List ℕ
table_r2 =
    0x01
    ∷ 0x07 ∷ 0x00 ∷ 0x00 ∷ 0x00 ∷ 0x00 ∷ 0x00 ∷ 0x00 ∷ 0x00
    ∷ 0x01 ∷ 0x00 ∷ 0x01 ∷ 0x01
    ∷ []

-- the table for limit 0: a pattern without steps, members 0, 1, 2
unfoldable pub table_r0 : List ℕ
table_r0 =
    0x01
    ∷ 0x07 ∷ 0x00 ∷ 0x00 ∷ 0x00 ∷ 0x00 ∷ 0x00 ∷ 0x00 ∷ 0x00
    ∷ 0x00
    ∷ []

-- [//CD//Bach][//*/Bach], as it is written
unfoldable pub merge_r01 : List ℕ
merge_r01 =
    0x04
    ∷ 0x00 ∷ 0x01 ∷ 0x01
    ∷ 0x01 ∷ 0x01 ∷ 0x03
    ∷ 0x00 ∷ 0x01 ∷ 0x00
    ∷ 0x03 ∷ 0x00 ∷ 0x03
    ∷ []

-- ---- patterns in the paper's notation

-- a branch: /l and //l with what is below
unfoldable pub slash : ℕ → Forest → Forest
slash l kids = step near l kids none

unfoldable pub slashes : ℕ → Forest → Forest
slashes l kids = step far l kids none

-- labels, and any
unfoldable pub a : ℕ
a = 1

unfoldable pub b : ℕ
b = 2

unfoldable pub c : ℕ
c = 3

unfoldable pub star : ℕ
star = 0
