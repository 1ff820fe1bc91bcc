-- What the text of a step is made of: its axis, and its label as the sheet has it.
use Rattle.std.specs.Prelude.{ℕ, zero, suc, ◌≡◌, refl, List, [], ◌∷◌}
use Rattle.std.proofs.Common.{arith}
use Rattle.meaning.specs.Forest.{axis_of}
use Rattle.meaning.specs.LabelBytes.{label_at}
use Rattle.meaning.specs.PatternText.{ascii, axis_text, label_text}

-- ---- an axis

-- 0 is near, and any other far
pub near-text : (x : ℕ) → x ≡ 0 → axis_text (axis_of x) ≡ 47 ∷ []
unfolding axis_text axis_of ascii
near-text zero e = refl
near-text (suc x) e = absurd (omega arith)

pub far-text : (x : ℕ) → (x ≡ 0 → ⊥) → axis_text (axis_of x) ≡ 47 ∷ 47 ∷ []
unfolding axis_text axis_of ascii
far-text zero e = absurd (e refl)
far-text (suc x) e = refl

-- ---- a label

-- label 0 is any
pub any_text : (ls : List (List ℕ)) (l : ℕ) → l ≡ 0 → label_text ls l ≡ 42 ∷ []
unfolding label_text ascii
any_text ls zero e = refl
any_text ls (suc l) e = absurd (omega arith)

-- the others are their bytes
pub label_text_lem : (ls : List (List ℕ)) (l : ℕ) → (l ≡ 0 → ⊥) → label_text ls l ≡ label_at ls l
unfolding label_text
label_text_lem ls zero h = absurd (h refl)
label_text_lem ls (suc l) h = refl
