-- The notation in which people write patterns, one to a line: which bytes are a line and what steps a line draws, apart from
-- any reader and any writer.
--
--     line      = "."  |  branches
--     branches  = bracketed+ [ branch ]  |  branch
--     bracketed = "[" ( branch | rest | ".//" rest ) "]"
--     branch    = ( "/" | "//" ) rest
--     rest      = ( "*" | label ) [ branches ]
--     label     = one or more bytes other than  / * [ ] .  and line feed
use Rattle.std.specs.Prelude.{ℕ, suc, ◌+◌, ◌≤◌, ◌<◌, ◌≡◌, ◌⊎◌, Bool, true, not, List, [], ◌∷◌, ◌++◌, eqb, length, take}
use Rattle.base.specs.Lists.{some, every}
use Rattle.meaning.specs.Numbers.{longest_line}
use Rattle.meaning.specs.Forest.{Axis, near, far}
use Rattle.meaning.specs.PatternText.{ascii, axis_text}

-- ---- labels

-- the bytes that no label of a line has
unfoldable pub barred : ℕ → Bool
barred b = some (eqb b) (ascii "/*[].\n")

unfoldable pub unbarred : ℕ → Bool
unbarred b = not (barred b)

-- no byte of it is barred: a label that can stand in a line
unfoldable pub writable : List ℕ → Bool
writable l = every unbarred l

-- any, or a label by its bytes
pub data Name : Type 0 where
  any : Name
  called : List ℕ → Name

-- * is any; a label has at least one byte
pub data Named : List ℕ → Name → Type 0 where
  starred : Named (ascii "*") any
  labelled : (b : ℕ) (l : List ℕ) → writable (b ∷ l) ≡ true → Named (b ∷ l) (called (b ∷ l))

-- ---- lines

-- what a line draws: no step; or a step with its axis and name, its own branches, and the branches after it below the same parent
pub data Sketch : Type 0 where
  blank : Sketch
  draw : Axis → Name → Sketch → Sketch → Sketch

mutual
  -- some in brackets, then at most one without, at least one in all
  pub data Branches : List ℕ → Sketch → Type 0 where
    bare : {s : List ℕ} {a : Axis} {n : Name} {kids : Sketch} → Branch s a n kids → Branches s (draw a n kids blank)
    last : {s : List ℕ} {a : Axis} {n : Name} {kids : Sketch} → Bracketed s a n kids → Branches s (draw a n kids blank)
    more : {s r : List ℕ} {a : Axis} {n : Name} {kids later : Sketch} → Bracketed s a n kids → Branches r later
        → Branches (s ++ r) (draw a n kids later)

  -- in brackets b means /b and .//b means //b
  pub data Bracketed : List ℕ → Axis → Name → Sketch → Type 0 where
    whole : {s : List ℕ} {a : Axis} {n : Name} {kids : Sketch} → Branch s a n kids → Bracketed (ascii "[" ++ (s ++ ascii "]")) a n kids
    near_short : {s : List ℕ} {n : Name} {kids : Sketch} → Rest s n kids → Bracketed (ascii "[" ++ (s ++ ascii "]")) near n kids
    far_short : {s : List ℕ} {n : Name} {kids : Sketch} → Rest s n kids → Bracketed (ascii "[.//" ++ (s ++ ascii "]")) far n kids

  -- an axis, a label or * and, if any, its own branches
  pub data Branch : List ℕ → Axis → Name → Sketch → Type 0 where
    along : {s : List ℕ} {n : Name} {kids : Sketch} (a : Axis) → Rest s n kids → Branch (axis_text a ++ s) a n kids

  -- what stands behind an axis
  pub data Rest : List ℕ → Name → Sketch → Type 0 where
    leaf : {s : List ℕ} {n : Name} → Named s n → Rest s n blank
    over : {s r : List ℕ} {n : Name} {kids : Sketch} → Named s n → Branches r kids → Rest (s ++ r) n kids

-- a line, of any length, and what it draws
pub data Line : List ℕ → Sketch → Type 0 where
  dot : Line (ascii ".") blank
  branches : {s : List ℕ} {t : Sketch} → Branches s t → Line s t

-- ---- the steps that are drawn

pub record Drawn : Type 0 where
  pub parent : ℕ
  pub axis : Axis
  pub name : Name

unfoldable pub drawn_size : Sketch → ℕ
drawn_size blank = 0
drawn_size (draw a n kids later) = suc (drawn_size kids + drawn_size later)

-- below step p in preorder, the first of them numbered k
unfoldable pub drawn_from : ℕ → ℕ → Sketch → List Drawn
drawn_from p k blank = []
drawn_from p k (draw a n kids later) =
    record { parent = p; axis = a; name = n } ∷ (drawn_from k (suc k) kids ++ drawn_from p (suc k + drawn_size kids) later)

-- numbered from 1, below the root, which is 0
unfoldable pub steps_drawn : Sketch → List Drawn
steps_drawn t = drawn_from 0 1 t

-- ---- the place of the first fault

-- some line, of any length, begins with these bytes
pub record Begins (s : List ℕ) : Type 0 where
  pub rest : List ℕ
  pub drawing : Sketch
  pub line : Line (s ++ rest) drawing

-- the bytes are no line
abbrev pub NoLine : List ℕ → Type 0
NoLine s = (t : Sketch) → Line s t → ⊥

-- the first byte that no line of any length could have there; the length if the bytes only end early
pub record FirstFault (s : List ℕ) (i : ℕ) : Type 0 where
  -- the bytes before it, some line could have there
  pub before : (k : ℕ) → k < i → Begins (take (suc k) s)
  pub here : ((i < length s) × (Begins (take (suc i) s) → ⊥)) ⊎ ((i ≡ length s) × NoLine s)

-- where bytes are refused: at their first fault; or at 1,024, where more stand and no byte before it is at fault
abbrev pub RefusedAt : List ℕ → ℕ → Type 0
RefusedAt s i =
    ((i ≤ longest_line) × FirstFault s i)
    ⊎ ((i ≡ longest_line) × (longest_line < length s) × ((k : ℕ) → k < longest_line → Begins (take (suc k) s)))
