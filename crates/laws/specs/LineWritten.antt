-- What is written of a pattern is a line of the notation, and what the line draws is the pattern.
use Prim.Native.Nat.{ℕ, zero, suc, ◌+◌, ◌≤◌}
use Rattle.std.specs.Prelude.{◌≡◌, Bool, length, get_or}
use Rattle.std.proofs.Math.Path.{refl, sym}
use Rattle.std.proofs.Common.{◌∙◌, true≢false, arith}
use Rattle.std.proofs.Math.Bool.{true, false}
use mathlib.Core.List.{List, [], ◌∷◌, ◌++◌, append-nil}
use Rattle.base.specs.Bools.{and_first, and_second}
use Rattle.base.specs.Lists.{every}
use Rattle.base.specs.ListLaws.{every_append}
use Rattle.base.specs.Replacing.{place_in}
use Rattle.meaning.specs.Forest.{Axis, axis_number, Forest, none, step, size, steps_from, steps_of}
use Rattle.meaning.specs.LabelBytes.{label_at}
use Rattle.meaning.specs.PatternText.{label_text, several, in_brackets, branches_text, pattern_text}
use Rattle.meaning.specs.Notation.{writable, Name, called, Named, starred, labelled, Sketch, blank, draw}
use Rattle.meaning.specs.Notation.{Branches, bare, last, more, whole, Branch, along, Rest, leaf, over, Line, dot, branches}
use Rattle.meaning.specs.Notation.{drawn_size, drawn_from, steps_drawn}
use Rattle.meaning.specs.LineCalls.{known_drawn, step_writable}
use Rattle.laws.specs.Labels.{Distinct}
use Rattle.laws.specs.MergeLabels.{LabelsWithin}
use Rattle.laws.specs.TextRoom.{Sized}
use Rattle.laws.specs.NameNumbers.{name_of, name_back, name-known}
use Rattle.laws.specs.LineForest.{drawn_forest}

-- a pattern as what a line draws
unfoldable pub sketched : List (List ℕ) → Forest → Sketch
sketched ls none = blank
sketched ls (step a l kids later) = draw a (name_of ls l) (sketched ls kids) (sketched ls later)

-- ---- what is written is a line

-- a label with a byte that can stand in a line is named by its bytes
by_bytes : (text : List ℕ) → 1 ≤ length text → writable text ≡ true → Named text (called text)
by_bytes [] h w = absurd (omega arith)
by_bytes (b ∷ l) h w = labelled b l w

module _ (ls : List (List ℕ)) where
  -- what stands behind an axis: its branches, if any, follow at once
  rest-written : {text : List ℕ} {n : Name} (kids : Forest) → Named text n
      → (1 ≤ size kids → Branches (branches_text ls (several kids) kids) (sketched ls kids))
      → Rest (text ++ branches_text ls (several kids) kids) n (sketched ls kids)
  unfolding branches_text sketched size
  rest-written none h below = rw append-nil (leaf h)
  rest-written (step a l kids later) h below = over h (below (omega arith))

  -- a branch stands in brackets where there are several, and so do those after it
  branch-written : {s : List ℕ} {a : Axis} {n : Name} {drawn : Sketch} (many : Bool) (l : ℕ) (kids later : Forest) → Branch s a n drawn
      → (several (step a l kids later) ≡ true → many ≡ true)
      → (1 ≤ size later → Branches (branches_text ls true later) (sketched ls later))
      → Branches (in_brackets many s ++ branches_text ls many later) (draw a n drawn (sketched ls later))
  unfolding in_brackets branches_text several sketched size
  branch-written true l kids none b h after = rw append-nil (last (whole b))
  branch-written true l kids (step a' l' kids' later) b h after = more (whole b) (after (omega arith))
  branch-written false l kids none b h after = rw append-nil (bare b)
  branch-written false l kids (step a' l' kids' later) b h after = absurd (true≢false (sym (h refl)))

module _ (ls : List (List ℕ)) (sized : Sized ls) where
  -- a label that can stand in a line is named there as it is written
  label-written : (l : ℕ) → l ≤ length ls → writable (label_at ls l) ≡ true → Named (label_text ls l) (name_of ls l)
  unfolding label_text label_at name_of Sized
  label-written zero h w = starred
  label-written (suc l) h w = by_bytes (get_or ls l []) (sized (get_or ls l []) (place_in ls l [] (omega arith))).0 w

  -- the branches below one parent, in brackets where there are several
  branches-written : (f : Forest) (many : Bool) (p k : ℕ) → 1 ≤ size f → (several f ≡ true → many ≡ true)
      → LabelsWithin (length ls) f → every (step_writable ls) (steps_from p k f) ≡ true → Branches (branches_text ls many f) (sketched ls f)
  unfolding branches_text sketched size LabelsWithin steps_from every step_writable
  branches-written none many p k h few within w = absurd (omega arith)
  branches-written (step a l kids later) many p k h few within w =
      let fits = step_writable ls in
      let j = suc k + size kids in
      let here = fits (record { parent = p; axis = axis_number a; label = l }) in
      let below = every fits (steps_from k (suc k) kids) in
      let after = every fits (steps_from p j later) in
      let both = sym (every_append fits (steps_from k (suc k) kids) (steps_from p j later)) ∙ and_second here _ w in
      branch-written ls many l kids later
      (along a (rest-written ls kids (label-written l within.0 (and_first here _ w))
      (λ some. branches-written kids (several kids) k (suc k) some (λ z. z) within.1 (and_first below after both))))
      few
      (λ some. branches-written later true p j some (λ z. refl) within.2 (and_second below after both))

  -- what is written of a pattern whose labels can stand in a line is a line
  pub written-line : (f : Forest) → LabelsWithin (length ls) f → every (step_writable ls) (steps_of f) ≡ true → Line (pattern_text ls f) (sketched ls f)
  unfolding pattern_text sketched steps_of size
  written-line none within w = dot
  written-line (step a l kids later) within w =
      branches (branches-written (step a l kids later) (several (step a l kids later)) 0 1 (omega arith) (λ z. z) within w)

-- ---- what it draws

module _ (ls : List (List ℕ)) where
  -- what is drawn is the pattern, where no label occurs twice
  pub forest-back : (f : Forest) → Distinct ls → LabelsWithin (length ls) f → drawn_forest ls (sketched ls f) ≡ f
  unfolding sketched drawn_forest LabelsWithin
  forest-back none apart within = refl
  forest-back (step a l kids later) apart within =
      rw (name_back ls l apart within.0, forest-back kids apart within.1, forest-back later apart within.2)

  -- every name that is drawn below step p, from number k on, is known
  known_from : (p k : ℕ) (f : Forest) → LabelsWithin (length ls) f → every (known_drawn ls) (drawn_from p k (sketched ls f)) ≡ true
  unfolding sketched drawn_from LabelsWithin every known_drawn
  known_from p k none within = refl
  known_from p k (step a l kids later) within =
      rw (
        every_append (known_drawn ls) (drawn_from k (suc k) (sketched ls kids)),
        name-known ls l within.0,
        known_from k (suc k) kids within.1,
        known_from p (suc k + drawn_size (sketched ls kids)) later within.2,
      )

  -- so is every name that is drawn
  pub names_known : (f : Forest) → LabelsWithin (length ls) f → every (known_drawn ls) (steps_drawn (sketched ls f)) ≡ true
  unfolding steps_drawn
  names_known f = known_from 0 1 f
