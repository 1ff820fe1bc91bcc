-- How much room a pattern's text needs: the labels of a sheet that is read have 1 to 60 bytes each, so 1,024 are always enough.
use Prim.Native.Nat.{ℕ, zero, suc, ◌+◌, ◌*◌, ◌≤◌}
use Rattle.std.specs.Prelude.{◌≡◌, Bool, true, false, leb, ltb, get_or}
use Rattle.std.proofs.Common.{sym, subst, leb-true, ltb-true, ltb-false}
use Rattle.std.proofs.Math.Path.{ap}
use Rattle.std.proofs.Math.Logic.{⊎_elim}
use mathlib.Core.List.Memᴰ
use mathlib.Core.List.{List, [], ◌∷◌, ◌++◌, Memᴰ}
use native.Mathlib.Omega.{arith}
use Rattle.std.proofs.Math.ListN.{length, length-append, get_or-eq_default}
use Rattle.base.specs.Bools.{and_first, and_second, true_or_false}
use Rattle.base.specs.Replacing.{place_in}
use Rattle.meaning.specs.Numbers.{longest_label, most_steps}
use Rattle.meaning.specs.Reader.{read}
use Rattle.meaning.specs.Forest.{Axis, near, far, Forest, none, step, size}
use Rattle.meaning.specs.Sections.{label, labels, Sheet, sheet}
use Rattle.meaning.specs.LabelBytes.{label_at}
use Rattle.meaning.specs.PatternText.{ascii, axis_text, label_text, several, in_brackets, branches_text, pattern_text}
use Rattle.laws.specs.Readers.{give-read, bind_read, test_read, byte-read, end_read}
use Rattle.laws.specs.ReadNumbers.{bytes_read}

-- ---- labels that are read

-- every label has at least one byte and no more than may be
unfoldable pub Sized : List (List ℕ) → Type 0
Sized ls = (text : List ℕ) → Memᴰ text ls → (1 ≤ length text) × (length text ≤ longest_label)

-- a label that is read
label-sized : (before : List (List ℕ)) (s text left : List ℕ) → label before s ≡ read text left → (1 ≤ length text) × (length text ≤ longest_label)
unfolding label
label-sized before s text left h =
    let long = byte-read _ s h in
    let judged = test_read _ _ _ long.others long.after in
    let known = bind_read _ _ long.others text left judged.1 in
    let fresh = test_read _ _ _ known.middle known.after in
    let same = ap length (give-read _ known.middle fresh.1).0 in
    let counted = (bytes_read long.first long.others known.value known.middle known.before).0 in
    let low = leb-true 1 long.first (and_first (leb 1 long.first) (leb long.first longest_label) judged.0) in
    let high = leb-true long.first longest_label (and_second (leb 1 long.first) (leb long.first longest_label) judged.0) in
    (omega arith, omega arith)

-- labels that are read
labels-sized : (n : ℕ) (before : List (List ℕ)) (s : List ℕ) (ls : List (List ℕ)) (left : List ℕ) → labels n before s ≡ read ls left → Sized ls
unfolding labels Sized
labels-sized zero before s ls left h text m = elim (subst (Memᴰ text) (sym (give-read _ s h).0) m) [ ]
labels-sized (suc n) before s ls left h text m =
    let first = bind_read _ _ s ls left h in
    let later = bind_read _ _ first.middle ls left first.after in
    let same = (give-read _ later.middle later.after).0 in
    ⊎_elim
    (λ e. rw e (label-sized before s first.value first.middle first.before))
    (labels-sized n (before ++ (first.value ∷ [])) first.middle later.value later.middle later.before text)
    (Memᴰ.cases_cons (subst (Memᴰ text) (sym same) m))

-- those of a sheet that is read
pub sheet-sized : (s : List ℕ) (sh : Sheet) (left : List ℕ) → sheet s ≡ read sh left → Sized sh.labels
unfolding sheet
sheet-sized s sh left h =
    let n = byte-read _ s h in
    let known = bind_read _ _ n.others sh left n.after in
    let m = byte-read _ known.middle known.after in
    let few = test_read _ _ _ m.others m.after in
    let patterns = bind_read _ _ m.others sh left few.1 in
    let ended = end_read _ patterns.middle patterns.after in
    let made = (give-read _ [] ended.1).0 in
    subst Sized (ap (λ (x : Sheet). x.labels) made) (labels-sized n.first [] n.others known.value known.middle known.before)

-- ---- a pattern: 64 bytes a step

-- two of its axis
axis-room : (a : Axis) → length (axis_text a) ≤ 2
unfolding axis_text ascii
axis-room near = omega arith
axis-room far = omega arith

-- two of its brackets
brackets_room : (many : Bool) (text : List ℕ) → length (in_brackets many text) ≤ 2 + length text
unfolding in_brackets ascii
brackets_room true text = omega (arith, length-append text (93 ∷ []))
brackets_room false text = omega arith

module _ (ls : List (List ℕ)) (sized : Sized ls) where
  -- sixty of its label
  label-room : (l : ℕ) → length (label_text ls l) ≤ 60
  unfolding label_text label_at ascii Sized
  label-room zero = omega arith
  label-room (suc l) =
      ⊎_elim
      (λ e. (sized (get_or ls l []) (place_in ls l [] (ltb-true l (length ls) e))).1)
      (λ e. omega (arith, ap length (get_or-eq_default ls [] {n = l} (ltb-false l (length ls) e))))
      (true_or_false (ltb l (length ls)))

  -- together
  branches-room : (many : Bool) (f : Forest) → length (branches_text ls many f) ≤ 64 * size f
  unfolding branches_text size
  branches-room many none = omega arith
  branches-room many (step a l kids later) =
      let below = branches_text ls (several kids) kids in
      let others = branches_text ls many later in
      let branch = axis_text a ++ (label_text ls l ++ below) in
      omega (
        arith,
        length-append (in_brackets many branch) others,
        brackets_room many branch,
        length-append (axis_text a) (label_text ls l ++ below),
        length-append (label_text ls l) below,
        axis-room a,
        label-room l,
        branches-room (several kids) kids,
        branches-room many later,
      )

  -- the text of a pattern within the limit of steps
  pub pattern-room : (f : Forest) → size f ≤ most_steps → length (pattern_text ls f) ≤ 1024
  unfolding pattern_text ascii
  pattern-room none h = omega arith
  pattern-room (step a l kids later) h = omega (arith, branches-room (several (step a l kids later)) (step a l kids later))
