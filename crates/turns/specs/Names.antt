-- A name in a line: how long a label is, its number among the labels of a sheet, and what is found where it has been read.
use Prim.Native.Char.{code}
use Prim.Native.Nat.{ℕ, suc, ◌+◌, ◌-◌, ◌<◌, ◌≤◌}
use Rattle.std.specs.Prelude.{◌≡◌, Bool, List, [], ◌∷◌, ◌++◌, eqb, length, get_or, take, drop}
use Rattle.std.proofs.Math.Path.{refl, ap}
use Rattle.std.proofs.Common.{◌∙◌, append_assoc, append-nil, add-one, add-zero, eq-eqb, ne_eqb, drop_of_length-le}
use Rattle.std.proofs.Math.Bool.{true, false, not}
use native.Mathlib.Omega.{arith}
use Rattle.std.proofs.Math.Seq.{drop-cons}
use Rattle.base.specs.Choice.{pick, pick_true, pick_false}
use Rattle.meaning.specs.Forest.{Axis}
use Rattle.meaning.specs.Notation.{barred, called, Drawn}
use Rattle.meaning.specs.Notation
use Rattle.meaning.specs.Lines.{Stand, Next, stuck, to, moved, step_found, opens_here, closes, slash_or, branch_or, after_name, next_in, next}
use Rattle.meaning.specs.Lines.{at_slash, opened, ended, in_label, off_at, followed, may_end, read_from}
use Rattle.meaning.specs.LineCalls.{number_from}
use Rattle.laws.specs.LineComplete.{longer-step}
use Rattle.turns.specs.declared.names.Name.{Name}

-- how many bytes of a label stand at the front
unfoldable pub label_long : List ℕ → ℕ
label_long [] = 0
label_long (b ∷ bs) = let later = label_long bs in pick (barred b) 0 (suc later)

-- ---- a loop that looks for its end: from here it is as far as from the start
module _ (line : List ℕ) (i whole : ℕ) (left : i + label_long (drop i line) ≡ whole) where
  pub label-stops : i < length line → barred (get_or line i 0) ≡ true → i ≡ whole
  unfolding label_long pick
  label-stops h e = let long : label_long (drop i line) ≡ 0 = rw (drop-cons line i 0 h, label_long, e) refl in omega (arith, long)

  pub label-goes_on : i < length line → barred (get_or line i 0) ≡ false → i + 1 + label_long (drop (i + 1) line) ≡ whole
  unfolding label_long pick
  label-goes_on h e =
      let long : label_long (drop i line) ≡ suc (label_long (drop (i + 1) line)) = rw (add-one i, drop-cons line i 0 h, label_long, e) refl in
      omega (arith, long)

  pub label-ends : length line ≤ i → i ≡ whole
  unfolding label_long
  label-ends h = let long : label_long (drop i line) ≡ 0 = rw (drop_of_length-le line {i = i} h) refl in omega (arith, long)

-- ---- the name

unfoldable pub label_end : List ℕ → ℕ → ℕ
label_end line at = at + 1 + label_long (drop (at + 1) line)

unfoldable pub text_from : List ℕ → ℕ → List ℕ
text_from line at = take (label_end line at - at) (drop at line)

unfoldable pub name_at : List (List ℕ) → List ℕ → ℕ → Name
name_at ls line at =
    let number : ℕ = number_from 1 ls (text_from line at) in
    pick (eqb (get_or line at 0) 42) (record { end = at + 1; label = 0; known = true })
    (record { end = label_end line at; label = number; known = not (eqb number 0) })

module _ (ls : List (List ℕ)) (line : List ℕ) (at : ℕ) where
  pub star-name : get_or line at 0 ≡ 42 → record { end = at + 1; label = 0; known = true } ≡ name_at ls line at
  unfolding name_at
  star-name e = pick_true _ _ _ _ (eq-eqb (get_or line at 0) 42 e) refl

  pub label-name : (end number : ℕ) → (get_or line at 0 ≡ 42 → ⊥) → end ≡ at + 1 + label_long (drop (at + 1) line)
      → number ≡ number_from 1 ls (take (end - at) (drop at line)) → record { end = end; label = number; known = not (eqb number 0) } ≡ name_at ls line at
  unfolding name_at label_end text_from
  label-name end number n e f =
      pick_false _ _ _ _ (ne_eqb (get_or line at 0) 42 n)
      (λ i. record { end = e i; label = same i; known = not (eqb (same i) 0) })
    where
      same : number ≡ number_from 1 ls (take (at + 1 + label_long (drop (at + 1) line) - at) (drop at line))
      same = f ∙ ap (λ (k : ℕ). number_from 1 ls (take (k - at) (drop at line))) e

  -- it has at least one byte
  pub name-further : at < (name_at ls line at).end
  unfolding name_at pick label_end
  name-further = go (eqb (get_or line at 0) 42)
    where
      go : (t : Bool) → at < (pick {A = Name} t (record { end = at + 1; label = 0; known = true })
          (record {
            end = at + 1 + label_long (drop (at + 1) line);
            label = number_from 1 ls (text_from line at);
            known = not (eqb (number_from 1 ls (text_from line at)) 0);
          })).end
      go true = omega arith
      go false = omega arith

-- ---- a label that has been read

closes-same : (hs : List ℕ) (c d : Stand) → c.found ≡ d.found → closes hs c ≡ closes hs d
unfolding closes
closes-same [] c d e = refl
closes-same (h ∷ hs) c d e = ap (λ (f : List Drawn). to (record { mode = ended; here = h; opens = hs; found = f })) e

-- after a label and after its end the same follows
after_same : (a : Axis) (n : Notation.Name) (c : Stand) (b : ℕ) → after_name b (step_found in_label a n c) ≡ after_name b (step_found ended a n c)
unfolding after_name branch_or slash_or moved opens_here step_found
after_same a n c b =
    let found : List Drawn = c.found ++ (record { parent = c.here; axis = a; name = n } ∷ []) in
    let here : ℕ = suc (length c.found) in
    ap (λ (x : Next). pick (eqb b (code "/")) (to (record { mode = at_slash; here = here; opens = c.opens; found = found }))
    (pick (eqb b (code "[")) (to (record { mode = opened; here = here; opens = here ∷ c.opens; found = found })) (pick (eqb b (code "]")) x stuck)))
    (closes-same c.opens (step_found in_label a n c) (step_found ended a n c) refl)

-- a label and what follows it are read as the whole label, ended
pub label-read : (a : Axis) (c : Stand) (bs : List ℕ) (w : List ℕ) (i : ℕ) → read_from i (step_found in_label a (called w) c) bs
    ≡ read_from (i + label_long bs) (step_found ended a (called (w ++ take (label_long bs) bs)) c) (drop (label_long bs) bs)
unfolding read_from label_long may_end step_found next next_in pick followed
label-read a c [] w i = rw (append-nil w, add-zero i) refl
label-read a c (b ∷ bs) w i = go (barred b) refl (label-read a c bs)
  where
    go : (t : Bool) → barred b ≡ t
        → ((v : List ℕ) (j : ℕ) → read_from j (step_found in_label a (called v) c) bs
        ≡ read_from (j + label_long bs) (step_found ended a (called (v ++ take (label_long bs) bs)) c) (drop (label_long bs) bs))
        → read_from i (step_found in_label a (called w) c) (b ∷ bs)
        ≡ read_from (i + pick t 0 (suc (label_long bs))) (step_found ended a (called (w ++ take (pick t 0 (suc (label_long bs))) (b ∷ bs))) c)
        (drop (pick t 0 (suc (label_long bs))) (b ∷ bs))
    go true e later = rw (append-nil w, add-zero i, e) (ap (λ (x : Next). followed x (off_at i) (λ d. read_from (suc i) d bs)) (after_same a (called w) c b))
    go false e later =
        let one : next b (step_found in_label a (called w) c) ≡ to (step_found in_label a (called (w ++ (b ∷ []))) c) =
        rw e (ap to (longer-step a c w b)) in
        let grown : (w ++ (b ∷ [])) ++ take (label_long bs) bs ≡ w ++ (b ∷ take (label_long bs) bs) = append_assoc w (b ∷ []) (take (label_long bs) bs) in
        let moved_on : suc i + label_long bs ≡ i + suc (label_long bs) = omega arith in
        rw (one, ← grown, ← moved_on) (later (w ++ (b ∷ [])) (suc i))
