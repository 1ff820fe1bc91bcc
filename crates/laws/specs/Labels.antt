-- Labels are the same exactly when their lists of bytes are.
use Rattle.std.specs.Prelude.{ℕ, zero, suc, ◌≤◌, ◌<◌, ◌≡◌, refl, ◌⊎◌, true, false, List, [], ◌∷◌, ◌++◌, eqb, length, get_or}
use Rattle.std.proofs.Common.{sym, ap, ap₂, ◌∙◌, inl, inr, append_assoc, append-nil, arith, eq-or-lt_of_le, length-append, eqb-true, eq-eqb}
use Rattle.std.proofs.lemmas.Bool.{false≢true, not-true}
use Rattle.std.proofs.Math.ListN.{get_or-append}
use Rattle.std.proofs.Math.Seq.{get_or-append_seam}
use Rattle.base.specs.Bools.{and_first, and_second, and_both, not_both}
use Rattle.base.specs.Lists.{some}
use Rattle.base.specs.ListLaws.{some_of}
use Rattle.base.specs.Replacing.{place_in}
use Rattle.meaning.specs.Reader.{read}
use Rattle.meaning.specs.Sections.{same_label, label, labels, Sheet, sheet, Document, document}
use Rattle.meaning.specs.LabelBytes.{labels_of}
use Rattle.laws.specs.DocumentRead.{document-read}
use Rattle.laws.specs.Readers.{give-read, bind_read, test_read, byte-read, end_read}

pub same_bytes : (xs ys : List ℕ) → same_label xs ys ≡ true → xs ≡ ys
unfolding same_label
same_bytes [] [] h = refl
same_bytes [] (y ∷ ys) h = absurd (false≢true h)
same_bytes (x ∷ xs) [] h = absurd (false≢true h)
same_bytes (x ∷ xs) (y ∷ ys) h =
    let e = eqb-true x y (and_first (eqb x y) (same_label xs ys) h) in
    let rest = same_bytes xs ys (and_second (eqb x y) (same_label xs ys) h) in
    ap₂ ◌∷◌ e rest

pub bytes_same : (xs : List ℕ) → same_label xs xs ≡ true
unfolding same_label
bytes_same [] = refl
bytes_same (x ∷ xs) = and_both (eqb x x) (same_label xs xs) (eq-eqb x x refl) (bytes_same xs)

-- ---- no label occurs twice, nor in both sheet and document

-- no two labels of the list have the same bytes
abbrev pub Distinct : List (List ℕ) → Type 0
Distinct ls = (i j : ℕ) → i < j → j < length ls → get_or ls i [] ≡ get_or ls j [] → ⊥

-- a label that was read differs from each before it
fresh : (before : List (List ℕ)) (bs text left : List ℕ) → label before bs ≡ read text left → some (same_label text) before ≡ false
unfolding label
fresh before bs text left h =
    let long = byte-read _ bs h in
    let fits = test_read _ _ _ long.others long.after in
    let t = bind_read _ _ long.others text left fits.1 in
    let new = test_read _ _ _ t.middle t.after in
    let made = give-read _ t.middle new.1 in
    rw made.0 at (not-true (some (same_label t.value) before) new.0)

-- so the labels before it and it are distinct
one_more : (before : List (List ℕ)) (text : List ℕ) → some (same_label text) before ≡ false → Distinct before → Distinct (before ++ (text ∷ []))
one_more before text new apart i j h l e = go (eq-or-lt_of_le l')
  where
    l' : j ≤ length before
    l' = omega (arith, l, length-append before (text ∷ []))

    go : (j ≡ length before) ⊎ (j < length before) → ⊥
    go (inl q) =
        let here : i < length before = omega arith in
        let e' : get_or before i [] ≡ text = sym (get_or-append before (text ∷ []) [] i here) ∙ e
        ∙ ap (λ (n : ℕ). get_or (before ++ (text ∷ [])) n []) q ∙ get_or-append_seam before text [] [] in
        not_both (some (same_label text) before) (some_of (same_label text) (place_in before i [] here) (ap (same_label text) e' ∙ bytes_same text)) new
    go (inr q) =
        apart i j h q (sym (get_or-append before (text ∷ []) [] i (omega arith)) ∙ e ∙ get_or-append before (text ∷ []) [] j q)

-- labels that were read after distinct ones are distinct, from them and among themselves
labels_distinct : (n : ℕ) (before : List (List ℕ)) (bs : List ℕ) (ls : List (List ℕ)) (left : List ℕ)
    → labels n before bs ≡ read ls left → Distinct before → Distinct (before ++ ls)
unfolding labels
labels_distinct zero before bs ls left h apart =
    let made = give-read [] bs h in
    rw (sym made.0) (rw append-nil apart)
labels_distinct (suc n) before bs ls left h apart =
    let one = bind_read (label before) _ bs ls left h in
    let text = one.value in
    let more = bind_read (labels n (before ++ (text ∷ []))) _ one.middle ls left one.after in
    let made = give-read _ more.middle more.after in
    let so_far = one_more before text (fresh before bs text one.middle one.before) apart in
    let all = labels_distinct n (before ++ (text ∷ [])) one.middle more.value more.middle more.before so_far in
    rw (sym made.0) (rw append_assoc at all)

-- the labels of a sheet that was read are distinct
pub sheet_distinct : (s left : List ℕ) (sh : Sheet) → sheet s ≡ read sh left → Distinct sh.labels
unfolding sheet
sheet_distinct s left sh h =
    let n = byte-read _ s h in
    let ls = bind_read (labels n.first []) _ n.others sh left n.after in
    let m = byte-read _ ls.middle ls.after in
    let few = test_read _ _ _ m.others m.after in
    let ps = bind_read _ _ m.others sh left few.1 in
    let last = end_read _ ps.middle ps.after in
    let made = give-read _ [] last.1 in
    let apart = labels_distinct n.first [] n.others ls.value ls.middle ls.before (λ i j _ l _. absurd (omega arith)) in
    rw (sym made.0) apart

-- and with them those of a document that was read beside it: two label numbers stand for the same bytes only if they are equal
pub document_distinct : (s left : List ℕ) (sh : Sheet) → sheet s ≡ read sh left → (d rest : List ℕ) (dc : Document)
    → document sh d ≡ read dc rest → Distinct (labels_of sh dc)
unfolding labels_of
document_distinct s left sh h d rest dc k =
    let r = document-read sh d rest dc k in
    labels_distinct r.count sh.labels r.others dc.labels r.middle r.named (sheet_distinct s left sh h)
