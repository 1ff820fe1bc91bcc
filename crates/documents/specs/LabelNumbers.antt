-- The labels of a sheet and a document that were judged, by their numbers.
use Prim.Native.Nat.{ℕ, zero, suc, ◌+◌, ◌-◌, ◌≤◌, ◌<◌}
use Rattle.std.specs.Prelude.{◌≡◌, Ok, Err}
use Rattle.std.proofs.Math.Path.{refl, sym, ap}
use Rattle.std.proofs.Common.{◌∙◌, length-append}
use mathlib.Core.List.{List, [], ◌++◌}
use Rattle.std.proofs.Math.ListN.{length, get_or, get_or-append, get_or-eq_default}
use Rattle.std.proofs.Math.Seq.{get_or-append-add}
use native.Mathlib.Omega.{arith}
use borrow.Author.Tests.{le-leb, lt-leb}
use Rattle.base.specs.Choice.{pick}
use Rattle.base.specs.Standing.{place_after, get_or-standing}
use Rattle.meaning.specs.Sections.{Sheet, sheet, Document, document}
use Rattle.meaning.specs.LabelBytes.{labels_of, is_label, label_at}
use Rattle.meaning.specs.Calls.{judged, label_number, label_part}
use Rattle.labels.specs.LabelPlaces.{text_at, after_label, texts_at, labels_in}
use Rattle.reading.specs.SheetPlaces.{sheet_at}
use Rattle.places.specs.Reached.{was_reached, was_refused}
use Rattle.documents.specs.DocumentJudged.{both_judged, sheet_document_place}
use Rattle.documents.specs.DocumentSection.{document_at}
use Rattle.labels.specs.LabelSection.{length-texts}
use Rattle.meaning.specs.declared.Refusal.TheVariants.{NotThere}
use Rattle.meaning.specs.Numbers.{refusal_number}
use Rattle.meaning.specs.declared.Refusal.{Refusal}

module _ {B : Type 0} (s d : List ℕ) (refuse : Refusal → B) (next : Sheet → Document → B) where
  -- both were read: what follows is of the sheet and the document that stand there
  both_read : (x : ℕ) → sheet_document_place s d ≡ Ok x
      → judged (sheet s) refuse (λ sh. judged (document sh d) refuse (next sh)) ≡ next (sheet_at s) (document_at d)
  both_read x h = both_judged s d refuse next ∙ was_reached (sheet_document_place s d) x refuse (next (sheet_at s) (document_at d)) h

  -- one was refused
  both_refused : (n : Refusal) → sheet_document_place s d ≡ Err n → judged (sheet s) refuse (λ sh. judged (document sh d) refuse (next sh)) ≡ refuse n
  both_refused n h = both_judged s d refuse next ∙ was_refused (sheet_document_place s d) n refuse (next (sheet_at s) (document_at d)) h

-- ---- the labels of both

module _ (s d : List ℕ) (n : ℕ) where
  -- as they stand
  abbrev both_texts : List (List ℕ)
  both_texts = texts_at s 1 (get_or s 0 0) ++ texts_at d 1 (get_or d 0 0)

  -- there are S + D of them
  labels-counted : length (labels_of (sheet_at s) (document_at d)) ≡ get_or s 0 0 + get_or d 0 0
  unfolding labels_of sheet_at labels_in document_at
  labels-counted = simp (length-append, length-texts)

  -- the number of a label: whether it exists
  pub number_there : (x : ℕ) → sheet_document_place s d ≡ Ok x → 1 ≤ n → n ≤ get_or s 0 0 + get_or d 0 0 → 0 ≡ label_number s d n
  unfolding label_number is_label pick
  number_there x h a b = sym (both_read s d _ _ x h ∙ rw (labels-counted, le-leb 1 n a, le-leb n (get_or s 0 0 + get_or d 0 0) b))

  -- 0 is no label
  pub number_zero : (x : ℕ) → sheet_document_place s d ≡ Ok x → n < 1 → refusal_number NotThere ≡ label_number s d n
  unfolding label_number is_label pick
  number_zero x h a = sym (both_read s d _ _ x h ∙ rw (lt-leb 1 n a))

  -- nor is a number over S + D
  pub number_over : (x : ℕ) → sheet_document_place s d ≡ Ok x → 1 ≤ n → get_or s 0 0 + get_or d 0 0 < n → refusal_number NotThere ≡ label_number s d n
  unfolding label_number is_label pick
  number_over x h a b = sym (both_read s d _ _ x h ∙ rw (labels-counted, le-leb 1 n a, lt-leb n (get_or s 0 0 + get_or d 0 0) b))

  -- a refusal gives its own number
  pub number-refused : (m : Refusal) → sheet_document_place s d ≡ Err m → refusal_number m ≡ label_number s d n
  unfolding label_number
  number-refused m h = sym (both_refused s d _ _ m h)

  -- the part of a label: empty on a refusal
  pub part_refused : (m : Refusal) → sheet_document_place s d ≡ Err m → [] ≡ label_part s d n
  unfolding label_part
  part_refused m h = sym (both_refused s d _ _ m h)

  -- empty for 0
  pub part_zero : (x : ℕ) → sheet_document_place s d ≡ Ok x → n < 1 → [] ≡ label_part s d n
  unfolding label_part label_at
  part_zero x h a = sym (both_read s d _ _ x h ∙ none n a)
    where
      none : (k : ℕ) → k < 1 → label_at (labels_of (sheet_at s) (document_at d)) k ≡ []
      none zero b = refl
      none (suc k) b = absurd (omega arith)

  -- label n is the one at n - 1
  counted_from_one : (ls : List (List ℕ)) (k : ℕ) → 1 ≤ k → label_at ls k ≡ get_or ls (k - 1) []
  unfolding label_at
  counted_from_one ls zero a = absurd (omega arith)
  counted_from_one ls (suc k) a = let e : suc k - 1 ≡ k = omega arith in rw e

  -- otherwise it is one of both, counted from 0
  told : (x : ℕ) → sheet_document_place s d ≡ Ok x → 1 ≤ n → label_part s d n ≡ get_or both_texts (n - 1) []
  unfolding label_part labels_of sheet_at labels_in document_at
  told x h a = both_read s d _ _ x h ∙ counted_from_one both_texts n a

  -- from the sheet's section
  pub part_of_sheet : (x : ℕ) → sheet_document_place s d ≡ Ok x → 1 ≤ n → n ≤ get_or s 0 0
      → text_at s (place_after (after_label s) 1 (n - 1)) ≡ label_part s d n
  unfolding texts_at
  part_of_sheet x h a b =
      sym (told x h a
      ∙ get_or-append (texts_at s 1 (get_or s 0 0)) (texts_at d 1 (get_or d 0 0)) [] (n - 1) (omega (arith, length-texts s 1 (get_or s 0 0)))
      ∙ get_or-standing (text_at s) (after_label s) 1 (get_or s 0 0) (n - 1) [] (omega arith))

  -- from the document's
  pub part_of_document : (x : ℕ) → sheet_document_place s d ≡ Ok x → get_or s 0 0 < n → n - get_or s 0 0 ≤ get_or d 0 0
      → text_at d (place_after (after_label d) 1 (n - get_or s 0 0 - 1)) ≡ label_part s d n
  unfolding texts_at
  part_of_document x h a b =
      let past : n - 1 ≡ length (texts_at s 1 (get_or s 0 0)) + (n - get_or s 0 0 - 1) = omega (arith, length-texts s 1 (get_or s 0 0)) in
      sym (told x h (omega arith)
      ∙ ap (λ (k : ℕ). get_or both_texts k []) past
      ∙ get_or-append-add (texts_at s 1 (get_or s 0 0)) (texts_at d 1 (get_or d 0 0)) (n - get_or s 0 0 - 1) []
      ∙ get_or-standing (text_at d) (after_label d) 1 (get_or d 0 0) (n - get_or s 0 0 - 1) [] (omega arith))

  -- empty past the last
  pub part_over : (x : ℕ) → sheet_document_place s d ≡ Ok x → get_or s 0 0 < n → get_or d 0 0 < n - get_or s 0 0 → [] ≡ label_part s d n
  unfolding labels_of sheet_at labels_in document_at
  part_over x h a b = sym (told x h (omega arith) ∙ get_or-eq_default both_texts [] (omega (arith, labels-counted)))
