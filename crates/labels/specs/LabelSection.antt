-- Sections of labels: how they are judged by places in their bytes, and that this is how the paper reads them.
use Rattle.std.specs.Prelude.{ℕ, ◌+◌, ◌≤◌, ◌≡◌, List, [], ◌∷◌, ◌++◌, leb, ltb, length, drop, Ok}
use Rattle.std.proofs.Math.Path.{refl, sym, ap}
use Rattle.std.proofs.Common.{◌∙◌, append_assoc, append-nil}
use Rattle.std.proofs.Math.Numerals.{add-one}
use Rattle.base.specs.Choice.{pick_true}
use Rattle.base.specs.Lists.{some}
use Rattle.base.specs.ListLaws.{some-append}
use Rattle.base.specs.Standing.{place_after, place_after-last, standing, standing-last, length-standing}
use Rattle.meaning.specs.Numbers.{longest_label}
use Rattle.meaning.specs.Sections.{same_label, label, labels}
use Rattle.labels.specs.LabelPlaces.{text_at, after_label, texts_at}
use Rattle.places.specs.Answer.{answer, passed}
use Rattle.places.specs.Section.{Section, stands_as}
use Rattle.places.specs.InTurn.{in_turn}
use Rattle.places.specs.Fields.{given, byte_then, bytes_then, unless_both, unless_either}
use Rattle.meaning.specs.declared.Refusal.TheVariants.{LabelLength, LabelTwice, EndsEarly}
use Rattle.places.specs.Bytes.{Place}

module _ (s : List ℕ) (k : ℕ) (d : List ℕ) (p : ℕ) where
  -- a label at x, the i-th of those from the place p on in d, beside the first k labels of the sheet s
  unfoldable pub label_section : (i x : ℕ) → Section d (label (texts_at s 1 k ++ texts_at d p i)) x
  unfolding label
  label_section i x =
      byte_then λ long.
      unless_both LabelLength (leb 1 long) (leb long longest_label) (
      bytes_then long λ text.
      unless_either LabelTwice (some (same_label text) (texts_at s 1 k)) (some (same_label text) (texts_at d p i)) (some-append _ _ _) (
      given text))

  abbrev pub label_place : ℕ → ℕ → Place
  label_place i x = (label_section i x).place

  -- it is the label that stands there, whichever it is
  pub label-reads : (i x : ℕ) → label (texts_at s 1 k ++ texts_at d p i) (drop x d) ≡ answer d (text_at d x) (label_place i x)
  unfolding label_section text_at
  label-reads i x = (label_section i x).reads

  -- the place after it
  pub label-leads : (i x y : ℕ) → label_place i x ≡ Ok y → y ≡ after_label d x
  unfolding label_section after_label
  label-leads i x y h = pick_true _ _ _ _ (passed (ltb x (length d)) _ EndsEarly y h).0 ((label_section i x).leads y h)

  pub label-within : (i x y : ℕ) → x ≤ length d → label_place i x ≡ Ok y → y ≤ length d
  label-within i x y = (label_section i x).within y

  -- what is told of the i labels before x
  pub record LabelsTold (i x : ℕ) (t : List (List ℕ)) : Type 0 where
    pub place : x ≡ place_after (after_label d) p i
    pub before : t ≡ texts_at s 1 k ++ texts_at d p i

  pub labels_told : (i x y : ℕ) (t : List (List ℕ)) → LabelsTold i x t → label_place i x ≡ Ok y
      → LabelsTold (i + 1) y (t ++ (text_at d x ∷ []))
  unfolding texts_at
  labels_told i x y t h e = record {
    place = rw (add-one i) (label-leads i x y e ∙ ap (after_label d) h.place ∙ sym (place_after-last (after_label d) p i));
    before =
        rw (h.before, h.place, add-one i)
        (append_assoc (texts_at s 1 k) _ _ ∙ ap (◌++◌ (texts_at s 1 k)) (standing-last (text_at d) (after_label d) p i));
  }

  -- n labels from the place p on
  unfoldable pub labels_section : (n : ℕ) → Section d (labels n (texts_at s 1 k)) p
  unfolding labels texts_at standing place_after
  labels_section n =
      stands_as (texts_at d p n) (place_after (after_label d) p n) (
      in_turn d labels label (λ t a. t ++ (a ∷ [])) (λ t. refl) (λ m t. refl) (text_at d) (after_label d) label_place LabelsTold
      (λ i x t h. rw h.before (label-reads i x)) label-leads label-within labels_told n p (texts_at s 1 k)
      (record { place = refl; before = sym (append-nil (texts_at s 1 k)) }))
      refl refl

  abbrev pub labels_place : ℕ → Place
  labels_place n = (labels_section n).place

-- there are n of them
pub length-texts : (s : List ℕ) (p n : ℕ) → length (texts_at s p n) ≡ n
unfolding texts_at
length-texts s p n = length-standing (text_at s) (after_label s) p n
