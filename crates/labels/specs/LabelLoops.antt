-- What a turn of the loop over two labels keeps; the parts of a slice that are labels, and label n of a sheet.
use Prim.Native.Nat.{ℕ, zero, suc, ◌+◌, ◌-◌, ◌<◌, ◌≤◌}
use Rattle.std.specs.Prelude.{◌≡◌, ◌⊎◌, Bool, true, false, ◌&&◌, eqb, drop, Option, None, Some}
use Rattle.std.specs.Option.{MatchOption, option_eq}
use Rattle.std.specs.Array.{IsFirstChunk}
use Rattle.std.specs.Cmp.Lexicographic.{same_text}
use denote.Ref.{Bor}
use Rattle.std.proofs.Math.Path.{refl, sym, ap}
use Rattle.std.proofs.Common.{◌∙◌, inl, inr, true≢false}
use Rattle.base.specs.Bools.{true_or_false}
use mathlib.Core.List.{List, [], ◌∷◌}
use Rattle.std.proofs.Math.ListN.{length, get_or, take, length-drop, get_or-eq_default, drop_of_length-le}
use Rattle.std.proofs.Math.Seq.{drop-cons, take_all}
use native.Mathlib.Omega.{arith}
use Rattle.std.proofs.Math.Numerals.{add-one}
use borrow.Author.Tests.{eq-eqb, ne_eqb}
use lib.Pointwise.{pointwise}
use Rattle.base.specs.Standing.{place_after, get_or-standing}
use Rattle.meaning.specs.Sections.{same_label}
use Rattle.meaning.specs.LabelBytes.{label_at}
use Rattle.labels.specs.LabelPlaces.{text_at, after_label, texts_at, labels_in}
use Rattle.labels.specs.LabelSection.{length-texts}

-- ---- two labels, byte by byte: equal lists of bytes

pub same-pointwise : (a b : List ℕ) → pointwise eqb a b ≡ same_label a b
unfolding same_label
same-pointwise [] [] = refl
same-pointwise [] (y ∷ b) = refl
same-pointwise (x ∷ a) [] = refl
same-pointwise (x ∷ a) (y ∷ b) = ap (λ (t : Bool). eqb x y && t) (same-pointwise a b)

-- labels of different lengths are not the same
pub unequal_lengths : (a b : List ℕ) → (length a ≡ length b → ⊥) → false ≡ same_label a b
unfolding same_label
unequal_lengths [] [] h = absurd (h refl)
unequal_lengths [] (y ∷ b) h = refl
unequal_lengths (x ∷ a) [] h = refl
unequal_lengths (x ∷ a) (y ∷ b) h = go (eqb x y) (unequal_lengths a b (λ e. h (ap suc e)))
  where
    go : (t : Bool) → false ≡ same_label a b → false ≡ (t && same_label a b)
    go true e = e
    go false e = refl

-- ---- the first bytes of two labels, asked for where there are so many

-- bytes are alike to the same bytes
alike_same : (xs ys : List ℕ) → xs ≡ ys → pointwise eqb xs ys ≡ true
alike_same xs ys e = rw e (go ys)
  where
    go : (zs : List ℕ) → pointwise eqb zs zs ≡ true
    go [] = refl
    go (z ∷ zs) = rw (eq-eqb z z refl) (go zs)

-- whether two beginnings, where both are there, are alike
abbrev pub alike : Option (Bor (List ℕ)) → Option (Bor (List ℕ)) → Bool
alike = option_eq (λ x y. pointwise eqb x.now y.now)

module _ (n : ℕ) (a b : List ℕ) where
  -- x is the first n bytes of a, or a is too short
  abbrev pub Begins : List ℕ → Option (Bor (List ℕ)) → Type 0
  Begins text x = MatchOption x (length text < n) (λ y. IsFirstChunk text y.now n)

  same_beginnings : a ≡ b → (x y : Option (Bor (List ℕ))) → Begins a x → Begins b y → alike x y ≡ true
  same_beginnings e None None h k = refl
  same_beginnings e None (Some y) h k = absurd (omega (arith, ap length e, k.enough))
  same_beginnings e (Some x) None h k = absurd (omega (arith, ap length e, h.enough))
  same_beginnings e (Some x) (Some y) h k = alike_same x.now y.now (h.same ∙ ap (take n) e ∙ sym k.same)

  -- labels that begin otherwise are not the same
  pub unlike_beginnings : (x y : Option (Bor (List ℕ))) → Begins a x → Begins b y → alike x y ≡ false → false ≡ same_label a b
  unlike_beginnings x y h k unlike = go (true_or_false (same_label a b))
    where
      go : (same_label a b ≡ true) ⊎ (same_label a b ≡ false) → false ≡ same_label a b
      go (inr e) = sym e
      go (inl e) = absurd (true≢false (sym (same_beginnings (same_text a b (sym (same-pointwise a b ∙ e))) x y h k) ∙ unlike))

-- labels of one length, i bytes passed: the bytes that are left decide whether they are the same
pub record SameSoFar (a b : List ℕ) (i : ℕ) : Type 0 where
  pub long : length a ≡ length b
  pub left : same_label (drop i a) (drop i b) ≡ same_label a b

module _ {a b : List ℕ} {i : ℕ} (so_far : SameSoFar a b i) where
  -- a byte differs: the labels do
  pub bytes_differ : i < length a → (get_or a i 0 ≡ get_or b i 0 → ⊥) → false ≡ same_label a b
  unfolding same_label
  bytes_differ h d =
      let k : i < length b = omega arith in
      sym (rw (drop-cons a i 0 h, drop-cons b i 0 k, ne_eqb (get_or a i 0) (get_or b i 0) d)) ∙ so_far.left

  -- a byte agrees: the rest decides
  pub bytes_agree : i < length a → get_or a i 0 ≡ get_or b i 0 → SameSoFar a b (i + 1)
  unfolding same_label
  bytes_agree h e =
      let k : i < length b = omega arith in
      record {
        long = so_far.long;
        left = rw add-one (sym (rw (drop-cons a i 0 h, drop-cons b i 0 k, eq-eqb (get_or a i 0) (get_or b i 0) e)) ∙ so_far.left);
      }

  -- no byte is left: they are the same
  pub bytes-end : length a ≤ i → true ≡ same_label a b
  unfolding same_label
  bytes-end h =
      let k : length b ≤ i = omega arith in
      sym (rw (drop_of_length-le a h, drop_of_length-le b k)) ∙ so_far.left

-- ---- the bytes of a label, as a part

module _ (s : List ℕ) (p : ℕ) where
  -- past the end there are none
  pub text_none : length s ≤ p → [] ≡ text_at s p
  unfolding text_at
  text_none h = rw (get_or-eq_default s 0 h)

  -- a length that reaches past the end takes what there is
  pub text-short : (r : ℕ) → r ≡ get_or s p 0 → length s - (p + 1) < r → take (length s - (p + 1)) (drop (p + 1) s) ≡ text_at s p
  unfolding text_at
  text-short r e h =
      let long = length-drop (p + 1) s in
      take_all (length s - (p + 1)) (drop (p + 1) s) (omega arith) ∙ sym (take_all (get_or s p 0) (drop (p + 1) s) (omega arith))

  -- otherwise it is as long as its length says
  pub text-whole : (r : ℕ) → r ≡ get_or s p 0 → take (p + 1 + r - (p + 1)) (drop (p + 1) s) ≡ text_at s p
  unfolding text_at
  text-whole r e = let n : p + 1 + r - (p + 1) ≡ get_or s p 0 = omega arith in ap (λ (k : ℕ). take k (drop (p + 1) s)) n

-- ---- the bytes of label n of a sheet

module _ (s : List ℕ) where
  -- 0 is no label
  pub label_zero : (n : ℕ) → n ≡ 0 → [] ≡ label_at (labels_in s) n
  unfolding label_at
  label_zero zero e = refl
  label_zero (suc n) e = absurd (omega arith)

  -- nor is a number after the last
  pub label_over : (n : ℕ) → get_or s 0 0 < n → [] ≡ label_at (labels_in s) n
  unfolding label_at labels_in
  label_over zero h = refl
  label_over (suc n) h = sym (get_or-eq_default (texts_at s 1 (get_or s 0 0)) [] (omega (arith, length-texts s 1 (get_or s 0 0))))

  -- the others stand at their places
  pub label_there : (n : ℕ) → (n ≡ 0 → ⊥) → n ≤ get_or s 0 0 → text_at s (place_after (after_label s) 1 (n - 1)) ≡ label_at (labels_in s) n
  unfolding label_at texts_at labels_in
  label_there zero h k = absurd (h refl)
  label_there (suc n) h k =
      let one : suc n - 1 ≡ n = omega arith in
      ap (λ (m : ℕ). text_at s (place_after (after_label s) 1 m)) one ∙ sym (get_or-standing (text_at s) (after_label s) 1 (get_or s 0 0) n [] k)
