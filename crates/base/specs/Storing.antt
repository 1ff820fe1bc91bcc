-- Bytes stored one after another into a list, and the parts that a loop over a list's first elements stores in its turns.
use Rattle.std.specs.Prelude.{ℕ, suc, ◌+◌, ◌≤◌, ◌<◌, ◌≡◌, length, get_or, set, take, drop}
use Rattle.std.proofs.Math.Path.{refl, ap}
use Rattle.std.proofs.Common.{sym, ◌∙◌, arith, length-append, drop_of_length-le}
use mathlib.Core.List.{List, [], ◌∷◌, ◌++◌, map, flat_map}
use Rattle.std.proofs.Math.Numerals.{add-one}
use Rattle.std.proofs.lemmas.List.Edits.{sets}
use Rattle.std.proofs.Math.Seq.{length-sets, slice-cons, length-take-le}

module _ {A : Type 0} where
  -- what is stored in two parts is stored as a whole
  pub sets-append : (l : List A) (i : ℕ) (xs ys : List A) → sets l i (xs ++ ys) ≡ sets (sets l i xs) (i + length xs) ys
  sets-append l i [] ys = ap (λ (k : ℕ). sets l k ys) (omega arith)
  sets-append l i (x ∷ xs) ys =
      sets-append (set l i x) (suc i) xs ys ∙ ap (λ (k : ℕ). sets (sets (set l i x) (suc i) xs) k ys) (omega arith)

module _ {A B : Type 0} (f : A → List B) where
  -- the parts of a mapped list
  pub flat_map-map : {C : Type 0} (g : C → A) (xs : List C) → flat_map f (map g xs) ≡ flat_map (λ (x : C). f (g x)) xs
  unfolding flat_map
  flat_map-map g [] = refl
  flat_map-map g (x ∷ xs) = ap (λ l. f (g x) ++ l) (flat_map-map g xs)

  -- of the first n elements, the parts of those from k on
  unfoldable pub parts_from : ℕ → ℕ → List A → List B
  parts_from n k xs = flat_map f (drop k (take n xs))

  module _ (n k : ℕ) (xs : List A) (fits : n ≤ length xs) where
    -- the part of the element at k, and then the others
    pub parts_go_on : (d : A) → k < n → parts_from n k xs ≡ f (get_or xs k d) ++ parts_from n (k + 1) xs
    unfolding parts_from flat_map
    parts_go_on d h = rw add-one (ap (flat_map f) (slice-cons k n xs d h fits))

    -- none is left
    pub parts_end : n ≤ k → parts_from n k xs ≡ []
    unfolding parts_from flat_map
    parts_end h = ap (flat_map f) (drop_of_length-le (take n xs) {i = k} (omega (arith, length-take-le n xs fits)))

-- What is left to store: stored from the place that was reached, it gives the whole; it ends where the whole does, and
-- there is room for it.
pub record LeftToStore {A : Type 0} (whole : List A) (end : ℕ) (out : List A) (at : ℕ) (left : List A) : Type 0 where
  pub gives : sets out at left ≡ whole
  pub ends : at + length left ≡ end
  pub room : end ≤ length out

module _ {A : Type 0} {end at : ℕ} {out : List A} where
  -- at first all of it is left
  pub left-first : (bs : List A) (next : ℕ) → next ≡ at → next + length bs ≡ end → end ≤ length out → LeftToStore (sets out at bs) end out next bs
  left-first bs next e l h = record { gives = ap (λ (k : ℕ). sets out k bs) e; ends = l; room = h }

module _ {A : Type 0} {whole : List A} {end at : ℕ} {out left : List A} where
  -- one part of it is stored
  pub left-goes_on : LeftToStore whole end out at left → (part others : List A) → left ≡ part ++ others
      → (after : List A) (next : ℕ) → after ≡ sets out at part → next ≡ at + length part → LeftToStore whole end after next others
  left-goes_on h part others e after next stored l =
      record {
        gives = (λ i. sets (stored i) (l i) others) ∙ sym (sets-append out at part others) ∙ ap (sets out at) (sym e) ∙ h.gives;
        ends = omega (arith, h.ends, ap length e, length-append part others);
        room = omega (arith, h.room, ap length stored, length-sets out at part);
      }

  -- a part has room
  pub left-room : LeftToStore whole end out at left → (part others : List A) → left ≡ part ++ others → at + length part ≤ length out
  left-room h part others e = omega (arith, h.ends, h.room, ap length e, length-append part others)

  -- nothing is left
  pub left_none : LeftToStore whole end out at left → left ≡ [] → (at ≡ end) × (out ≡ whole)
  left_none h e = (omega (arith, h.ends, ap length e), ap (sets out at) (sym e) ∙ h.gives)

  -- the list is as long as the whole
  pub left-same : LeftToStore whole end out at left → length out ≡ length whole
  left-same h = sym (length-sets out at left) ∙ ap length h.gives

-- ---- a loop that stores the parts of the first n elements, one in each turn: at turn k those from k on are left
pub record StoringTurn {A B : Type 0} (f : A → List B) (n : ℕ) (xs : List A) (whole : List B) (end : ℕ) (out : List B) (at k : ℕ) : Type 0 where
  pub fits : n ≤ length xs
  pub within : k ≤ n
  pub left : LeftToStore whole end out at (parts_from f n k xs)

module _ {A B : Type 0} {f : A → List B} {n k : ℕ} {xs : List A} {whole : List B} {end at : ℕ} {out : List B}
    (turn : StoringTurn f n xs whole end out at k) where
  -- there is room for the part
  pub turn-room : (d : A) → k < n → at + length (f (get_or xs k d)) ≤ length out
  turn-room d h = left-room turn.left (f (get_or xs k d)) (parts_from f n (k + 1) xs) (parts_go_on f n k xs turn.fits d h)

  -- and the others are left behind it
  pub turn-goes_on : (d : A) → k < n → (after : List B) (next : ℕ) → after ≡ sets out at (f (get_or xs k d)) → next ≡ at + length (f (get_or xs k d))
      → StoringTurn f n xs whole end after next (k + 1)
  turn-goes_on d h after next stored l =
      record {
        fits = turn.fits;
        within = omega arith;
        left = left-goes_on turn.left (f (get_or xs k d)) (parts_from f n (k + 1) xs) (parts_go_on f n k xs turn.fits d h) after next stored l;
      }

  -- after the last turn the whole stands
  pub turns_end : n ≤ k → (at ≡ end) × (out ≡ whole)
  turns_end h = left_none turn.left (parts_end f n k xs turn.fits h)
