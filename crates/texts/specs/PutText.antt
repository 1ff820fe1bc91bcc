-- Text put into a lent output from a place on, byte by byte while there is room.
use Rattle.std.specs.Prelude.{ℕ, suc, ◌+◌, ◌≤◌, ◌<◌, ◌≡◌, refl, Bool, true, false, List, [], ◌∷◌, ◌++◌, ltb, set, take, drop}
use Rattle.std.proofs.Math.Path.{sym, ap}
use Rattle.std.proofs.Common.{◌∙◌, arith, add-one, lt-ltb, le-ltb, length-set}
use Rattle.std.proofs.Math.ListN.{length}
use Rattle.std.proofs.lemmas.List.Edits.{sets, sets-eq}
use Rattle.base.specs.Choice.{pick}

-- the output, and the place where the next byte goes
pub record Written : Type 0 where
  pub out : List ℕ
  pub next : ℕ

unfoldable pub written : List ℕ → ℕ → Written
written out next = record { out = out; next = next }

-- a byte goes to the next place, if there is one
unfoldable pub put_byte : Written → ℕ → Written
put_byte w b = pick (ltb w.next (length w.out)) (written (set w.out w.next b) (w.next + 1)) w

-- a text, byte after byte
unfoldable pub put : Written → List ℕ → Written
put w [] = w
put w (b ∷ text) = put (put_byte w b) text

-- what was put decides output and place
pub put_decides : (w : Written) (out after : List ℕ) (at next : ℕ) → written out at ≡ w → written after next ≡ w → (out ≡ after) × (at ≡ next)
unfolding written
put_decides w out after at next e f = (ap (λ (v : Written). v.out) (e ∙ sym f), ap (λ (v : Written). v.next) (e ∙ sym f))

-- nothing changes what stands
pub put-nothing : (w : Written) → w ≡ put w []
unfolding put
put-nothing w = refl

-- one byte
pub put_one : (w : Written) (b : ℕ) → put_byte w b ≡ put w (b ∷ [])
unfolding put
put_one w b = refl

-- two texts, one after the other
pub put-append : (w : Written) (xs ys : List ℕ) → put w (xs ++ ys) ≡ put (put w xs) ys
unfolding put
put-append w [] ys = refl
put-append w (x ∷ xs) ys = put-append (put_byte w x) xs ys

-- there is a next place
pub byte_fits : (out : List ℕ) (at b : ℕ) → at < length out → written (set out at b) (at + 1) ≡ put_byte (written out at) b
unfolding put_byte pick written
byte_fits out at b h = sym (rw (lt-ltb at (length out) h))

-- there is none
pub byte_lost : (out : List ℕ) (at b : ℕ) → length out ≤ at → written out at ≡ put_byte (written out at) b
unfolding put_byte pick written
byte_lost out at b h = sym (rw (le-ltb at (length out) h))

-- the same text
pub put_is : (w : Written) {u : Written} {xs ys : List ℕ} → ys ≡ xs → u ≡ put w xs → u ≡ put w ys
put_is w e h = h ∙ ap (put w) (sym e)

-- what follows a text that was put: its own text is put after it
pub put_then : (v : Written) {w u : Written} (xs ys : List ℕ) → w ≡ put v xs → u ≡ put w ys → u ≡ put v (xs ++ ys)
put_then v xs ys e f = f ∙ ap (λ (z : Written). put z ys) e ∙ sym (put-append v xs ys)

-- the output keeps its length
length-byte : (w : Written) (b : ℕ) → length (put_byte w b).out ≡ length w.out
unfolding put_byte pick written
length-byte w b = go (ltb w.next (length w.out))
  where
    go : (t : Bool) → length (pick t (written (set w.out w.next b) (w.next + 1)) w).out ≡ length w.out
    go true = length-set w.out w.next b
    go false = refl

pub length-put : (w : Written) (text : List ℕ) → length (put w text).out ≡ length w.out
unfolding put
length-put w [] = refl
length-put w (b ∷ text) = length-put (put_byte w b) text ∙ length-byte w b

-- ---- a loop that puts a text in parts

-- what is left of it, put from here, gives what all of it gives from the start
pub record LeftToPut (out₀ : List ℕ) (at₀ : ℕ) (text : List ℕ) (out : List ℕ) (next : ℕ) (left : List ℕ) : Type 0 where
  pub gives : put (written out next) left ≡ put (written out₀ at₀) text

-- at first all of it is left
pub left-first : {out : List ℕ} {at : ℕ} {text : List ℕ} → LeftToPut out at text out at text
left-first = record { gives = refl }

module _ {out₀ : List ℕ} {at₀ : ℕ} {text : List ℕ} {out : List ℕ} {next : ℕ} {left : List ℕ} where
  -- one part of it is put
  pub left-goes_on : LeftToPut out₀ at₀ text out next left → (part : List ℕ) {others : List ℕ} → left ≡ part ++ others
      → {after : List ℕ} {then : ℕ} → written after then ≡ put (written out next) part → LeftToPut out₀ at₀ text after then others
  left-goes_on h part {others} e f =
      record {
        gives = ap (λ (w : Written). put w others) f ∙ sym (put-append (written out next) part others) ∙ ap (put (written out next)) (sym e) ∙ h.gives;
      }

  -- what is left is the same
  pub left-stays : LeftToPut out₀ at₀ text out next left → {others : List ℕ} → left ≡ others → LeftToPut out₀ at₀ text out next others
  left-stays h e = record { gives = ap (put (written out next)) (sym e) ∙ h.gives }

  -- nothing is left
  pub left_none : LeftToPut out₀ at₀ text out next left → left ≡ [] → written out next ≡ put (written out₀ at₀) text
  unfolding put
  left_none h e = ap (put (written out next)) (sym e) ∙ h.gives

  -- the output keeps its length
  pub left-same : LeftToPut out₀ at₀ text out next left → length out ≡ length out₀
  unfolding written
  left-same h = sym (length-put (written out next) left) ∙ ap (λ (w : Written). length w.out) h.gives ∙ length-put (written out₀ at₀) text

-- the output keeps its length, whatever was put
pub same-room : (out₀ out : List ℕ) (at next : ℕ) (text : List ℕ) → written out next ≡ put (written out₀ at) text → length out ≡ length out₀
unfolding written
same-room out₀ out at next text h = ap (λ (w : Written). length w.out) h ∙ length-put (written out₀ at) text

-- ---- a text with room for it

put_stores : (text out : List ℕ) (at : ℕ) → at + length text ≤ length out → put (written out at) text ≡ written (sets out at text) (at + length text)
unfolding put
put_stores [] out at h = ap (written out) (omega arith)
put_stores (b ∷ text) out at h =
    ap (λ (w : Written). put w text) (sym (byte_fits out at b (omega arith)))
    ∙ put_stores text (set out at b) (at + 1) (omega (arith, length-set out at b))
    ∙ λ i. written (sets (set out at b) (add-one at i) text) (moved i)
  where
    moved : at + 1 + length text ≡ at + suc (length text)
    moved = omega arith

-- the output is as found before it and behind it
pub put-fits : (text out : List ℕ) (at : ℕ) → at + length text ≤ length out
    → put (written out at) text ≡ written (take at out ++ text ++ drop (at + length text) out) (at + length text)
put-fits text out at h = put_stores text out at h ∙ λ i. written (sets-eq text out at h i) (at + length text)

-- put at the output's start, it stands first, and the next place is its length
pub put_whole : (text out after : List ℕ) (next : ℕ) → length text ≤ length out → written after next ≡ put (written out 0) text
    → (next ≡ length text) × (after ≡ text ++ drop (length text) out)
unfolding written
put_whole text out after next h e =
    let whole = e ∙ put-fits text out 0 (omega arith) in
    let end : 0 + length text ≡ length text = omega arith in
    (ap (λ (w : Written). w.next) whole ∙ end, ap (λ (w : Written). w.out) whole ∙ ap (λ (n : ℕ). text ++ drop n out) end)
