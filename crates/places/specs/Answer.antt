-- What a reader gives, by the place that was reached in the bytes: the value and the bytes from there on, or the fault.
use Rattle.std.specs.Prelude.{ℕ, zero, suc, ◌+◌, ◌-◌, Bool, not, ◌&&◌, ◌||◌, List, [], ◌∷◌, length, get_or, take, drop, Ok, Err}
use Rattle.std.proofs.Math.Path.{◌≡◌, refl}
use Rattle.std.proofs.Math.Bool.{true, false}
use Rattle.std.proofs.Math.Dec.{leb, ltb, leb-zero, leb-suc-zero, leb-suc-suc}
use Rattle.std.proofs.Common.{drop_of_length-le, drop-cons, arith, ltb-true, ltb-false, leb-true, leb-false}
use Rattle.std.proofs.Math.ListN.{length-drop}
use Rattle.std.proofs.Math.Seq.{drop-drop}
use Rattle.std.proofs.Math.Numerals.{add-one}
use Rattle.base.specs.Choice.{pick}
use Rattle.base.specs.Loops.{and_then}
use Rattle.meaning.specs.Reader.{Reading, read, refused, Reader, go_on, ◌>>=◌, ◌>>◌, unless, byte, bytes, end, give, repeat, number_of}
use Rattle.places.specs.Bytes.{number_at, Place}
use Rattle.meaning.specs.declared.Refusal.TheVariants.{BytesRemain, EndsEarly}
use Rattle.meaning.specs.declared.Refusal.{Refusal}

-- ---- choices

module _ {ℓ} {A : Type ℓ} where
  -- a test of two parts is two tests
  pub pick_both : (a b : Bool) (x y : A) → pick (a && b) x y ≡ pick a (pick b x y) y
  unfolding pick
  pick_both true b x y = refl
  pick_both false b x y = refl

  -- a test turned round
  pub pick_not : (b : Bool) (x y : A) → pick (not b) x y ≡ pick b y x
  unfolding pick
  pick_not true x y = refl
  pick_not false x y = refl

  -- a test of two alternatives is two tests
  pub pick-either : (a b : Bool) (x y : A) → pick (a || b) x y ≡ pick a x (pick b x y)
  unfolding pick
  pick-either true b x y = refl
  pick-either false b x y = refl

-- a place was reached: no test on the way refused
pub passed : (b : Bool) (x : Place) (n : Refusal) (y : ℕ) → pick b x (Err n) ≡ Ok y → (b ≡ true) × (x ≡ Ok y)
unfolding pick
passed true x n y h = (refl, h)
passed false x n y h = let z : ◌≡◌ {A = ℕ} 0 1 = cc in absurd (omega arith)

-- the same, where the test refuses if it holds
pub passed_not : (b : Bool) (x : Place) (n : Refusal) (y : ℕ) → pick b (Err n) x ≡ Ok y → (b ≡ false) × (x ≡ Ok y)
unfolding pick
passed_not true x n y h = let z : ◌≡◌ {A = ℕ} 0 1 = cc in absurd (omega arith)
passed_not false x n y h = (refl, h)

-- a place was reached after another
pub passed_on : (c : Place) (f : ℕ → Place) (y : ℕ) → and_then c f ≡ Ok y → (x : ℕ) × (c ≡ Ok x) × (f x ≡ Ok y)
unfolding and_then
passed_on (Ok x) f y h = (x, refl, h)
passed_on (Err n) f y h = let z : ◌≡◌ {A = ℕ} 0 1 = cc in absurd (omega arith)

-- going on after a choice is a choice of goings-on
pub and_then-pick : (b : Bool) (x y : Place) (f : ℕ → Place) → and_then (pick b x y) f ≡ pick b (and_then x f) (and_then y f)
unfolding pick
and_then-pick true x y f = refl
and_then-pick false x y f = refl

-- one place on, and one more
pub two : (x : ℕ) → x + 1 + 1 ≡ x + 2
two x = omega arith

-- ---- readers at a place

module _ {A : Type 0} where
  -- the value with the bytes from the place on, or the fault
  unfoldable pub answer : List ℕ → A → Place → Reading A
  answer s a (Ok p) = read a (drop p s)
  answer s a (Err n) = refused n

  -- the answer of a choice is a choice of answers
  pub answer-pick : (s : List ℕ) (a : A) (b : Bool) (x y : Place) → answer s a (pick b x y) ≡ pick b (answer s a x) (answer s a y)
  unfolding pick
  answer-pick s a true x y = refl
  answer-pick s a false x y = refl

  -- the value that was read
  pub answer-value : (s : List ℕ) (a : A) (c : Place) (b : A) (left : List ℕ) → answer s a c ≡ read b left → b ≡ a
  unfolding answer
  answer-value s a (Ok p) b left h = cc
  answer-value s a (Err n) b left h = let z : ◌≡◌ {A = ℕ} 0 1 = cc in absurd (omega arith)

  -- and the place that was reached
  pub answer-place : (s : List ℕ) (a : A) (c : Place) (b : A) (left : List ℕ) → answer s a c ≡ read b left → (p : ℕ) × (c ≡ Ok p)
  unfolding answer
  answer-place s a (Ok p) b left h = (p, refl)
  answer-place s a (Err n) b left h = let z : ◌≡◌ {A = ℕ} 0 1 = cc in absurd (omega arith)

  -- the number of a reading is that of its place
  pub number_of-answer : (s : List ℕ) (a : A) (c : Place) → number_of (answer s a c) ≡ number_at c
  unfolding answer number_of number_at
  number_of-answer s a (Ok p) = refl
  number_of-answer s a (Err n) = refl

module _ {A B : Type 0} where
  -- read on from the place that was reached
  pub then_answer : (s : List ℕ) (a : A) (b : B) (c : Place) (next : A → Reader B) (f : ℕ → Place)
      → ((p : ℕ) → c ≡ Ok p → next a (drop p s) ≡ answer s b (f p)) → go_on (answer s a c) next ≡ answer s b (and_then c f)
  unfolding answer go_on and_then
  then_answer s a b (Ok p) next f h = h p refl
  then_answer s a b (Err n) next f h = refl

-- n bytes of a list are its first n, where there are so many
pub bytes_at : (n : ℕ) (l : List ℕ) → bytes n l ≡ pick (leb n (length l)) (read (take n l) (drop n l)) (refused EndsEarly)
unfolding bytes repeat give byte ◌>>=◌ go_on pick
bytes_at zero l = rw (leb-zero (length l))
bytes_at (suc n) [] = rw (leb-suc-zero n)
bytes_at (suc n) (x ∷ l) = rw (leb-suc-suc n (length l), bytes_at n l) (go (leb n (length l)))
  where
    go : (b : Bool) → go_on (pick b (read (take n l) (drop n l)) (refused EndsEarly)) (λ later. give (x ∷ later))
        ≡ pick b (read (x ∷ take n l) (drop n l)) (refused EndsEarly)
    go true = refl
    go false = refl

module _ {A B : Type 0} where
  -- reading on after a choice is a choice of readings
  pub go_on-pick : (b : Bool) (x y : Reading A) (next : A → Reader B) → go_on (pick b x y) next ≡ pick b (go_on x next) (go_on y next)
  unfolding pick
  go_on-pick true x y next = refl
  go_on-pick false x y next = refl

  -- the value is changed, and nothing is read
  pub then_give : (s : List ℕ) (a : A) (c : Place) (f : A → B) → go_on (answer s a c) (λ x. give (f x)) ≡ answer s (f a) c
  unfolding answer go_on give
  then_give s a (Ok p) f = refl
  then_give s a (Err n) f = refl

module _ {B : Type 0} (s : List ℕ) where
  -- a byte, where there is one
  pub then_byte : (at : ℕ) (next : ℕ → Reader B)
      → ◌>>=◌ byte next (drop at s) ≡ pick (ltb at (length s)) (next (get_or s at 0) (drop (at + 1) s)) (refused EndsEarly)
  unfolding ◌>>=◌ byte go_on pick
  then_byte at next = go (ltb at (length s)) refl
    where
      go : (b : Bool) → ltb at (length s) ≡ b → go_on (byte (drop at s)) next ≡ pick b (next (get_or s at 0) (drop (at + 1) s)) (refused EndsEarly)
      go true e = rw (drop-cons s at 0 (ltb-true at (length s) e), add-one at)
      go false e = rw (drop_of_length-le s (ltb-false at (length s) e))

  -- a test, and the fault where it fails
  pub then_unless : (n : Refusal) (b : Bool) (l : List ℕ) (next : Reader B) → ◌>>◌ (unless n b) next l ≡ pick b (next l) (refused n)
  unfolding ◌>>◌ unless go_on pick
  then_unless n true l next = refl
  then_unless n false l next = refl

  -- n bytes, where there are so many
  pub then_bytes : (n at : ℕ) (next : List ℕ → Reader B)
      → ◌>>=◌ (bytes n) next (drop at s) ≡ pick (leb n (length s - at)) (next (take n (drop at s)) (drop (at + n) s)) (refused EndsEarly)
  unfolding ◌>>=◌ go_on pick
  then_bytes n at next = rw (bytes_at n (drop at s), length-drop at s, drop-drop n at s) (go (leb n (length s - at)))
    where
      go : (b : Bool) → go_on (pick b (read (take n (drop at s)) (drop (at + n) s)) (refused EndsEarly)) next
          ≡ pick b (next (take n (drop at s)) (drop (at + n) s)) (refused EndsEarly)
      go true = refl
      go false = refl

  -- no byte remains
  pub then_end : (at : ℕ) (next : Reader B) → ◌>>◌ end next (drop at s) ≡ pick (leb (length s) at) (next (drop at s)) (refused BytesRemain)
  unfolding ◌>>◌ end go_on pick
  then_end at next = go (leb (length s) at) refl
    where
      go : (b : Bool) → leb (length s) at ≡ b → go_on (end (drop at s)) (λ a. next) ≡ pick b (next (drop at s)) (refused BytesRemain)
      go true e = rw (drop_of_length-le s (leb-true (length s) at e))
      go false e = rw (drop-cons s at 0 (leb-false (length s) at e))
