-- What a reading that went well tells of each of its parts, and what is known where something was written.
use Rattle.std.specs.Prelude.{ℕ, ◌≡◌, Bool}
use Rattle.std.proofs.Math.Path.{refl, ap}
use Rattle.std.proofs.Math.Bool.{true, false}
use Rattle.std.proofs.lemmas.Bool.{false≢true}
use mathlib.Core.List.{List, [], ◌∷◌}
use Rattle.std.proofs.Common.{arith}
use Rattle.base.specs.Choice.{pick}
use Rattle.meaning.specs.Reader.{Reading, read, refused, Reader, go_on, ◌>>=◌, ◌>>◌, give, unless, byte, end}
use Rattle.meaning.specs.Calls.{judged, Writing, refuses, writes}
use Rattle.meaning.specs.declared.Refusal.{Refusal}

module _ {A : Type 0} where
  -- a refusal is no reading
  pub refused_not_read : {n : Refusal} {a : A} {left : List ℕ} → refused n ≡ read a left → ⊥
  refused_not_read h = let z : ◌≡◌ {A = ℕ} 0 1 = cc in omega arith

  -- a value is given as it is, and nothing is read
  pub give-read : (a : A) (s : List ℕ) {b : A} {left : List ℕ} → give a s ≡ read b left → (a ≡ b) × (s ≡ left)
  unfolding give
  give-read a s h = (cc, cc)

module _ {A B : Type 0} where
  -- a first reading went well, and then the next one
  pub record Both (first : Reading A) (next : A → Reader B) (b : B) (left : List ℕ) : Type 0 where
    pub value : A
    pub middle : List ℕ
    pub before : first ≡ read value middle
    pub after : next value middle ≡ read b left

  -- both readings went well where reading on did
  pub both_read : (first : Reading A) (next : A → Reader B) (b : B) (left : List ℕ) → go_on first next ≡ read b left → Both first next b left
  unfolding go_on
  both_read (read a mid) next b left h = record { value = a; middle = mid; before = refl; after = h }
  both_read (refused n) next b left h = absurd (refused_not_read h)

  -- so of a first reader and the next
  pub bind_read : (r : Reader A) (next : A → Reader B) (s : List ℕ) (b : B) (left : List ℕ) → ◌>>=◌ r next s ≡ read b left → Both (r s) next b left
  unfolding ◌>>=◌
  bind_read r next s b left h = both_read (r s) next b left h

  -- where the first went well reading goes on from there
  pub read_bind : (r : Reader A) (next : A → Reader B) (s : List ℕ) (a : A) (middle : List ℕ) → r s ≡ read a middle → ◌>>=◌ r next s ≡ next a middle
  unfolding ◌>>=◌ go_on
  read_bind r next s a middle h = ap (λ m. go_on m next) h

module _ {B : Type 0} where
  -- a test held, and reading went on from the same place
  pub test_read : (n : Refusal) (t : Bool) (next : Reader B) (s : List ℕ) {b : B} {left : List ℕ} → ◌>>◌ (unless n t) next s ≡ read b left
      → (t ≡ true) × (next s ≡ read b left)
  unfolding ◌>>◌ unless go_on
  test_read n true next s h = (refl, h)
  test_read n false next s h = absurd (refused_not_read h)

  -- where the test holds reading goes on
  pub read-test : (n : Refusal) (t : Bool) (next : Reader B) (s : List ℕ) → t ≡ true → ◌>>◌ (unless n t) next s ≡ next s
  unfolding ◌>>◌ unless go_on
  read-test n true next s h = refl
  read-test n false next s h = absurd (false≢true h)

  -- a byte was there
  pub record Began (next : ℕ → Reader B) (s : List ℕ) (b : B) (left : List ℕ) : Type 0 where
    pub first : ℕ
    pub others : List ℕ
    pub bytes : s ≡ first ∷ others
    pub after : next first others ≡ read b left

  -- so it was where reading on from a byte went well
  pub byte-read : (next : ℕ → Reader B) (s : List ℕ) {b : B} {left : List ℕ} → ◌>>=◌ byte next s ≡ read b left → Began next s b left
  unfolding ◌>>=◌ byte go_on
  byte-read next [] h = absurd (refused_not_read h)
  byte-read next (x ∷ s) h = record { first = x; others = s; bytes = refl; after = h }

  -- no byte remained
  pub end_read : (next : Reader B) (s : List ℕ) {b : B} {left : List ℕ} → ◌>>◌ end next s ≡ read b left → (s ≡ []) × (next [] ≡ read b left)
  unfolding ◌>>◌ end go_on
  end_read next [] h = (refl, h)
  end_read next (x ∷ s) h = absurd (refused_not_read h)

-- ---- what was written

module _ {A : Type 0} where
  -- a refusal writes nothing
  refuses_not_writes : {n : Refusal} {a : A} {bs : List ℕ} → refuses n ≡ writes a bs → ⊥
  refuses_not_writes h = let z : ◌≡◌ {A = ℕ} 0 1 = cc in omega arith

  -- the test held
  pub test-written : (t : Bool) (w : Writing A) (n : Refusal) {a : A} {bs : List ℕ} → pick t w (refuses n) ≡ writes a bs → (t ≡ true) × (w ≡ writes a bs)
  unfolding pick
  test-written true w n h = (refl, h)
  test-written false w n h = absurd (refuses_not_writes h)

module _ {A B : Type 0} where
  -- what was judged had been read
  pub judged-written : (r : Reading A) (next : A → Writing B) {b : B} {bs : List ℕ} → judged r refuses next ≡ writes b bs
      → (a : A) × (left : List ℕ) × (r ≡ read a left) × (next a ≡ writes b bs)
  unfolding judged
  judged-written (read a left) next h = (a, left, refl, h)
  judged-written (refused n) next h = absurd (refuses_not_writes h)
