-- Bytes are judged from the front, each field when its last byte is read: the first fault decides.
use Rattle.std.specs.Prelude.{ℕ, zero, suc, ◌+◌, ◌*◌, ◌≡◌, Bool, true, false, List, [], ◌∷◌}
use Rattle.meaning.specs.Numbers.{done, refusal_number}
use Rattle.meaning.specs.declared.Refusal.{Refusal}
use Rattle.meaning.specs.declared.Refusal.TheVariants.{EndsEarly, BytesRemain}

-- what reading gives: a value and the bytes that are left, or the first fault
pub data Reading (A : Type 0) : Type 0 where
  read : A → List ℕ → Reading A
  refused : Refusal → Reading A

-- a reading that went well
pub record Went {A : Type 0} (m : Reading A) : Type 0 where
  pub value : A
  pub left : List ℕ
  pub reads : m ≡ read value left

abbrev pub Reader : Type 0 → Type 0
Reader A = List ℕ → Reading A

module _ {A B : Type 0} where
  -- read on from where the first reading ended, with its value, or keep its fault
  unfoldable pub go_on : Reading A → (A → Reader B) → Reading B
  go_on (read a left) next = next a left
  go_on (refused why) next = refused why

  unfoldable pub ◌>>=◌ : Reader A → (A → Reader B) → Reader B
  ◌>>=◌ first next s = go_on (first s) next

  unfoldable pub ◌>>◌ : Reader A → Reader B → Reader B
  ◌>>◌ first next s = go_on (first s) (λ a. next)

module _ {A : Type 0} where
  -- the value, and nothing is read
  unfoldable pub give : A → Reader A
  give a s = read a s

module _ {A : Type 0} where
  -- n times the same reader
  unfoldable pub repeat : ℕ → Reader A → Reader (List A)
  repeat zero r = give []
  repeat (suc n) r = do
    a ← r
    later ← repeat n r
    give (a ∷ later)

  -- the number of a reading: 0 where there was no fault
  unfoldable pub number_of : Reading A → ℕ
  number_of (read a left) = done
  number_of (refused why) = refusal_number why

-- the fault, unless the test holds
unfoldable pub unless : Refusal → Bool → Reader (Unit {0})
unless why true s = read tt s
unless why false s = refused why

unfoldable pub byte : Reader ℕ
byte [] = refused EndsEarly
byte (b ∷ left) = read b left

-- n bytes, as they are
unfoldable pub bytes : ℕ → Reader (List ℕ)
bytes n = repeat n byte

-- a number of n bytes, the low byte first
unfoldable pub number : ℕ → Reader ℕ
number zero = give 0
number (suc n) = do
  low ← byte
  high ← number n
  give (low + 256 * high)

-- no byte remains
unfoldable pub end : Reader (Unit {0})
end [] = read tt []
end (b ∷ left) = refused BytesRemain
