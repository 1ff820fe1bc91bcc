-- Bytes and numbers that are read are written as they stood, and what was written is read again.
use Prim.Native.Nat.{ℕ, zero, suc, ◌+◌, ◌*◌, ◌/◌, ◌%◌, ◌^◌, ◌<◌}
use Rattle.std.specs.Prelude.{◌≡◌, length, get_or}
use Rattle.std.proofs.Math.Path.{refl, ap, subst}
use Rattle.std.proofs.Common.{sym, ◌∙◌, arith, pow-suc}
use mathlib.Core.List.Memᴰ
use mathlib.Core.List.{List, [], ◌∷◌, ◌++◌, flat_map, append_assoc, Memᴰ}
use Rattle.std.proofs.Math.Logic.{⊎_elim}
use Rattle.std.proofs.Math.Nat.{pow-zero}
use Rattle.meaning.specs.Reader.{read, Reader, go_on, ◌>>=◌, give, byte, bytes, number, repeat}
use Rattle.meaning.specs.Written.{number_bytes}
use Rattle.laws.specs.Readers.{give-read, bind_read, read_bind, byte-read}

-- every element is a byte
abbrev pub Bytes : List ℕ → Type 0
Bytes bs = (k : ℕ) → get_or bs k 0 < 256

-- so is every element of what is left
pub bytes_left : (xs ys : List ℕ) → Bytes (xs ++ ys) → Bytes ys
bytes_left [] ys h = h
bytes_left (x ∷ xs) ys h = bytes_left xs ys (λ k. h (suc k))

-- n bytes
pub bytes_read : (n : ℕ) (bs text left : List ℕ) → bytes n bs ≡ read text left → (length text ≡ n) × (bs ≡ text ++ left)
unfolding bytes repeat
bytes_read zero bs text left h =
    let made = give-read [] bs h in
    subst (λ (t : List ℕ). (length t ≡ 0) × (bs ≡ t ++ left)) made.0 (refl, made.1)
bytes_read (suc n) bs text left h =
    let b = byte-read _ bs h in
    let more = bind_read (bytes n) _ b.others text left b.after in
    let later = bytes_read n b.others more.value more.middle more.before in
    let made = give-read _ more.middle more.after in
    let stood : bs ≡ b.first ∷ (more.value ++ left) = cc in
    subst (λ (t : List ℕ). (length t ≡ suc n) × (bs ≡ t ++ left)) made.0 (ap suc later.0, stood)

-- a number of n bytes, the low byte first
pub number_read : (n : ℕ) (bs : List ℕ) (x : ℕ) (left : List ℕ) → Bytes bs → number n bs ≡ read x left → (x < 256 ^ n) × (bs ≡ number_bytes n x ++ left)
unfolding number number_bytes
number_read zero bs x left small h =
    let made = give-read 0 bs h in
    (rw pow-zero (omega arith), made.1)
number_read (suc n) bs x left small h =
    let b = byte-read _ bs h in
    let low = b.first in
    let more = bind_read (number n) _ b.others x left b.after in
    let high = more.value in
    let small₂ : Bytes (low ∷ b.others) = subst Bytes b.bytes small in
    let later = number_read n b.others high more.middle (λ k. small₂ (suc k)) more.before in
    let made = give-read (low + 256 * high) more.middle more.after in
    let byte_low : low < 256 = small₂ 0 in
    let is-low : x % 256 ≡ low = sym (ap (λ (y : ℕ). y % 256) made.0) ∙ omega arith in
    let is-high : x / 256 ≡ high = sym (ap (λ (y : ℕ). y / 256) made.0) ∙ omega arith in
    let stood : bs ≡ low ∷ (number_bytes n high ++ left) = cc in
    (rw (pow-suc 256 n) (omega (arith, later.0, made.0)), rw (is-low, is-high) stood)

-- a number that fits is read from its bytes
pub read_number : (n x : ℕ) (left : List ℕ) → x < 256 ^ n → number n (number_bytes n x ++ left) ≡ read x left
unfolding number number_bytes byte ◌>>=◌ go_on give
read_number zero x left h = let nought : 0 ≡ x = omega (arith, rw pow-zero at h) in ap (λ (y : ℕ). read y left) nought
read_number (suc n) x left h =
    let room : x < 256 ^ n * 256 = rw (pow-suc 256 n) at h in
    read_bind (number n) _ _ (x / 256) left (read_number n (x / 256) left (omega arith)) ∙ ap (λ (y : ℕ). read y left) (omega arith)

-- ---- n times the same reader, whose values are written by w

module _ {A : Type 0} (r : Reader A) (w : A → List ℕ) (Sound : A → Type 0) where
  -- each value that is read is sound, and its bytes stood there
  pub repeat_read : (Kind : List ℕ → Type 0) → ((us vs : List ℕ) → Kind (us ++ vs) → Kind vs)
      → ((bs : List ℕ) (a : A) (left : List ℕ) → Kind bs → r bs ≡ read a left → Sound a × (bs ≡ w a ++ left))
      → (n : ℕ) (bs : List ℕ) (xs : List A) (left : List ℕ) → Kind bs → repeat n r bs ≡ read xs left
      → ((a : A) → Memᴰ a xs → Sound a) × (length xs ≡ n) × (bs ≡ flat_map w xs ++ left)
  unfolding repeat flat_map
  repeat_read Kind rest each zero bs xs left kind h =
      let made = give-read [] bs h in
      subst (λ (l : List A). ((a : A) → Memᴰ a l → Sound a) × (length l ≡ 0) × (bs ≡ flat_map w l ++ left)) made.0
      (λ a m. absurd (Memᴰ.not-nil m), refl, made.1)
  repeat_read Kind rest each (suc n) bs xs left kind h =
      let one = bind_read r _ bs xs left h in
      let first = each bs one.value one.middle kind one.before in
      let more = bind_read (repeat n r) _ one.middle xs left one.after in
      let later = repeat_read Kind rest each n one.middle more.value more.middle
      (rest (w one.value) one.middle (subst Kind first.1 kind)) more.before in
      let made = give-read _ more.middle more.after in
      let stood : bs ≡ (w one.value ++ flat_map w more.value) ++ left = rw append_assoc (cc) in
      subst (λ (l : List A). ((a : A) → Memᴰ a l → Sound a) × (length l ≡ suc n) × (bs ≡ flat_map w l ++ left)) made.0
      (λ a m. ⊎_elim (λ e. subst Sound (sym e) first.0) (later.0 a) (Memᴰ.cases_cons m), ap suc later.1, stood)

  -- sound values are read from their bytes
  pub read-repeat : ((a : A) (left : List ℕ) → Sound a → r (w a ++ left) ≡ read a left)
      → (xs : List A) (left : List ℕ) → ((a : A) → Memᴰ a xs → Sound a) → repeat (length xs) r (flat_map w xs ++ left) ≡ read xs left
  unfolding repeat flat_map give
  read-repeat each [] left h = refl
  read-repeat each (a ∷ xs) left h =
      ap (repeat (suc (length xs)) r) (append_assoc (w a) (flat_map w xs) left)
      ∙ read_bind r _ _ a (flat_map w xs ++ left) (each a (flat_map w xs ++ left) (h a (Memᴰ.head refl)))
      ∙ read_bind (repeat (length xs) r) _ _ xs left (read-repeat each xs left (λ b m. h b (Memᴰ.tail m)))
