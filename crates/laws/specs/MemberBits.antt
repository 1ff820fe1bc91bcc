-- Members as bits: of a union, of what two sets share, of one subscription alone, of a delivery set; and the bounds of these
-- numbers.
use Rattle.std.specs.Prelude.{ℕ, zero, suc, ◌+◌, ◌/◌, ◌%◌, ◌^◌, ◌≤◌, ◌<◌, ◌≡◌, refl, Bool, true, false, ◌&&◌, ◌||◌, List, [], ◌∷◌, eqb, length, get_or}
use Rattle.std.proofs.Common.{sym, ap, ◌∙◌, arith, div-one, mod-lt, pow-suc, lt_of_lt_of_le, mul-div_cancel, zero-add, one-add, pow_mono, shr-shr}
use Rattle.std.proofs.Math.Nat.{div-eq_of_lt, add-mul-div_left, add-mul-mod_self_left, mul-mod_left}
use Rattle.std.specs.Int.Bits.{bit_and, bit_or, or_add_and}
use Rattle.std.proofs.lemmas.Nat.{and_shr, and_mod, or_shr, or_mod, and_le_r}
use Rattle.std.proofs.Math.Dec.{eqb-zero-suc, eqb-suc-zero, eqb-suc-suc}
use Rattle.base.specs.Choice.{pick}
use Rattle.meaning.specs.Fair.{is_member}
use Rattle.meaning.specs.Routing.{delivery_set}

-- two is above nothing
two_pos : 0 < 2
two_pos = omega arith

-- the lowest bit, and the bits above it
pub member_first : (m : ℕ) → is_member m 0 ≡ eqb (m % 2) 1
unfolding is_member
member_first m = ap (λ (x : ℕ). eqb (x % 2) 1) (div-one m)

-- a bit above the lowest, in what is left when that is gone
pub member_next : (m i : ℕ) → is_member m (suc i) ≡ is_member (m / 2) i
unfolding is_member
member_next m i = ap (λ (x : ℕ). eqb (x % 2) 1) (sym (shr-shr m 1 i ∙ ap (λ (k : ℕ). m / 2 ^ k) (one-add i)))

-- bits are 0 or 1
or_bits : (u v : ℕ) → u < 2 → v < 2 → eqb (bit_or u v) 1 ≡ (eqb u 1 || eqb v 1)
or_bits zero zero h k = refl
or_bits zero (suc zero) h k = refl
or_bits (suc zero) zero h k = refl
or_bits (suc zero) (suc zero) h k = refl
or_bits zero (suc (suc v)) h k = absurd (omega arith)
or_bits (suc zero) (suc (suc v)) h k = absurd (omega arith)
or_bits (suc (suc u)) v h k = absurd (omega arith)

-- a member of the union is a member of one or of the other
pub member_or : (a b i : ℕ) → is_member (bit_or a b) i ≡ (is_member a i || is_member b i)
unfolding is_member
member_or a b i =
    ap (λ (x : ℕ). eqb (x % 2) 1) (or_shr a b i)
    ∙ ap (λ (x : ℕ). eqb x 1) (or_mod (a / 2 ^ i) (b / 2 ^ i) 1)
    ∙ or_bits (a / 2 ^ i % 2) (b / 2 ^ i % 2) (mod-lt (a / 2 ^ i) two_pos) (mod-lt (b / 2 ^ i) two_pos)

and_bits : (u v : ℕ) → u < 2 → v < 2 → eqb (bit_and u v) 1 ≡ (eqb u 1 && eqb v 1)
and_bits zero zero h k = refl
and_bits zero (suc zero) h k = refl
and_bits (suc zero) zero h k = refl
and_bits (suc zero) (suc zero) h k = refl
and_bits zero (suc (suc v)) h k = absurd (omega arith)
and_bits (suc zero) (suc (suc v)) h k = absurd (omega arith)
and_bits (suc (suc u)) v h k = absurd (omega arith)

-- a member of what two sets share is a member of both
pub member_and : (a b i : ℕ) → is_member (bit_and a b) i ≡ (is_member a i && is_member b i)
unfolding is_member
member_and a b i =
    ap (λ (x : ℕ). eqb (x % 2) 1) (and_shr a b i)
    ∙ ap (λ (x : ℕ). eqb x 1) (and_mod (a / 2 ^ i) (b / 2 ^ i) 1)
    ∙ and_bits (a / 2 ^ i % 2) (b / 2 ^ i % 2) (mod-lt (a / 2 ^ i) two_pos) (mod-lt (b / 2 ^ i) two_pos)

-- no member has a number outside
pub member_outside : (m n i : ℕ) → m < 2 ^ n → n ≤ i → is_member m i ≡ false
unfolding is_member
member_outside m n i h k = ap (λ (x : ℕ). eqb (x % 2) 1) (div-eq_of_lt (lt_of_lt_of_le h (pow_mono k)))

-- nobody is a member of 0
pub member_none : (i : ℕ) → is_member 0 i ≡ false
member_none i = member_outside 0 0 i (omega arith) (omega arith)

-- the only member of an entry as it is at first
pub member_alone : (i j : ℕ) → is_member (2 ^ i) j ≡ eqb i j
unfolding is_member
member_alone zero zero = refl
member_alone zero (suc j) = member_next 1 j ∙ member_none j ∙ sym (eqb-zero-suc j)
member_alone (suc i) zero =
    member_first (2 ^ suc i)
    ∙ ap (λ (x : ℕ). eqb (x % 2) 1) (pow-suc 2 i)
    ∙ ap (λ (x : ℕ). eqb x 1) (mul-mod_left (2 ^ i) 2)
    ∙ sym (eqb-suc-zero i)
member_alone (suc i) (suc j) =
    member_next (2 ^ suc i) j
    ∙ ap (λ (x : ℕ). is_member (x / 2) j) (pow-suc 2 i)
    ∙ ap (λ (x : ℕ). is_member x j) (mul-div_cancel (2 ^ i) two_pos)
    ∙ member_alone i j
    ∙ sym (eqb-suc-suc i j)

-- a union has members where the first has
pub or_peopled : (a b : ℕ) → 0 < a → 0 < bit_or a b
or_peopled a b h = omega (arith, or_add_and a b, and_le_r a b)

-- ---- the delivery set

-- an answer is a bit
said_lt : (b : Bool) → pick b 1 0 < 2
unfolding pick
said_lt true = omega arith
said_lt false = omega arith

-- without its lowest bit a delivery set holds the later answers
pub delivery_half : (b : Bool) (bs : List Bool) → delivery_set (b ∷ bs) / 2 ≡ delivery_set bs
unfolding delivery_set
delivery_half b bs =
    add-mul-div_left (pick b 1 0) (delivery_set bs) two_pos ∙ ap (λ (x : ℕ). x + delivery_set bs) (div-eq_of_lt (said_lt b)) ∙ zero-add (delivery_set bs)

-- and its lowest bit is the first answer
pub delivery_odd : (b : Bool) (bs : List Bool) → delivery_set (b ∷ bs) % 2 ≡ pick b 1 0
unfolding delivery_set pick
delivery_odd true bs = add-mul-mod_self_left 1 2 (delivery_set bs)
delivery_odd false bs = add-mul-mod_self_left 0 2 (delivery_set bs)

-- bit i is the i-th answer
pub member_delivery : (bs : List Bool) (i : ℕ) → is_member (delivery_set bs) i ≡ get_or bs i false
unfolding delivery_set pick
member_delivery [] i = member_none i
member_delivery (true ∷ bs) zero = member_first (delivery_set (true ∷ bs)) ∙ ap (λ (x : ℕ). eqb x 1) (delivery_odd true bs)
member_delivery (false ∷ bs) zero = member_first (delivery_set (false ∷ bs)) ∙ ap (λ (x : ℕ). eqb x 1) (delivery_odd false bs)
member_delivery (b ∷ bs) (suc i) =
    member_next (delivery_set (b ∷ bs)) i ∙ ap (λ (x : ℕ). is_member x i) (delivery_half b bs) ∙ member_delivery bs i

-- it has as many bits as there are answers
pub delivery_lt : (bs : List Bool) → delivery_set bs < 2 ^ length bs
unfolding delivery_set
delivery_lt [] = omega arith
delivery_lt (b ∷ bs) = omega (arith, said_lt b, delivery_lt bs, pow-suc 2 (length bs))
