-- Whether one word has all the bits of another, bit by bit. Bits are said as members are.
use Rattle.std.specs.Prelude.{ℕ, zero, suc, ◌^◌, ◌<◌, ◌≡◌, Bool, true, ◌&&◌, eqb}
use Rattle.std.proofs.Common.{sym, ap, ◌∙◌, arith, pow-suc, eqb-true, eq-eqb}
use Rattle.std.specs.Int.Bits.{bit_and}
use Rattle.std.proofs.lemmas.Nat.{and_le_r}
use Rattle.base.specs.Bools.{and_first, and_second, and_both, both_ways}
use Rattle.meaning.specs.Fair.{is_member}
use Rattle.laws.specs.MemberBits.{member_and}
use Rattle.laws.specs.Marks.{same-members}

-- word h has all the bits of word m
unfoldable pub has_all : ℕ → ℕ → Bool
has_all h m = eqb (bit_and h m) m

-- so it has each of them
pub has_each : (h m i : ℕ) → has_all h m ≡ true → is_member m i ≡ true → is_member h i ≡ true
unfolding has_all
has_each h m i all e =
    and_first (is_member h i) (is_member m i) (sym (member_and h m i) ∙ ap (λ (w : ℕ). is_member w i) (eqb-true (bit_and h m) m all) ∙ e)

-- n is below 2 ^ n, so that n bits decide which number it is
below_power : (n : ℕ) → n < 2 ^ n
below_power zero = omega arith
below_power (suc n) = omega (arith, below_power n, pow-suc 2 n)

-- and a word that has each has all
pub each_has : (h m : ℕ) → ((i : ℕ) → is_member m i ≡ true → is_member h i ≡ true) → has_all h m ≡ true
unfolding has_all
each_has h m each =
    let below = below_power m in
    eq-eqb (bit_and h m) m (same-members m (bit_and h m) m (omega (arith, and_le_r h m)) below (λ i l. member_and h m i ∙ shared i))
  where
    shared : (i : ℕ) → (is_member h i && is_member m i) ≡ is_member m i
    shared i = both_ways _ _ (and_second (is_member h i) (is_member m i)) (λ e. and_both (is_member h i) (is_member m i) (each i e) e)
