-- A set is made by marking one member after the other: its members, its bound, and the delivery set of answers. So are the
-- matcher's words, whose members are steps.
use Rattle.std.specs.Prelude.{ℕ, zero, suc, ◌+◌, ◌*◌, ◌/◌, ◌%◌, ◌^◌, ◌<◌, ◌≡◌, refl, Bool, true, false, ◌&&◌, ◌||◌, List, [], ◌∷◌, ◌++◌, eqb, length}
use Rattle.std.proofs.Common.{sym, ap, ◌∙◌, ⊎_elim, arith, pow-suc, eqb-true}
use Rattle.std.proofs.Math.Bool.{or-false}
use Rattle.std.proofs.lemmas.Bool.{eqb-false}
use Rattle.std.specs.Int.Bits.{bit_or, or_shifted_r}
use Rattle.std.proofs.lemmas.Nat.{or_lt}
use Rattle.std.proofs.Math.Pow.{pow-lt}
use Rattle.base.specs.Bools.{true_or_false}
use Rattle.base.specs.Choice.{pick}
use Rattle.meaning.specs.Fair.{is_member}
use Rattle.meaning.specs.Routing.{delivery_set}
use Rattle.laws.specs.MemberBits.{member_first, member_next, member_or, member_alone, delivery_lt}

-- the set with subscription i in it where the answer is yes
unfoldable pub marked : ℕ → ℕ → Bool → ℕ
marked set i said = pick said (bit_or set (2 ^ i)) set

-- its members: those before, and i where the answer is yes
pub member_marked : (set i : ℕ) (said : Bool) (j : ℕ) → is_member (marked set i said) j ≡ (is_member set j || (said && eqb i j))
unfolding marked pick
member_marked set i true j = member_or set (2 ^ i) j ∙ ap (λ (b : Bool). is_member set j || b) (member_alone i j)
member_marked set i false j = sym (or-false (is_member set j))

-- it stays within n subscriptions
pub marked_lt : (n set i : ℕ) (said : Bool) → set < 2 ^ n → i < n → marked set i said < 2 ^ n
unfolding marked pick
marked_lt n set i true h l = or_lt n set (2 ^ i) h (pow-lt l)
marked_lt n set i false h l = h

-- sets of the same members, of n subscriptions, are the same number
pub same-members : (n a b : ℕ) → a < 2 ^ n → b < 2 ^ n → ((i : ℕ) → i < n → is_member a i ≡ is_member b i) → a ≡ b
same-members zero a b h k same = omega arith
same-members (suc n) a b h k same =
    let halves : a / 2 ≡ b / 2 =
    same-members n (a / 2) (b / 2) (omega (arith, pow-suc 2 n)) (omega (arith, pow-suc 2 n))
    (λ i l. sym (member_next a i) ∙ same (suc i) (omega arith) ∙ member_next b i) in
    let odd : a % 2 ≡ b % 2 = bit (a % 2) (b % 2) (omega arith) (omega arith) (sym (member_first a) ∙ same 0 (omega arith) ∙ member_first b) in
    omega arith
  where
    bit : (u v : ℕ) → u < 2 → v < 2 → eqb u 1 ≡ eqb v 1 → u ≡ v
    bit u v p q e =
        ⊎_elim
        (λ t. omega (arith, eqb-true u 1 t, eqb-true v 1 (sym e ∙ t)))
        (λ f. omega (arith, eqb-false u 1 f, eqb-false v 1 (sym e ∙ f)))
        (true_or_false (eqb u 1))

-- one answer more in a delivery set
added : (xs : List Bool) (said : Bool) → delivery_set (xs ++ (said ∷ [])) ≡ delivery_set xs + pick said (2 ^ length xs) 0
unfolding delivery_set pick
added [] true = refl
added [] false = refl
added (x ∷ xs) true = omega (arith, added xs true, pow-suc 2 (length xs))
added (x ∷ xs) false = omega (arith, added xs false)

-- marks its subscription
pub delivery_last : (xs : List Bool) (said : Bool) → delivery_set (xs ++ (said ∷ [])) ≡ marked (delivery_set xs) (length xs) said
unfolding marked pick
delivery_last xs true = added xs true ∙ omega (arith, or_shifted_r 1 (length xs) (delivery_set xs) (delivery_lt xs), ap (bit_or (delivery_set xs)) one)
  where
    one : 1 * 2 ^ length xs ≡ 2 ^ length xs
    one = omega arith
delivery_last xs false = added xs false ∙ omega arith
