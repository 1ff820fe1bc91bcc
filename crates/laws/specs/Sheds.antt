-- The sheds of a delivery set: how many get a notice, and the lowest of them.
use Rattle.std.specs.Prelude.{ℕ, zero, suc, ◌+◌, ◌/◌, ◌≤◌, ◌≡◌, refl, Bool, true, false, List, [], ◌∷◌, length}
use Rattle.std.proofs.Common.{◌∙◌, ap, ap₂, arith}
use Rattle.std.specs.Int.Count.{ones, ones_step, count_trailing_zeros, trailing_of_zero, under}
use Rattle.base.specs.Choice.{pick}
use Rattle.base.specs.Lists.{total}
use Rattle.meaning.specs.Routing.{delivery_set, sheds_in, lowest_shed}
use Rattle.laws.specs.MemberBits.{delivery_half, delivery_odd}

-- 1 for yes
unfoldable pub yes_count : Bool → ℕ
yes_count said = pick said 1 0

-- as many sheds get a notice as answers are yes
pub sheds_are_yeses : (bs : List Bool) → sheds_in (delivery_set bs) ≡ total yes_count bs
unfolding sheds_in delivery_set total yes_count ones
sheds_are_yeses [] = refl
sheds_are_yeses (b ∷ bs) =
    ones_step (delivery_set (b ∷ bs)) ∙ ap₂ (λ (x y : ℕ). x + y) (delivery_odd b bs) (ap ones (delivery_half b bs) ∙ sheds_are_yeses bs)

-- the place of the first yes, where the answers are numbered from i on, or another number where there is none
unfoldable pub first_yes : ℕ → ℕ → List Bool → ℕ
first_yes otherwise i [] = otherwise
first_yes otherwise i (true ∷ bs) = i
first_yes otherwise i (false ∷ bs) = first_yes otherwise (suc i) bs

-- the zeros below the first yes, among n bits, count its place
zeros_below : (n i : ℕ) (bs : List Bool) → length bs ≤ n → count_trailing_zeros n (delivery_set bs) + i ≡ first_yes (n + i) i bs
unfolding count_trailing_zeros first_yes pick delivery_set
zeros_below n i [] h = ap (λ (x : ℕ). x + i) (trailing_of_zero n)
zeros_below zero i (b ∷ bs) h = absurd (omega arith)
zeros_below (suc n) i (true ∷ bs) h = ap (λ (d : ℕ). under d (count_trailing_zeros n (delivery_set (true ∷ bs) / 2)) + i) (delivery_odd true bs) ∙ omega arith
zeros_below (suc n) i (false ∷ bs) h =
    let next : suc (count_trailing_zeros n (delivery_set bs)) + i ≡ count_trailing_zeros n (delivery_set bs) + suc i = omega arith in
    let all : n + suc i ≡ suc n + i = omega arith in
    ap₂ (λ (d m : ℕ). under d (count_trailing_zeros n m) + i) (delivery_odd false bs) (delivery_half false bs)
    ∙ next ∙ zeros_below n (suc i) bs (omega arith) ∙ ap (λ (m : ℕ). first_yes m (suc i) bs) all

-- the lowest shed is the first that gets a notice, 64 when there is none
pub lowest_is_first : (bs : List Bool) → length bs ≤ 64 → lowest_shed (delivery_set bs) ≡ first_yes 64 0 bs
unfolding lowest_shed
lowest_is_first bs h =
    let plain : count_trailing_zeros 64 (delivery_set bs) ≡ count_trailing_zeros 64 (delivery_set bs) + 0 = omega arith in
    plain ∙ zeros_below 64 0 bs h
