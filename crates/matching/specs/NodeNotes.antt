-- The notes: one word for each node, and for the top, in which bit k - 1 is step k. The masks are laid out alike.
use Rattle.std.specs.Prelude.{ℕ, zero, suc, ◌≤◌, ◌<◌, ◌≡◌, refl, Bool, true, false, ◌&&◌, ◌||◌, List, eqb, length, get_or, set, replicate}
use Rattle.std.proofs.Common.{sym, ap, ◌∙◌, eqb-true, get_or-set_same, get_or-set_other}
use Rattle.std.proofs.Math.Bool.{or-false}
use Rattle.std.proofs.lemmas.Bool.{eqb-false}
use Rattle.std.specs.Int.Bits.{bit_or}
use Rattle.meaning.specs.Fair.{is_member}
use Rattle.meaning.specs.declared.Step.{Step}
use Rattle.laws.specs.MemberBits.{member_none, member_or}

-- k is the number of one of the steps, which are counted from 1
pub record StepNumber (ss : List Step) (k : ℕ) : Type 0 where
  pub low : 1 ≤ k
  pub high : k ≤ length ss

-- a word has step k: bit k - 1 is set
unfoldable pub has_step : ℕ → ℕ → Bool
has_step word zero = false
has_step word (suc i) = is_member word i

-- it is noted that step k holds below node t
unfoldable pub noted : List ℕ → ℕ → ℕ → Bool
noted words t k = has_step (get_or words t 0) k

-- every word of zeros is 0, and so is any behind their end
all_zero : (n t : ℕ) → get_or {A = ℕ} (replicate n 0) t 0 ≡ 0
all_zero zero t = refl
all_zero (suc n) zero = refl
all_zero (suc n) (suc t) = all_zero n t

-- before anything is noted nothing is
pub blank-noted : (n t k : ℕ) → noted (replicate n 0) t k ≡ false
unfolding noted has_step
blank-noted n t zero = refl
blank-noted n t (suc i) = ap (λ (w : ℕ). is_member w i) (all_zero n t) ∙ member_none i

-- a word takes the steps of another
steps_or : (a b k : ℕ) → has_step (bit_or a b) k ≡ (has_step a k || has_step b k)
unfolding has_step
steps_or a b zero = refl
steps_or a b (suc i) = member_or a b i

-- noted afterwards, where the word of node t takes the steps of another: what was noted before, and below t those steps
pub noted_too : (words : List ℕ) (t w : ℕ) → t < length words → (t' k : ℕ)
    → noted (set words t (bit_or (get_or words t 0) w)) t' k ≡ (noted words t' k || (eqb t t' && has_step w k))
unfolding noted
noted_too words t w h t' k = go (eqb t t') refl
  where
    go : (b : Bool) → eqb t t' ≡ b → has_step (get_or (set words t (bit_or (get_or words t 0) w)) t' 0) k ≡ (has_step (get_or words t' 0) k || (b && has_step w k))
    go true e =
        let here : t ≡ t' = eqb-true t t' e in
        rw (← here) (ap (λ (v : ℕ). has_step v k) (get_or-set_same words t (bit_or (get_or words t 0) w) 0 h) ∙ steps_or (get_or words t 0) w k)
    go false e =
        ap (λ (v : ℕ). has_step v k) (get_or-set_other words t t' (bit_or (get_or words t 0) w) 0 (λ s. eqb-false t t' e (sym s)))
        ∙ sym (or-false (has_step (get_or words t' 0) k))
