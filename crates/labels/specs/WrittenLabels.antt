-- The bytes that no label of a line has, one by one.
use Rattle.std.specs.Prelude.{ℕ, ◌≤◌, ◌<◌, ◌≡◌, true, false, ◌⊎◌}
use Rattle.std.proofs.Common.{sym, ap, inl, inr, ⊎_elim, arith, eq-or-lt_of_le, ne_eqb}
use Rattle.base.specs.Lists.{some}
use Rattle.meaning.specs.PatternText.{ascii}
use Rattle.meaning.specs.Notation.{barred}

-- those that stand alone; the others are 46 and 47
abbrev pub Alone : ℕ → Type 0
Alone b = (b ≡ 10) ⊎ ((b ≡ 42) ⊎ ((b ≡ 91) ⊎ (b ≡ 93)))

pub alone-barred : (b : ℕ) → Alone b → true ≡ barred b
unfolding barred some ascii
alone-barred b = ⊎_elim (λ e. ap barred (sym e)) (⊎_elim (λ e. ap barred (sym e)) (⊎_elim (λ e. ap barred (sym e)) (λ e. ap barred (sym e))))

pub two-barred : (b : ℕ) → 46 ≤ b → b < 48 → true ≡ barred b
unfolding barred some ascii
two-barred b h l = ⊎_elim (λ e. ap barred e) (λ m. let e : 47 ≡ b = omega arith in ap barred e) (eq-or-lt_of_le h)

-- every other byte may stand in one
pub not_barred : (b : ℕ) → (Alone b → ⊥) → (b ≡ 46 → ⊥) → (b ≡ 47 → ⊥) → false ≡ barred b
unfolding barred some ascii
not_barred b h k l =
    sym (rw (
      ne_eqb b 47 l,
      ne_eqb b 42 (λ e. h (inr (inl e))),
      ne_eqb b 91 (λ e. h (inr (inr (inl e)))),
      ne_eqb b 93 (λ e. h (inr (inr (inr e)))),
      ne_eqb b 46 k,
      ne_eqb b 10 (λ e. h (inl e)),
    ))
