-- Numbers of several bytes, the low byte first, by their place.
use Prim.Native.Nat.{ℕ, zero, suc, ◌+◌, ◌*◌, ◌-◌, ◌≤◌, ◌<◌}
use Rattle.std.specs.Prelude.{◌≡◌, Bool, ◌&&◌, List, leb, ltb, length, get_or, drop}
use Rattle.std.proofs.Math.Path.{refl, ap}
use Rattle.std.proofs.Common.{sym, ◌∙◌, ltb-true, leb-true, le-leb, lt-ltb}
use Rattle.std.proofs.Math.Bool.{true, false}
use Rattle.std.proofs.Math.Dec.{leb-zero}
use Rattle.std.proofs.Math.ListN.{get_or-eq_default}
use native.Mathlib.Omega.{arith}
use Rattle.std.proofs.Math.Nat.{add-zero}
use Rattle.base.specs.Bools.{both_ways, and_first, and_second, and_both}
use Rattle.base.specs.Choice.{pick}
use Rattle.meaning.specs.Reader.{Reading, read, refused, Reader, go_on, ◌>>=◌, give, number}
use Rattle.places.specs.Bytes.{pair_at}
use Rattle.places.specs.Answer.{then_byte, go_on-pick, two}
use Rattle.meaning.specs.declared.Refusal.TheVariants.{EndsEarly}

-- the number of n bytes at a place, the low byte first
unfoldable pub number_in : List ℕ → ℕ → ℕ → ℕ
number_in s at zero = 0
number_in s at (suc n) = get_or s at 0 + 256 * number_in s (at + 1) n

module _ (s : List ℕ) where
  -- there are n + 1 bytes if there is one and then n
  one_and_more : (n at : ℕ) → (ltb at (length s) && leb n (length s - (at + 1))) ≡ leb (suc n) (length s - at)
  one_and_more n at =
      both_ways _ _
      (λ h. both (ltb-true _ _ (and_first _ _ h)) (leb-true _ _ (and_second (ltb at (length s)) _ h)))
      (λ h. and_both _ _ (lt-ltb _ _ (first (leb-true _ _ h))) (le-leb _ _ (second (leb-true _ _ h))))
    where
      both : at < length s → n ≤ length s - (at + 1) → leb (suc n) (length s - at) ≡ true
      both a b = le-leb (suc n) (length s - at) (omega arith)

      first : suc n ≤ length s - at → at < length s
      first h = omega arith

      second : suc n ≤ length s - at → n ≤ length s - (at + 1)
      second h = omega arith

  -- a number of n bytes, where there are so many
  pub number_at : (n at : ℕ) → number n (drop at s) ≡ pick (leb n (length s - at)) (read (number_in s at n) (drop (at + n) s)) (refused EndsEarly)
  unfolding number number_in give ◌>>=◌ pick go_on
  number_at zero at = rw (leb-zero (length s - at), add-zero at)
  number_at (suc n) at =
      then_byte s at _ ∙ rw (number_at n (at + 1), ← (one_and_more n at), ← further) (go (ltb at (length s)) (leb n (length s - (at + 1))))
    where
      further : at + 1 + n ≡ at + suc n
      further = omega arith

      go : (a b : Bool) → pick a
          (go_on (pick b (read (number_in s (at + 1) n) (drop (at + 1 + n) s)) (refused EndsEarly)) (λ high. give (get_or s at 0 + 256 * high)))
          (refused EndsEarly)
          ≡ pick (a && b) (read (get_or s at 0 + 256 * number_in s (at + 1) n) (drop (at + 1 + n) s)) (refused EndsEarly)
      go true true = refl
      go true false = refl
      go false b = refl

module _ {B : Type 0} (s : List ℕ) where
  -- read on after a number
  pub then_number : (n at : ℕ) (next : ℕ → Reader B)
      → ◌>>=◌ (number n) next (drop at s) ≡ pick (leb n (length s - at)) (next (number_in s at n) (drop (at + n) s)) (refused EndsEarly)
  unfolding ◌>>=◌ go_on pick
  then_number n at next = ap (λ (r : Reading ℕ). go_on r next) (number_at s n at) ∙ go (leb n (length s - at))
    where
      go : (b : Bool) → go_on (pick b (read (number_in s at n) (drop (at + n) s)) (refused EndsEarly)) next
          ≡ pick b (next (number_in s at n) (drop (at + n) s)) (refused EndsEarly)
      go true = refl
      go false = refl

-- of two bytes, each of which is looked for
pub then_pair : {B : Type 0} (s : List ℕ) (x : ℕ) (next : ℕ → Reader B)
    → ◌>>=◌ (number 2) next (drop x s)
    ≡ pick (ltb x (length s)) (pick (ltb (x + 1) (length s)) (next (pair_at s x) (drop (x + 2) s)) (refused EndsEarly)) (refused EndsEarly)
unfolding number pair_at ◌>>=◌ give go_on
then_pair s x next = simp (then_byte, go_on-pick, add-zero, two)

-- two bytes and what is above them
two_bytes : (s : List ℕ) (x n : ℕ) → number_in s x (suc (suc n)) ≡ pair_at s x + 65536 * number_in s (x + 2) n
unfolding number_in pair_at
two_bytes s x n =
    let further : x + 1 + 1 ≡ x + 2 = omega arith in
    rw further (omega arith)

-- eight bytes are four pairs
pub eight_bytes : (s : List ℕ) (x : ℕ) → pair_at s x + 65536 * (pair_at s (x + 2) + 65536 * (pair_at s (x + 4) + 65536 * pair_at s (x + 6))) ≡ number_in s x 8
unfolding number_in
eight_bytes s x =
    let four : x + 2 + 2 ≡ x + 4 = omega arith in
    let six : x + 4 + 2 ≡ x + 6 = omega arith in
    let d : number_in s (x + 6) 2 ≡ pair_at s (x + 6) = two_bytes s (x + 6) 0 ∙ omega arith in
    let c : number_in s (x + 4) 4 ≡ pair_at s (x + 4) + 65536 * number_in s (x + 6) 2 = two_bytes s (x + 4) 2 ∙ rw six in
    let b : number_in s (x + 2) 6 ≡ pair_at s (x + 2) + 65536 * number_in s (x + 4) 4 = two_bytes s (x + 2) 4 ∙ rw four in
    sym (two_bytes s x 6 ∙ rw (b, c, d))

-- past the end there is nothing
pub number_past : (s : List ℕ) (x n : ℕ) → length s ≤ x → 0 ≡ number_in s x n
unfolding number_in
number_past s x zero h = refl
number_past s x (suc n) h = omega (arith, get_or-eq_default s 0 h, number_past s (x + 1) n (omega arith))

-- nor of two bytes
pub pair-past : (s : List ℕ) (x : ℕ) → length s ≤ x → 0 ≡ pair_at s x
unfolding pair_at
pair-past s x h = omega (arith, get_or-eq_default s 0 h, get_or-eq_default s 0 {n = x + 1} (omega arith))
