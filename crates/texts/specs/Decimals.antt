-- A number in decimal: its last digit stands after those of its tenth, and how many digits it has at most.
use Rattle.std.specs.Prelude.{ℕ, zero, suc, ◌+◌, ◌*◌, ◌/◌, ◌%◌, ◌^◌, ◌≤◌, ◌<◌, ◌≡◌, refl, Bool, true, false, List, [], ◌∷◌, ◌++◌, ltb, length}
use Rattle.std.proofs.Common.{sym, ap, ◌∙◌, arith, pow-suc, lt-ltb, le-ltb, ltb-true, ltb-false, length-append}
use Rattle.base.specs.Choice.{pick}
use Rattle.meaning.specs.Printing.{decimal_in, decimal}
use Rattle.texts.specs.PutText.{Written, put_byte, put, put_one, put_then}

-- more digits than it can have change nothing
enough : (j k n : ℕ) → n < j → n < k → decimal_in j n ≡ decimal_in k n
unfolding decimal_in pick
enough zero k n h l = absurd (omega arith)
enough (suc j) zero n h l = absurd (omega arith)
enough (suc j) (suc k) n h l = go (ltb n 10) refl (enough j k (n / 10))
  where
    go : (t : Bool) → ltb n 10 ≡ t → (n / 10 < j → n / 10 < k → decimal_in j (n / 10) ≡ decimal_in k (n / 10))
        → pick t ((48 + n) ∷ []) (decimal_in j (n / 10) ++ ((48 + n % 10) ∷ [])) ≡ pick t ((48 + n) ∷ []) (decimal_in k (n / 10) ++ ((48 + n % 10) ∷ []))
    go true e higher = refl
    go false e higher =
        let big : 10 ≤ n = ltb-false n 10 e in
        ap (λ (ds : List ℕ). ds ++ ((48 + n % 10) ∷ [])) (higher (omega arith) (omega arith))

-- one digit
pub decimal_digit : (n : ℕ) → n < 10 → decimal n ≡ (48 + n) ∷ []
unfolding decimal decimal_in pick
decimal_digit n h = rw (lt-ltb n 10 h)

-- the digits of its tenth, and the last
pub decimal-last : (n : ℕ) → 10 ≤ n → decimal n ≡ decimal (n / 10) ++ ((48 + n % 10) ∷ [])
unfolding decimal decimal_in pick
decimal-last n h =
    rw (le-ltb n 10 h) (ap (λ (ds : List ℕ). ds ++ ((48 + n % 10) ∷ [])) (enough n (suc (n / 10)) (n / 10) (omega arith) (omega arith)))

-- one digit is put
pub digit-put : (w u : Written) (n : ℕ) → n < 10 → u ≡ put_byte w (48 + n) → u ≡ put w (decimal n)
digit-put w u n h e = e ∙ put_one w (48 + n) ∙ ap (put w) (sym (decimal_digit n h))

-- the digits of the tenth are put, and the last
pub last-put : (w v u : Written) (n : ℕ) → 10 ≤ n → v ≡ put w (decimal (n / 10)) → u ≡ put_byte v (48 + n % 10) → u ≡ put w (decimal n)
last-put w v u n h f e =
    put_then w (decimal (n / 10)) ((48 + n % 10) ∷ []) f (e ∙ put_one v (48 + n % 10)) ∙ ap (put w) (sym (decimal-last n h))

-- below a power of ten, no more digits than its exponent
pub digits : (d n : ℕ) → n < 10 ^ suc d → length (decimal n) ≤ suc d
digits zero n h = omega (arith, ap length (decimal_digit n h))
digits (suc d) n h = go (ltb n 10) refl (digits d (n / 10) (let l : n < 10 ^ suc d * 10 = rw pow-suc at h in omega arith))
  where
    go : (t : Bool) → ltb n 10 ≡ t → length (decimal (n / 10)) ≤ suc d → length (decimal n) ≤ suc (suc d)
    go true e l = omega (arith, ap length (decimal_digit n (ltb-true n 10 e)))
    go false e l = omega (arith, ap length (decimal-last n (ltb-false n 10 e)), length-append (decimal (n / 10)) ((48 + n % 10) ∷ []))
