-- The bytes of members, the low byte first: how many, one after another, and those that a number has in memory.
use Rattle.std.specs.Prelude.{ℕ, zero, suc, ◌+◌, ◌-◌, ◌/◌, ◌%◌, ◌≤◌, ◌<◌, ◌≡◌, refl, [], ◌∷◌, ◌++◌, length}
use Rattle.std.proofs.Common.{ap}
use Rattle.std.proofs.Math.Nat.{div-div-eq-div-mul}
use Rattle.std.specs.Int.{to_le_bytes, w64}
use Rattle.base.specs.Loops.{split, none_left}
use Rattle.meaning.specs.Written.{number_bytes}

-- as many bytes as are asked for
pub length-number_bytes : (n x : ℕ) → length (number_bytes n x) ≡ n
unfolding number_bytes
length-number_bytes zero x = refl
length-number_bytes (suc n) x = ap suc (length-number_bytes n (x / 256))

-- the low byte, and then the bytes of the rest
pub number-goes_on : (n k x : ℕ) → k < n → number_bytes (n - k) x ≡ (x % 256 ∷ []) ++ number_bytes (n - (k + 1)) (x / 256)
unfolding number_bytes
number-goes_on n k x h = rw (split n k h)

-- no byte is left
pub number-end : (n k x : ℕ) → n ≤ k → number_bytes (n - k) x ≡ []
unfolding number_bytes
number-end n k x h = rw (none_left n k h)

-- eight of them are those that the number has in memory
pub members_in_memory : (x : ℕ) → to_le_bytes w64 x ≡ number_bytes 8 x
unfolding number_bytes
members_in_memory x = simp div-div-eq-div-mul
