-- Numbers at a place in bytes, the end, and the number for a place or a fault.
use Rattle.std.specs.Prelude.{ℕ, ◌+◌, ◌*◌, List, leb, length, get_or, Ok, Err, Result}
use Rattle.base.specs.Choice.{pick}
use Rattle.meaning.specs.declared.Refusal.TheVariants.{BytesRemain}
use Rattle.meaning.specs.Numbers.{refusal_number}
use Rattle.meaning.specs.declared.Refusal.{Refusal}

-- what reading at a place gives: the next place, or the first fault
abbrev pub Place : Type 0
Place = Result ℕ Refusal

-- the number of two bytes at x, the low one first
unfoldable pub pair_at : List ℕ → ℕ → ℕ
pair_at s x = get_or s x 0 + 256 * get_or s (x + 1) 0

-- no byte remains
unfoldable pub end_place : List ℕ → ℕ → Place
end_place s x = pick (leb (length s) x) (Ok x) (Err BytesRemain)

-- the number for a place or a fault
unfoldable pub number_at : Place → ℕ
number_at (Ok x) = 0
number_at (Err why) = refusal_number why
