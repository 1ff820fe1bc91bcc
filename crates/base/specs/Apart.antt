-- Two tests that do not hold together.
use Rattle.std.specs.Prelude.{◌≡◌, refl, Bool, true, false, not, ◌&&◌}
use Rattle.std.proofs.Common.{ap}
use Rattle.std.proofs.lemmas.Bool.{false≢true}
use borrow.Author.Tests as tests

-- a test that cannot hold is false
pub is_false : (a : Bool) → (a ≡ true → ⊥) → a ≡ false
is_false true h = absurd (h refl)
is_false false h = refl

-- how two are shown to be apart
pub apart_of : (a b : Bool) → (a ≡ true → b ≡ false) → not (a && b) ≡ true
apart_of true b h = ap not (h refl)
apart_of false b h = refl

-- what it tells
pub apart-gives : (a b : Bool) → not (a && b) ≡ true → a ≡ true → b ≡ false
apart-gives true b h e = tests.not-true b h
apart-gives false b h e = absurd (false≢true e)
