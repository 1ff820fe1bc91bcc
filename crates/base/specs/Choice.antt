-- The choice between two values, and the laws by which each return of a function is shown to be the one chosen.
use Rattle.std.specs.Prelude.{◌≡◌, Bool}
use Rattle.std.proofs.Math.Bool.{true, false}
use Rattle.std.proofs.Common.{true≢false, lt-ltb, le-ltb, le-leb, eq-eqb, ne_eqb}
use Rattle.std.proofs.lemmas.Bool.{false≢true, lt-leb}

-- the first where the test holds, otherwise the second
unfoldable pub pick {ℓ} : {A : Type ℓ} → Bool → A → A → A
pick true x y = x
pick false x y = y

module _ {ℓ} {A : Type ℓ} where
  pub pick_true : (v x y : A) (b : Bool) → b ≡ true → v ≡ x → v ≡ pick b x y
  unfolding pick
  pick_true v x y true e h = h
  pick_true v x y false e h = absurd (false≢true e)

  pub pick_false : (v x y : A) (b : Bool) → b ≡ false → v ≡ y → v ≡ pick b x y
  unfolding pick
  pick_false v x y true e h = absurd (true≢false e)
  pick_false v x y false e h = h

-- each return of a function without a loop: `search picks depth 15`, under `unfolding` the definition that it answers
pub ruleset picks = (pick_true, pick_false, lt-ltb, le-ltb, le-leb, lt-leb, eq-eqb, ne_eqb)
