-- A byte that is put where it is wanted.
use Rattle.std.specs.Prelude.{ℕ, ◌≡◌, refl, Bool, true, false, List, [], ◌∷◌}
use Rattle.std.proofs.Common.{true≢false}
use Rattle.std.proofs.lemmas.Bool.{false≢true}
use Rattle.texts.specs.PutText.{Written, put_byte, put}

-- the byte, or nothing
unfoldable pub byte_if : Bool → ℕ → List ℕ
byte_if true b = b ∷ []
byte_if false b = []

-- it is put
pub byte_put : (w u : Written) (b : ℕ) (t : Bool) → t ≡ true → u ≡ put_byte w b → u ≡ put w (byte_if t b)
unfolding byte_if put
byte_put w u b true e h = h
byte_put w u b false e h = absurd (false≢true e)

-- it is left out
pub byte-left-out : (w : Written) (b : ℕ) (t : Bool) → t ≡ false → w ≡ put w (byte_if t b)
unfolding byte_if put
byte-left-out w b true e = absurd (true≢false e)
byte-left-out w b false e = refl
