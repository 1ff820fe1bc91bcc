-- What is put into a lent output, from the place on where its next byte goes.
use Rattle.std.specs.Prelude.{ℕ, ◌≡◌, refl, List, [], ◌++◌}
use Rattle.std.proofs.Common.{ap, ◌∙◌}
use Rattle.texts.specs.PutText.{Written, written, put, put_is, put_then, LeftToPut, left-first, left-goes_on, left-stays, left_none}
use Rattle.texts.specs.declared.Text.{Text}

-- the bytes were put, and the output is still the one that was lent
pub record Puts (before after : Text) (bytes : List ℕ) : Type 0 where
  pub same : after.out.ghost_name ≡ before.out.ghost_name
  pub puts : written after.out.now after.at ≡ put (written before.out.now before.at) bytes

module _ {t u : Text} where
  -- the same bytes
  pub puts_is : {xs ys : List ℕ} → ys ≡ xs → Puts t u xs → Puts t u ys
  puts_is e h = record { same = h.same; puts = put_is (written t.out.now t.at) e h.puts }

  -- first some, and then others
  pub puts_then : {v : Text} {xs ys : List ℕ} → Puts t u xs → Puts u v ys → Puts t v (xs ++ ys)
  puts_then {xs = xs} {ys = ys} h k = record { same = k.same ∙ h.same; puts = put_then (written t.out.now t.at) xs ys h.puts k.puts }

  -- all that was put into an output from its start on
  pub puts_all : (old out bytes : List ℕ) → written t.out.now t.at ≡ written old 0 → Puts t u bytes → out ≡ u.out.now
      → written out u.at ≡ put (written old 0) bytes
  puts_all old out bytes e h f = ap (λ (o : List ℕ). written o u.at) f ∙ h.puts ∙ ap (λ (w : Written). put w bytes) e

-- ---- a loop that puts bytes in parts

-- what is left of them, put from here, gives what all of them give from the start
pub record StillToPut (start : Text) (bytes : List ℕ) (now : Text) (left : List ℕ) : Type 0 where
  pub same : now.out.ghost_name ≡ start.out.ghost_name
  pub still : LeftToPut start.out.now start.at bytes now.out.now now.at left

-- at first all of them are left
pub still-first : (t : Text) (bytes : List ℕ) → StillToPut t bytes t bytes
still-first t bytes = record { same = refl; still = left-first }

module _ {start now : Text} {bytes left : List ℕ} where
  -- one part is put
  pub still-goes_on : StillToPut start bytes now left → (part : List ℕ) {others : List ℕ} → left ≡ part ++ others
      → {next : Text} → Puts now next part → StillToPut start bytes next others
  still-goes_on h part e k = record { same = k.same ∙ h.same; still = left-goes_on h.still part e k.puts }

  -- what is left is the same
  pub still-stays : StillToPut start bytes now left → {others : List ℕ} → left ≡ others → StillToPut start bytes now others
  still-stays h e = record { same = h.same; still = left-stays h.still e }

  -- nothing is left
  pub still_none : StillToPut start bytes now left → left ≡ [] → Puts start now bytes
  still_none h e = record { same = h.same; puts = left_none h.still e }
