-- What one byte of a line does, as the code asks for it, and that this is the next stand of the definition.
use Rattle.std.specs.Prelude.{ℕ, ◌≡◌, Bool, eqb}
use Prim.Native.Char.{code}
use Rattle.std.proofs.Math.Path.{refl, ap}
use Rattle.std.proofs.Common.{◌∙◌, eqb-true}
use Rattle.std.proofs.Math.Bool.{true, false}
use Rattle.base.specs.Choice.{pick}
use Rattle.base.specs.Lists.{some}
use Rattle.meaning.specs.Forest.{Axis, near, axis_of}
use Rattle.meaning.specs.PatternText.{ascii}
use Rattle.meaning.specs.Notation.{barred}
use Rattle.meaning.specs.Lines.{at_start, at_dot, at_slash, at_slashes, opened, opened_dot, opened_dot_slash, ended, Stand}
use Rattle.meaning.specs.Lines.{Next, stuck, to, moved, opens_here, closes, name_or, slash_or, branch_or, after_name, next_in}
use Rattle.meaning.specs.Lines
use Rattle.turns.specs.declared.Mode.{Mode}
use Rattle.turns.specs.declared.Mode.TheVariants as mode
use Rattle.turns.specs.declared.Turn.{Turn}
use Rattle.turns.specs.declared.Turn.TheVariants as turn

-- a name begins, with its axis
unfoldable pub name_turn : ℕ → ℕ → Turn
name_turn b axis = pick (eqb b (code "*")) (turn.Names axis) (pick (barred b) turn.Stuck (turn.Names axis))

-- a slash leads on
unfoldable pub slash_turn : ℕ → Mode → Turn
slash_turn b m = pick (eqb b (code "/")) (turn.Moves m) turn.Stuck

-- a branch begins, or it is the byte z, which does its own turn
unfoldable pub branch_turn : ℕ → ℕ → Turn → Turn
branch_turn b z x = pick (eqb b (code "/")) (turn.Moves mode.Slash) (pick (eqb b (code "[")) turn.Opens (pick (eqb b z) x turn.Stuck))

-- after a slash
unfoldable pub second_turn : ℕ → Turn
second_turn b = pick (eqb b (code "/")) (turn.Moves mode.Slashes) (name_turn b 0)

-- after an opening bracket
unfoldable pub opened_turn : ℕ → Turn
opened_turn b = pick (eqb b (code "/")) (turn.Moves mode.Slash) (pick (eqb b (code ".")) (turn.Moves mode.OpenedDot) (name_turn b 0))

unfoldable pub turn_at : Mode → ℕ → Turn
turn_at mode.Start b = branch_turn b (code ".") (turn.Moves mode.Dot)
turn_at mode.Dot b = turn.Stuck
turn_at mode.Slash b = second_turn b
turn_at mode.Slashes b = name_turn b 1
turn_at mode.Opened b = opened_turn b
turn_at mode.OpenedDot b = slash_turn b mode.OpenedDotSlash
turn_at mode.OpenedDotSlash b = slash_turn b mode.Slashes
turn_at mode.Ended b = branch_turn b (code "]") turn.Closes

-- at the start and after a name, by the bytes as the code has them
pub start-turn : (b : ℕ) → branch_turn b 46 (turn.Moves mode.Dot) ≡ turn_at mode.Start b
unfolding turn_at
start-turn b = refl

pub ended-turn : (b : ℕ) → branch_turn b 93 turn.Closes ≡ turn_at mode.Ended b
unfolding turn_at
ended-turn b = refl

-- ---- what the definition does then

unfoldable pub mode_of : Mode → Lines.Mode
mode_of mode.Start = at_start
mode_of mode.Dot = at_dot
mode_of mode.Slash = at_slash
mode_of mode.Slashes = at_slashes
mode_of mode.Opened = opened
mode_of mode.OpenedDot = opened_dot
mode_of mode.OpenedDotSlash = opened_dot_slash
mode_of mode.Ended = ended

unfoldable pub act : Turn → ℕ → Stand → Next
act turn.Stuck b c = stuck
act (turn.Moves m) b c = to (moved (mode_of m) c)
act turn.Opens b c = to (opens_here c)
act turn.Closes b c = closes c.opens c
act (turn.Names axis) b c = name_or (axis_of axis) b c stuck

-- a name and nothing else, by its two tests
name_shape : (t u : Bool) (x y : Next) → pick u (pick t x stuck) y ≡ pick t (pick u (pick t x stuck) y) (pick u stuck (pick u (pick t x stuck) y))
unfolding pick
name_shape true u x y = refl
name_shape false true x y = refl
name_shape false false x y = refl

module _ (b : ℕ) (c : Stand) where
  act-pick : (t : Bool) (x y : Turn) → pick t (act x b c) (act y b c) ≡ act (pick t x y) b c
  unfolding pick
  act-pick true x y = refl
  act-pick false x y = refl

  -- three tests, one after the other
  act-picks : (t u v : Bool) (x y z : Turn)
      → pick t (act x b c) (pick u (act y b c) (pick v (act z b c) stuck)) ≡ act (pick t x (pick u y (pick v z turn.Stuck))) b c
  unfolding pick act
  act-picks true u v x y z = refl
  act-picks false true v x y z = refl
  act-picks false false true x y z = refl
  act-picks false false false x y z = refl

  -- where nothing else may stand there, a name
  name-next : (axis : ℕ) (otherwise : Next) → otherwise ≡ stuck → name_or (axis_of axis) b c otherwise ≡ act (name_turn b axis) b c
  unfolding name_turn name_or act
  name-next axis otherwise e =
      let inner = act-pick (barred b) turn.Stuck (turn.Names axis) in
      rw e (name_shape (eqb b (code "*")) (barred b) _ _ ∙ ap (pick (eqb b (code "*")) (name_or (axis_of axis) b c stuck)) inner
      ∙ act-pick (eqb b (code "*")) (turn.Names axis) (pick (barred b) turn.Stuck (turn.Names axis)))

  -- / stands for itself, where otherwise a name does
  slash-first : (e : b ≡ code "/") (a : Axis) (x : Next) → name_or a b c x ≡ x
  unfolding name_or barred some ascii pick
  slash-first e a x = rw e refl

  dot-first : (e : b ≡ code ".") (a : Axis) (x : Next) → name_or a b c x ≡ x
  unfolding name_or barred some ascii pick
  dot-first e a x = rw e refl

  slash-next : (t : Bool) → eqb b (code "/") ≡ t
      → name_or near b c (pick t (to (moved at_slashes c)) stuck) ≡ act (pick t (turn.Moves mode.Slashes) (name_turn b 0)) b c
  unfolding pick axis_of act mode_of
  slash-next true e = slash-first (eqb-true b (code "/") e) near (to (moved at_slashes c))
  slash-next false e = name-next 0 stuck refl

  opened-next : (t u : Bool) → eqb b (code "/") ≡ t → eqb b (code ".") ≡ u
      → name_or near b c (pick t (to (moved at_slash c)) (pick u (to (moved opened_dot c)) stuck))
      ≡ act (pick t (turn.Moves mode.Slash) (pick u (turn.Moves mode.OpenedDot) (name_turn b 0))) b c
  unfolding pick axis_of act mode_of
  opened-next true u e f = slash-first (eqb-true b (code "/") e) near (to (moved at_slash c))
  opened-next false true e f = dot-first (eqb-true b (code ".") f) near (to (moved opened_dot c))
  opened-next false false e f = name-next 0 stuck refl

  -- what the code asks for is what follows
  pub turn-next : (m : Mode) → next_in (mode_of m) b c ≡ act (turn_at m b) b c
  unfolding next_in mode_of turn_at branch_turn slash_turn second_turn opened_turn branch_or slash_or after_name act axis_of
  turn-next mode.Start = act-picks (eqb b (code "/")) (eqb b (code "[")) (eqb b (code ".")) (turn.Moves mode.Slash) turn.Opens (turn.Moves mode.Dot)
  turn-next mode.Dot = refl
  turn-next mode.Slash = slash-next (eqb b (code "/")) refl
  turn-next mode.Slashes = name-next 1 stuck refl
  turn-next mode.Opened = opened-next (eqb b (code "/")) (eqb b (code ".")) refl refl
  turn-next mode.OpenedDot = act-pick (eqb b (code "/")) (turn.Moves mode.OpenedDotSlash) turn.Stuck
  turn-next mode.OpenedDotSlash = act-pick (eqb b (code "/")) (turn.Moves mode.Slashes) turn.Stuck
  turn-next mode.Ended = act-picks (eqb b (code "/")) (eqb b (code "[")) (eqb b (code "]")) (turn.Moves mode.Slash) turn.Opens turn.Closes
