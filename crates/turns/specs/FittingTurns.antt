-- What a turn tells of the mode and the byte that it comes from.
use Rattle.std.specs.Prelude.{ℕ, ◌≡◌, Bool, not, ◌&&◌, ◌||◌, leb}
use Rattle.std.proofs.Math.Path.{refl}
use Rattle.std.proofs.Math.Bool.{true, false}
use Rattle.std.proofs.Math.Dec.{eqb}
use Rattle.base.specs.Choice.{pick}
use Rattle.meaning.specs.Notation.{barred, unbarred}
use Rattle.turns.specs.declared.Mode.{Mode}
use Rattle.turns.specs.declared.Mode.TheVariants as mode
use Rattle.turns.specs.declared.Turn.{Turn}
use Rattle.turns.specs.declared.Turn.TheVariants as turn
use Rattle.turns.specs.Turns.{name_turn, slash_turn, branch_turn, second_turn, opened_turn, turn_at}

-- a branch may stand there, in brackets or without
unfoldable pub branching : Mode → Bool
branching mode.Start = true
branching mode.Dot = false
branching mode.Slash = false
branching mode.Slashes = false
branching mode.Opened = false
branching mode.OpenedDot = false
branching mode.OpenedDotSlash = false
branching mode.Ended = true

-- a bracket opens where a branch may stand, and no other turn but a name or a closing bracket leads there; a name begins
-- with * or a byte that isn't barred, and its axis is 0 or 1
unfoldable pub fitting : Mode → ℕ → Turn → Bool
fitting m b turn.Stuck = true
fitting m b (turn.Moves k) = not (branching k)
fitting m b turn.Opens = branching m
fitting m b turn.Closes = true
fitting m b (turn.Names axis) = (eqb b 42 || unbarred b) && leb axis 1

module _ (m : Mode) (b : ℕ) where
  fitting-pick : (t : Bool) (x y : Turn) → fitting m b x ≡ true → fitting m b y ≡ true → fitting m b (pick t x y) ≡ true
  unfolding pick
  fitting-pick true x y h k = h
  fitting-pick false x y h k = k

  fitting-name : (axis : ℕ) → leb axis 1 ≡ true → fitting m b (name_turn b axis) ≡ true
  unfolding name_turn fitting unbarred pick
  fitting-name axis h = go (eqb b 42) (barred b) refl refl
    where
      go : (t u : Bool) → eqb b 42 ≡ t → barred b ≡ u → fitting m b (pick t (turn.Names axis) (pick u turn.Stuck (turn.Names axis))) ≡ true
      go true u e f = rw (e, h) refl
      go false true e f = refl
      go false false e f = rw (e, f, h) refl

  fitting-branch : (z : ℕ) (x : Turn) → branching m ≡ true → fitting m b x ≡ true → fitting m b (branch_turn b z x) ≡ true
  unfolding branch_turn fitting branching
  fitting-branch z x h k =
      fitting-pick (eqb b 47) (turn.Moves mode.Slash) _ refl (fitting-pick (eqb b 91) turn.Opens _ h (fitting-pick (eqb b z) x turn.Stuck k refl))

pub turn-fits : (m : Mode) (b : ℕ) → fitting m b (turn_at m b) ≡ true
unfolding turn_at slash_turn second_turn opened_turn fitting branching
turn-fits mode.Start b = fitting-branch mode.Start b 46 (turn.Moves mode.Dot) refl refl
turn-fits mode.Dot b = refl
turn-fits mode.Slash b = fitting-pick mode.Slash b (eqb b 47) (turn.Moves mode.Slashes) (name_turn b 0) refl (fitting-name mode.Slash b 0 refl)
turn-fits mode.Slashes b = fitting-name mode.Slashes b 1 refl
turn-fits mode.Opened b =
    fitting-pick mode.Opened b (eqb b 47) (turn.Moves mode.Slash) _ refl
    (fitting-pick mode.Opened b (eqb b 46) (turn.Moves mode.OpenedDot) (name_turn b 0) refl (fitting-name mode.Opened b 0 refl))
turn-fits mode.OpenedDot b = fitting-pick mode.OpenedDot b (eqb b 47) (turn.Moves mode.OpenedDotSlash) turn.Stuck refl refl
turn-fits mode.OpenedDotSlash b = fitting-pick mode.OpenedDotSlash b (eqb b 47) (turn.Moves mode.Slashes) turn.Stuck refl refl
turn-fits mode.Ended b = fitting-branch mode.Ended b 93 turn.Closes refl refl
