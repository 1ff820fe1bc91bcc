-- The build from the first entries on, and its rounds, counted one by one.
use Prim.Native.Nat.{ℕ, zero, suc, ◌+◌, ◌-◌, ◌≤◌, ◌<◌}
use Rattle.std.specs.Prelude.{◌≡◌, List}
use Rattle.std.proofs.Math.Path.{refl}
use Rattle.std.proofs.Common.{ap}
use native.Mathlib.Omega.{arith}
use borrow.Author.Tests.{le-leb, lt-leb}
use Rattle.base.specs.Choice.{pick}
use Rattle.base.specs.Loops.{split}
use Rattle.meaning.specs.Forest.{Forest}
use Rattle.meaning.specs.Sections.{Entry}
use Rattle.meaning.specs.Building.{steps_together, entries_from, settle, round, Table, rounds_from, build}
use Rattle.laws.specs.Rounds.{round-saves}

-- the build from settled entries on
unfoldable pub build_settled : ℕ → List Entry → Table
build_settled limit settled = rounds_from limit (steps_together settled) settled

-- the build from the first entries on
unfoldable pub build_from : ℕ → List Entry → Table
build_from limit es = build_settled limit (settle es)

-- with one entry for each subscription it is the build
pub build_from_lem : (limit : ℕ) (ps : List Forest) → build_from limit (entries_from 0 ps) ≡ build limit ps
unfolding build_from build_settled build
build_from_lem limit ps = refl

-- so many rounds have made these entries of the settled ones, and what is left of the build gives the whole
pub record InRounds (limit : ℕ) (settled : List Entry) (rounds : ℕ) (es : List Entry) : Type 0 where
  pub few : rounds + steps_together es ≤ steps_together settled
  pub entries : (rounds_from limit (steps_together settled - rounds) es).entries ≡ (build_settled limit settled).entries
  pub count : rounds + (rounds_from limit (steps_together settled - rounds) es).rounds ≡ (build_settled limit settled).rounds

-- before the first round
pub rounds-start : (limit : ℕ) (settled : List Entry) → InRounds limit settled 0 settled
unfolding build_settled
rounds-start limit settled =
    let all : steps_together settled - 0 ≡ steps_together settled = omega arith in
    record { few = omega arith; entries = ap (λ (n : ℕ). (rounds_from limit n settled).entries) all; count = rw all (omega arith) }

module _ {limit : ℕ} {settled : List Entry} {rounds : ℕ} {es : List Entry} (z : InRounds limit settled rounds es) where
  -- above the limit there is one round more
  pub rounds-go_on : limit < steps_together es → InRounds limit settled (rounds + 1) (round es)
  unfolding rounds_from pick
  rounds-go_on h =
      let left : steps_together settled - rounds ≡ suc (steps_together settled - (rounds + 1)) = split (steps_together settled) rounds (omega (arith, z.few)) in
      let over = lt-leb (steps_together es) limit h in
      let counted : rounds + suc (rounds_from limit (steps_together settled - (rounds + 1)) (round es)).rounds ≡ (build_settled limit settled).rounds =
      rw (left, over) at z.count in
      record { few = omega (arith, z.few, round-saves es (omega arith)); entries = rw (left, over) at z.entries; count = omega arith }

  -- within it there is none
  stops : (n : ℕ) → steps_together es ≤ limit → rounds_from limit n es ≡ record { entries = es; rounds = 0 }
  unfolding rounds_from pick
  stops zero h = refl
  stops (suc n) h = rw (le-leb (steps_together es) limit h)

  -- so the entries and the rounds are those of the build
  pub rounds-end : steps_together es ≤ limit → (es ≡ (build_settled limit settled).entries) × (rounds ≡ (build_settled limit settled).rounds)
  rounds-end h =
      let e = stops (steps_together settled - rounds) h in
      let counted : rounds + 0 ≡ (build_settled limit settled).rounds = rw e at z.count in
      (rw e at z.entries, omega arith)
