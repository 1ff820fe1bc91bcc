-- `merging::built` meets its contract: nothing is kept yet, and the notes are those of both questions.
use mathlib.Core.Path.{refl}
use native.Mathlib.Omega.{arith}
use Rattle.merging.specs.Bodies.{nothing_known}
use Rattle.merging.proofs.built.Goals as goal

-- the search finds the notes that fit the order of the two
pub build_at-requires : goal.build_at-requires
build_at-requires c =
    let onto = c.requires.2 in
    let from = c.requires.3 in (
      record { first = refl; second = refl; bodies = nothing_known _ _; onto = search (onto, from); from = search (onto, from) },
      omega arith,
      omega arith,
      omega arith,
    )

pub returns : goal.returns
returns c = c.build_at.ensures.0
