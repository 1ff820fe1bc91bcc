-- `merging::merge` meets its contract: one covers the other, or it is built at the roots, with the notes of both questions.
use mathlib.Core.Bool.{true}
use Rattle.covering.specs.PairNotes.{nothing-noted}
use Rattle.merging.specs.Merges.{merges-first, merges-second, merges-built}
use Rattle.merging.proofs.merge.Goals as goal

pub covers_noting-requires : goal.covers_noting-requires
covers_noting-requires c =
    nothing-noted _ _ c.requires.0 c.requires.1

pub returns-then-covers_noting : goal.returns-then-covers_noting
returns-then-covers_noting c =
    merges-first _ _ _ true c.covers_noting.ensures.0 c.requires.0 c.if-covers_noting.true

pub covers_noting-requires-2 : goal.covers_noting-requires-2
covers_noting-requires-2 c =
    nothing-noted _ _ c.requires.1 c.requires.0

pub returns-then-covers_noting-2 : goal.returns-then-covers_noting-2
returns-then-covers_noting-2 c =
    merges-second _ _ _ _ c.covers_noting.ensures.0 c.if-covers_noting.false c.covers_noting-2.ensures.0 c.requires.1 c.if-covers_noting-2.true

pub built-requires : goal.built-requires
built-requires c =
    let onto = c.covers_noting.ensures.1 in
    let from = c.covers_noting-2.ensures.1 in
    (c.requires.0, c.requires.1, onto, from)

pub returns : goal.returns
returns c =
    merges-built _ _ _ _ c.covers_noting.ensures.0 c.if-covers_noting.false c.covers_noting-2.ensures.0 c.if-covers_noting-2.false _ c.built.ensures
