-- `offering::offer` meets its contract: skipped, put last, or left out.
use native.Mathlib.Omega.{arith}
use Rattle.offering.specs.Branches.{copied-beside}
use Rattle.offering.specs.Offers.{IsBranch, skips_it, puts_it, leaves_it}
use Rattle.offering.proofs.offer.Goals as goal

pub covers-requires : goal.covers-requires
unfolding IsBranch
covers-requires c = (c.requires.2.0, c.requires.0)

pub returns-then-covers : goal.returns-then-covers
returns-then-covers c =
    let s = c.requires in
    skips_it _ _ _ s.0 s.1 s.2 _ c.covers.ensures c.if-covers.true

pub stays-stay-requires : goal.stays-stay-requires
unfolding IsBranch
stays-stay-requires c = (c.requires.0, c.requires.2.0)

pub overflow_add-own-2 : goal.overflow_add-own-2
unfolding IsBranch
overflow_add-own-2 c = omega (arith, c.stays-stay.ensures.sound.few, c.requires.2.0.few)

pub copied-requires : goal.copied-requires
unfolding IsBranch
copied-requires c =
    let y = c.stays-stay.ensures in
    (c.requires.2.0, y.sound.full, omega arith, omega arith)

pub returns-then-own-stay-le-MOST_STEPS : goal.returns-then-own-stay-le-MOST_STEPS
returns-then-own-stay-le-MOST_STEPS c =
    let stay = c.stays-stay.ensures in
    let s = c.requires in
    let put = copied-beside _ _ _ stay.sound c.copied.ensures in
    puts_it _ _ _ s.0 s.1 s.2 _ c.covers.ensures _ stay c.if-covers.false c.if-own-stay-le-MOST_STEPS.true _ put

pub returns-else-own-stay-le-MOST_STEPS : goal.returns-else-own-stay-le-MOST_STEPS
returns-else-own-stay-le-MOST_STEPS c =
    let stay = c.stays-stay.ensures in
    let s = c.requires in
    leaves_it _ _ _ s.0 s.1 s.2 _ c.covers.ensures _ stay c.if-covers.false c.if-own-stay-le-MOST_STEPS.false
