use mathlib.Core.Path.{refl}
use native.Mathlib.Omega.{arith}
use borrow.Author.Rules.{rules}
use Rattle.meaning.specs.Calls.{subscription}
use Rattle.shapes.specs.Shapes.{well_formed_table}
use Rattle.answers.specs.Growing.{first_none, first_more, first_all}
use Rattle.answers.proofs.built.first_entries.Goals as goal

pub loop-i-init : goal.loop-i-init
loop-i-init c = first_none _ _ refl (search rules)

pub add_entry-requires : goal.add_entry-requires
add_entry-requires c =
    (omega (arith, c.loop-i.invariant.counted), c.pattern.ensures.1)

pub loop-i-preserved : goal.loop-i-preserved
unfolding subscription
loop-i-preserved c =
    let w = c.add_entry in
    first_more _ c.loop-i.i c.loop-i.t w.new.t _ (omega arith) c.loop-i.invariant
    w.ensures.0 w.ensures.1 (well_formed_table w.new.t) c.alone.ensures c.pattern.ensures.0

pub returns : goal.returns
returns c = first_all _ c.loop-i.i _ (omega arith) c.loop-i.invariant
