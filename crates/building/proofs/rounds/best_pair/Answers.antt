use Rattle.shapes.specs.Shapes.{well_formed_table}
use Rattle.building.specs.Rows.{rows_start, rows_go_on, rows_end}
use Rattle.building.specs.Changing.{pair_there}
use Rattle.building.proofs.rounds.best_pair.Goals as goal

pub loop-i-init : goal.loop-i-init
loop-i-init c = rows_start c.args.t.now (well_formed_table c.args.t.now)

pub loop-i-preserved : goal.loop-i-preserved
loop-i-preserved c = rows_go_on c.loop-i.invariant c.loop-i-test.true c.best_in_row-best.ensures

pub returns : goal.returns
returns c =
    let most = rows_end c.loop-i.invariant c.loop-i-test.false in
    record { saves_most = most; there = pair_there c.args.t.now c.loop-i.best (well_formed_table c.args.t.now) most }
