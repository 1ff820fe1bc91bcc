-- `shapes::Table::entries` meets its contract: the first `count` of its entries.
use Rattle.std.proofs.Math.Path.{refl}
use Rattle.shapes.specs.Shapes.{entries_in}
use Rattle.shapes.proofs.Table.entries.Goals as goal

pub returns : goal.returns
unfolding entries_in
returns c = refl
