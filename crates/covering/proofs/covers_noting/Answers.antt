-- `covers_noting` meets its contract: the root is the parent of the root steps.
use Rattle.meaning.specs.Forest.{forest}
use Rattle.meaning.specs.Covering.{covers}
use Rattle.laws.specs.Children.{children_from, children_of}
use Rattle.shapes.specs.Shapes.{pattern_of}
use Rattle.covering.specs.Questions.{children_lie}
use Rattle.covering.proofs.covers_noting.Goals as goal

pub returns : goal.returns
unfolding covers pattern_of forest children_lie children_of children_from
returns c = c.all_lie.ensures
