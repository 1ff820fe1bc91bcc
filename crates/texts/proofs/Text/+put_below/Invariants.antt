-- The loop: what is left of the branches, put from here, gives what all of them give. The calls end since fewer steps are left.
use Rattle.std.proofs.Common.{◌-◌}
use Rattle.meaning.specs.PatternText.{branches_text}
use Rattle.laws.specs.Children.{children_from}
use Rattle.shapes.specs.Shapes.{steps_in}
use Rattle.labels.specs.LabelPlaces.{labels_in}
use Rattle.texts.specs.Puts.{StillToPut}
use Rattle.texts.proofs.Text.+put_below.Given as goal

abbrev pub decreases-put_below : goal.decreases-put_below
decreases-put_below l = l.p.now.count - l.v

abbrev pub invariant-loop-k : goal.invariant-loop-k
invariant-loop-k l =
    StillToPut l.initial.self (branches_text (labels_in l.s) l.many (children_from (steps_in l.p) l.v l.v))
    l.self (branches_text (labels_in l.s) l.many (children_from (steps_in l.p) l.v l.k))
