use Rattle.std.proofs.Common.{◌-◌, ◌≡◌, ◌∙◌, suc, ap, arith}
use Rattle.meaning.specs.Forest.{parent_in}
use Rattle.meaning.specs.Satisfying.{parents_of, label_in}
use Rattle.shapes.specs.Nodes.{nodes_in, parent_at, label_at}
use Rattle.matching.specs.Document.{filled, filled-goes_on}
use Rattle.matching.proofs.fill.Goals as goal

pub loop-u-preserved : goal.loop-u-preserved
loop-u-preserved c =
    let ns = c.args.nodes.now in
    let k = c.loop-u.u - 1 in
    let u : c.loop-u.u ≡ suc k = omega arith in
    let up = c.parent.ensures.0 ∙ ap (parent_in (parents_of (nodes_in ns))) u ∙ parent_at ns.bytes.now ns.at ns.count k (omega arith) in
    let label = c.from.ensures ∙ c.label.ensures ∙ ap (label_in (nodes_in ns)) u ∙ label_at ns.bytes.now ns.at ns.count k (omega arith) in
    filled-goes_on c.args.m.now _ _ _ k u up label c.turn.ensures c.loop-u.invariant

pub returns : goal.returns
unfolding filled
returns c =
    let none : c.loop-u.u ≡ 0 = omega arith in
    rw none at c.loop-u.invariant
