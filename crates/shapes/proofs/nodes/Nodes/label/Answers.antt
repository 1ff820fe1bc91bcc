-- `shapes::nodes::Nodes::label` meets its contract: it stands behind the parent.
use Rattle.std.proofs.Common.{◌-◌, ◌≡◌, ◌∙◌, suc, sym, ap, arith}
use Rattle.meaning.specs.Satisfying.{label_in}
use Rattle.shapes.specs.Nodes.{nodes_in, label_at}
use Rattle.shapes.proofs.nodes.Nodes.label.Goals as goal

pub returns : goal.returns
returns c =
    let ns = c.args.self.now in
    let u : suc (c.args.u - 1) ≡ c.args.u = omega arith in
    rw c.place.ensures (sym (label_at ns.bytes.now ns.at ns.count (c.args.u - 1) (omega arith)) ∙ ap (label_in (nodes_in ns)) u)
