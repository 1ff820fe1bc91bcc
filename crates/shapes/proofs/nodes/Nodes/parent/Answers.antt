-- `shapes::nodes::Nodes::parent` meets its contract: two bytes from the place of the node on.
use Rattle.std.proofs.Common.{◌-◌, ◌+◌, ◌*◌, ◌≡◌, ◌∙◌, suc, sym, ap, arith}
use Rattle.meaning.specs.Forest.{parent_in}
use Rattle.meaning.specs.Satisfying.{parents_of}
use Rattle.shapes.specs.Nodes.{nodes_in, parent_from, parent_at, parent_lower}
use Rattle.shapes.proofs.nodes.Nodes.parent.Goals as goal

pub returns : goal.returns
returns c =
    let ns = c.args.self.now in
    let k = c.args.u - 1 in
    let u : suc (c.args.u - 1) ≡ c.args.u = omega arith in
    let read : c.from.result ≡ parent_from ns.bytes.now (ns.at + 3 * k) = rw (c.from.ensures, c.from_le_bytes.ensures, c.place-a.ensures) (omega arith) in
    let low = parent_lower ns.bytes.now ns.at ns.count ns.rising k (omega arith) in
    (read ∙ sym (parent_at ns.bytes.now ns.at ns.count k (omega arith)) ∙ ap (parent_in (parents_of (nodes_in ns))) u, omega arith)
