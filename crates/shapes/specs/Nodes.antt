-- Nodes as they stand in bytes: how many there are, and the parent and the label of each by its number.
use Rattle.std.specs.Prelude.{ℕ, zero, suc, ◌+◌, ◌*◌, ◌≤◌, ◌<◌, ◌≡◌, List, length, get_or}
use Rattle.std.proofs.Common.{◌∙◌, ap, arith}
use Rattle.std.proofs.lemmas.List.{length-map}
use Rattle.base.specs.Standing.{standing, length-standing}
use Rattle.meaning.specs.Forest.{parent_in}
use Rattle.meaning.specs.Sections.{Node}
use Rattle.meaning.specs.Satisfying.{parents_of, label_in}
use Rattle.laws.specs.Rising.{Rising}
use Rattle.shapes.specs.Shapes.{node_at, after_node, nodes_at}
use Rattle.shapes.specs.declared.nodes.Nodes.{Nodes}

-- the nodes that are lent
abbrev pub nodes_in : Nodes → List Node
nodes_in ns = nodes_at ns.bytes.now ns.at ns.count

-- the parent of a node that stands at a place, in two bytes, the low one first
abbrev pub parent_from : List ℕ → ℕ → ℕ
parent_from bs a = get_or bs a 0 + 256 * get_or bs (a + 1) 0

-- there are as many parents as nodes
pub length-parents_of : (ns : List Node) → length (parents_of ns) ≡ length ns
unfolding parents_of
length-parents_of ns = length-map ns (λ d. d.parent)

-- there are as many nodes as are read
pub length-nodes_at : (bs : List ℕ) (at n : ℕ) → length (nodes_at bs at n) ≡ n
unfolding nodes_at
length-nodes_at bs at n = length-standing (node_at bs) after_node at n

-- node k + 1 stands after k nodes of three bytes: its parent
pub parent_at : (bs : List ℕ) (at n k : ℕ) → k < n → parent_in (parents_of (nodes_at bs at n)) (suc k) ≡ parent_from bs (at + 3 * k)
unfolding nodes_at node_at after_node standing parents_of parent_in
parent_at bs at zero k h = absurd (omega arith)
parent_at bs at (suc n) zero h =
    let here : at ≡ at + 3 * 0 = omega arith in
    ap (parent_from bs) here
parent_at bs at (suc n) (suc k) h =
    let there : at + 3 + 3 * k ≡ at + 3 * suc k = omega arith in
    parent_at bs (at + 3) n k (omega arith) ∙ ap (parent_from bs) there

-- and its label, which stands behind the parent
pub label_at : (bs : List ℕ) (at n k : ℕ) → k < n → label_in (nodes_at bs at n) (suc k) ≡ get_or bs (at + 3 * k + 2) 0
unfolding nodes_at node_at after_node standing label_in
label_at bs at zero k h = absurd (omega arith)
label_at bs at (suc n) zero h = let here : at + 2 ≡ at + 3 * 0 + 2 = omega arith in ap (λ a. get_or bs a 0) here
label_at bs at (suc n) (suc k) h =
    let there : at + 3 + 3 * k + 2 ≡ at + 3 * suc k + 2 = omega arith in
    label_at bs (at + 3) n k (omega arith) ∙ ap (λ a. get_or bs a 0) there

-- a node's parent has a lower number
pub parent_lower : (bs : List ℕ) (at n : ℕ) → Rising (parents_of (nodes_at bs at n)) → (k : ℕ) → k < n → parent_from bs (at + 3 * k) ≤ k
unfolding parent_in
parent_lower bs at n rising k h =
    rw (← parent_at bs at n k h) (rising.low k (omega (arith, length-parents_of (nodes_at bs at n), length-nodes_at bs at n)))
