-- When a document satisfies a pattern, said by label bytes: a step's label and a node's are the same exactly if their bytes are.
-- `laws` proves that this is what `satisfies` says of label numbers.
use Rattle.std.specs.Prelude.{ℕ, ◌≤◌, ◌≡◌, ◌⊎◌, true, List, length}
use Rattle.meaning.specs.Forest.{Axis, Forest, none, step, reaches}
use Rattle.meaning.specs.Sections.{Node}
use Rattle.meaning.specs.Satisfying.{parents_of, label_in}
use Rattle.meaning.specs.LabelBytes.{label_at}

-- of labels that exist: a step's is any, or has the same bytes as a node's
abbrev pub AnyOrSameBytes : List (List ℕ) → ℕ → ℕ → Type 0
AnyOrSameBytes ls l m = (l ≡ 0) ⊎ (label_at ls l ≡ label_at ls m)

-- some node fits a step below node t: one of its children if the step is near, one strictly below it if far; the label is
-- any or has the same bytes, and every child step holds below that node
pub record SomeFits (ls : List (List ℕ)) (ns : List Node) (x : Axis) (l : ℕ) (ChildrenHold : ℕ → Type 0) (t : ℕ) : Type 0 where
  pub node : ℕ
  pub there : (1 ≤ node) × (node ≤ length ns)
  pub within : reaches x (parents_of ns) t node ≡ true
  pub label : AnyOrSameBytes ls l (label_in ns node)
  pub children : ChildrenHold node

-- every step of the forest holds below node t
abbrev pub AllHoldBelow : List (List ℕ) → List Node → Forest → ℕ → Type 0
AllHoldBelow ls ns none t = Unit {0}
AllHoldBelow ls ns (step x l kids later) t = SomeFits ls ns x l (AllHoldBelow ls ns kids) t × AllHoldBelow ls ns later t

-- all the pattern's root steps hold below the top, which has number 0
abbrev pub Satisfied : List (List ℕ) → List Node → Forest → Type 0
Satisfied ls ns p = AllHoldBelow ls ns p 0
