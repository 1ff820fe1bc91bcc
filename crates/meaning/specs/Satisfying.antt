-- When a document satisfies a pattern. The unlabelled top stands above the document's root node, and has number 0.
use Rattle.std.specs.Prelude.{ℕ, zero, suc, Bool, true, ◌&&◌, ◌||◌, List, map, eqb, length, get_or}
use Rattle.base.specs.Lists.{some, numbers_from}
use Rattle.meaning.specs.Forest.{Axis, Forest, none, step, reaches}
use Rattle.meaning.specs.Sections.{Node}

-- the label is any, which is 0, or the same
unfoldable pub any_or_same : ℕ → ℕ → Bool
any_or_same l m = eqb l 0 || eqb l m

unfoldable pub parents_of : List Node → List ℕ
parents_of ns = map (λ d. d.parent) ns

-- the label of node k; the top, 0, has none
unfoldable pub label_in : List Node → ℕ → ℕ
label_in ns zero = 0
label_in ns (suc k) = get_or (map (λ d. d.label) ns) k 0

-- u is where a step of that axis looks below t, and fits it: a node fits a step if the label is any or the same, and every
-- child step holds below that node
unfoldable pub fits_below : List Node → ℕ → Axis → ℕ → (ℕ → Bool) → ℕ → Bool
fits_below ns t x l children_hold u =
    let fits = children_hold u in
    reaches x (parents_of ns) t u && (any_or_same l (label_in ns u) && fits)

-- every step of the forest holds below node t: a near step if some child of t fits it, a far step if some node strictly
-- below t fits it
unfoldable pub hold_below : List Node → Forest → ℕ → Bool
hold_below ns none t = true
hold_below ns (step x l kids later) t =
    some (fits_below ns t x l (hold_below ns kids)) (numbers_from 1 (length ns)) && hold_below ns later t

-- all the pattern's root steps hold below the top
unfoldable pub satisfies : List Node → Forest → Bool
satisfies ns p = hold_below ns p 0
