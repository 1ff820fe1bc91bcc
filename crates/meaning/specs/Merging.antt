-- Merging p with q: p, q, or what is built at the pair of roots.
use Rattle.std.specs.Prelude.{ℕ, suc, ◌+◌, Bool, true, false, not, ◌&&◌, ◌||◌, List, [], ◌∷◌, ◌++◌, eqb, leb}
use Rattle.base.specs.Choice.{pick}
use Rattle.base.specs.Lists.{some, keep, total}
use Rattle.meaning.specs.Numbers.{most_steps}
use Rattle.meaning.specs.Forest.{Axis, near, far, is_near, Forest, none, step, size}
use Rattle.meaning.specs.Satisfying.{any_or_same}
use Rattle.meaning.specs.Covering.{lays, covers}

-- a step with all that is below it
pub record Branch : Type 0 where
  pub axis : Axis
  pub label : ℕ
  pub kids : Forest

-- the pattern whose only root branch it is
unfoldable pub alone : Branch → Forest
alone c = step c.axis c.label c.kids none

-- the branches below one parent, in their order
unfoldable pub joined : List Branch → Forest
joined [] = none
joined (c ∷ cs) = step c.axis c.label c.kids (joined cs)

unfoldable pub branch_size : Branch → ℕ
branch_size c = suc (size c.kids)

-- c can be laid, below the same parent, on k or (if far) inside it
unfoldable pub laid_on : Branch → Branch → Bool
laid_on c k = covers (alone c) (alone k)

-- what stays when c is put: all that can't be laid on it
unfoldable pub stays_beside : Branch → Branch → Bool
stays_beside c k = not (laid_on k c)

-- what is being built at a pair: the candidates kept, and whether one was left out at a pair reached
pub record Building : Type 0 where
  pub kept : List Branch
  pub clipped : Bool

unfoldable pub nothing : Building
nothing = record { kept = []; clipped = false }

-- one candidate: skipped if it can be laid on a kept one; otherwise kept ones that can be laid on it are dropped and it is
-- put last, unless the body being built, of `own` steps without its children, would pass the limit even after those drops:
-- then nothing is dropped, and it is left out
unfoldable pub offer : ℕ → ℕ → Branch → Building → Building
offer limit own c b =
    let stay : List Branch = keep (stays_beside c) b.kept in
    let put : Building = record { kept = stay ++ (c ∷ []); clipped = b.clipped } in
    let left_out : Building = record { kept = b.kept; clipped = true } in
    let judged : Building = pick (leb (own + total branch_size stay + branch_size c) limit) put left_out in
    pick (some (laid_on c) b.kept) b judged

-- a body: a label, the child steps, and whether a candidate was left out at a pair reached for it
pub record Body : Type 0 where
  pub label : ℕ
  pub kids : Forest
  pub clipped : Bool

-- the common label, or any where they differ
unfoldable pub common_label : ℕ → ℕ → ℕ
common_label l m = pick (eqb l m) l 0

-- the body of step v' at step w': that of v' if it can be laid at w' (label and children), otherwise that of w' if it can
-- be laid at v', otherwise the common label with children built at that pair
unfoldable pub body_of : ℕ → Forest → ℕ → Forest → Building → Body
body_of l vs m ws built =
    let taken : Body = record { label = l; kids = vs; clipped = false } in
    let given : Body = record { label = m; kids = ws; clipped = false } in
    let made : Body = record { label = common_label l m; kids = joined built.kept; clipped = built.clipped } in
    let other : Body = pick (any_or_same m l && lays ws vs) given made in
    pick (any_or_same l m && lays vs ws) taken other

-- the candidate of a pair: near if both are near children, otherwise far. The mark counts every pair reached, also under
-- a body that is skipped or dropped
unfoldable pub meet : ℕ → ℕ → Bool → Body → Building → Building
meet limit own both_near c b =
    offer limit own (record { axis = pick both_near near far; label = c.label; kids = c.kids })
    (record { kept = b.kept; clipped = b.clipped || c.clipped })

-- the same for a step v' (near child or not, label, child steps, and what is built at it and a step w') and a step w'
unfoldable pub meet_at : ℕ → ℕ → Bool → ℕ → Forest → (Forest → Building) → Bool → ℕ → Forest → Building → Building
meet_at limit own near_v l vs built_at near_w m ws b =
    let built = built_at ws in
    meet limit own (near_v && near_w) (body_of l vs m ws built) b

-- all steps w' of a forest and below it, ascending; `child` says that the forest's own steps are children of w
unfoldable pub across : (Bool → ℕ → Forest → Building → Building) → Bool → Forest → Building → Building
across pair child none b = b
across pair child (step y m ws later) b =
    across pair child later (across pair false ws (pair (child && is_near y) m ws b))

-- all pairs (v', w') with v' in the forest or below it, ascending, then w' strictly below w; `child` says that the
-- forest's own steps are children of v; `own` counts the step of the body being built, 1, or 0 at the roots
unfoldable pub through : ℕ → Forest → Bool → ℕ → Forest → Building → Building
through limit none child own w b = b
through limit (step x l vs later) child own w b =
    through limit later child own w
    (through limit vs false own w
    (across (meet_at limit own (child && is_near x) l vs (λ ws. through limit vs true 1 ws nothing)) true w b))

-- a merge: the pattern, and the mark
pub record Merge : Type 0 where
  pub pattern : Forest
  pub clipped : Bool

-- the merge of p with q, with no built body above the limit
unfoldable pub merge_within : ℕ → Forest → Forest → Merge
merge_within limit p q =
    let built = through limit p true 0 q nothing in
    let made : Merge = record { pattern = joined built.kept; clipped = built.clipped } in
    let other : Merge = pick (covers q p) (record { pattern = q; clipped = false }) made in
    pick (covers p q) (record { pattern = p; clipped = false }) other

unfoldable pub merge : Forest → Forest → Merge
merge p q = merge_within most_steps p q
