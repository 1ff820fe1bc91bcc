-- What is built at a pair after one candidate is offered: nothing new but that candidate, and never more than the limit.
use Rattle.std.specs.Prelude.{ℕ, ◌+◌, ◌≤◌, Bool}
use Rattle.std.proofs.Common.{sym, subst, ⊎_elim, arith}
use mathlib.Core.List.Memᴰ
use mathlib.Core.List.{List, [], ◌∷◌, ◌++◌, Memᴰ}
use Rattle.base.specs.Choice.{pick}
use Rattle.base.specs.Lists.{total}
use Rattle.base.specs.ListLaws.{keep-gives, total-append}
use Rattle.meaning.specs.Forest.{near, far}
use Rattle.meaning.specs.Merging.{Branch, branch_size, stays_beside, Building, nothing, Body, meet}
use Rattle.laws.specs.Choosing.{staying, offer_keeps}

-- the candidate with a body
abbrev pub candidate_of : Bool → Body → Branch
candidate_of both_near body = record { axis = pick both_near near far; label = body.label; kids = body.kids }

-- every kept candidate is such
unfoldable pub AllKept : (Branch → Type 0) → List Branch → Type 0
AllKept Good kept = (k : Branch) → Memᴰ k kept → Good k

-- nothing is kept at the start
pub nothing_all : (Good : Branch → Type 0) → AllKept Good nothing.kept
unfolding AllKept nothing
nothing_all Good k m = elim m [ ]

-- they stay such when one is put after the drops
put_all : (Good : Branch → Type 0) (c : Branch) (kept : List Branch) → Good c → AllKept Good kept → AllKept Good (staying c kept ++ (c ∷ []))
unfolding AllKept
put_all Good c kept good all k m =
    ⊎_elim
    (λ n. all k (keep-gives (stays_beside c) kept n).0)
    (λ n. subst Good (sym (Memᴰ.eq_of_singleton n)) good)
    (Memᴰ.append_cases (staying c kept) m)

-- they stay such where the candidate is
pub meet_all :
    (Good : Branch → Type 0) (limit own : ℕ) (both_near : Bool) (body : Body) (b : Building)
    → Good (candidate_of both_near body)
    → AllKept Good b.kept
    → AllKept Good (meet limit own both_near body b).kept
unfolding meet
meet_all Good limit own both_near body b good all =
    let c = candidate_of both_near body in
    offer_keeps (AllKept Good) limit own c _ all (λ _. put_all Good c b.kept good all)

-- the steps of the body being built stay within the limit
pub meet-size :
    (limit own : ℕ) (both_near : Bool) (body : Body) (b : Building)
    → own + total branch_size b.kept ≤ limit
    → own + total branch_size (meet limit own both_near body b).kept ≤ limit
unfolding meet total
meet-size limit own both_near body b h =
    let c = candidate_of both_near body in
    offer_keeps (λ ks. own + total branch_size ks ≤ limit) limit own c _ h
    (λ room. omega (arith, total-append branch_size (staying c b.kept) (c ∷ [])))
