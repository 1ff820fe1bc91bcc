-- The choices of a merge, each as a law: what holds in every case that can be chosen holds of what is chosen.
use Rattle.std.specs.Prelude.{ℕ, ◌+◌, ◌≤◌, ◌≡◌, refl, Bool, true, false, ◌&&◌, List, [], ◌∷◌, ◌++◌, leb}
use Rattle.std.proofs.Common.{leb-true}
use Rattle.base.specs.Choice.{pick}
use Rattle.base.specs.Bools.{and_first, and_second}
use Rattle.base.specs.Lists.{some, keep, total}
use Rattle.meaning.specs.Forest.{Forest}
use Rattle.meaning.specs.Satisfying.{any_or_same}
use Rattle.meaning.specs.Covering.{lays, covers}
use Rattle.meaning.specs.Merging.{Branch, joined, branch_size, laid_on, stays_beside, Building, nothing, offer}
use Rattle.meaning.specs.Merging.{Body, common_label, body_of, through, Merge, merge_within}

-- what stays of those kept when a candidate is put
abbrev pub staying : Branch → List Branch → List Branch
staying c kept = keep (stays_beside c) kept

-- an offered candidate is skipped, or put last after the drops where there is room, or left out
pub offer_keeps :
    (Keeps : List Branch → Type 0) (limit own : ℕ) (c : Branch) (b : Building)
    → Keeps b.kept
    → (own + total branch_size (staying c b.kept) + branch_size c ≤ limit → Keeps (staying c b.kept ++ (c ∷ [])))
    → Keeps (offer limit own c b).kept
unfolding offer pick
offer_keeps Keeps limit own c b before put = go (some (laid_on c) b.kept) (leb (own + total branch_size stay + branch_size c) limit) refl
  where
    stay : List Branch
    stay = staying c b.kept

    judged : Bool → Building
    judged room = pick room (record { kept = stay ++ (c ∷ []); clipped = b.clipped }) (record { kept = b.kept; clipped = true })

    go : (skip room : Bool) → leb (own + total branch_size stay + branch_size c) limit ≡ room → Keeps (pick skip b (judged room)).kept
    go true room e = before
    go false true e = put (leb-true _ _ e)
    go false false e = before

-- a body is that of v' if it can be laid at w', that of w' if it can be laid at v', or what is built at them
pub body_keeps :
    (Keeps : ℕ → Forest → Type 0) (l : ℕ) (vs : Forest) (m : ℕ) (ws : Forest) (built : Building)
    → (any_or_same l m ≡ true → lays vs ws ≡ true → Keeps l vs)
    → (any_or_same m l ≡ true → lays ws vs ≡ true → Keeps m ws)
    → Keeps (common_label l m) (joined built.kept)
    → Keeps (body_of l vs m ws built).label (body_of l vs m ws built).kids
unfolding body_of pick
body_keeps Keeps l vs m ws built taken given made = go (any_or_same l m && lays vs ws) refl (any_or_same m l && lays ws vs) refl
  where
    body : Bool → Bool → Body
    body t g =
        pick t (record { label = l; kids = vs; clipped = false })
        (pick g (record { label = m; kids = ws; clipped = false })
        (record { label = common_label l m; kids = joined built.kept; clipped = built.clipped }))

    go : (t : Bool) → (any_or_same l m && lays vs ws) ≡ t → (g : Bool) → (any_or_same m l && lays ws vs) ≡ g → Keeps (body t g).label (body t g).kids
    go true e g f = taken (and_first _ _ e) (and_second (any_or_same l m) _ e)
    go false e true f = given (and_first _ _ f) (and_second (any_or_same m l) _ f)
    go false e false f = made

-- a merge is p if p covers q, q if q covers p, or what is built at the roots
pub merge_keeps :
    (Keeps : Merge → Type 0) (limit : ℕ) (p q : Forest)
    → (covers p q ≡ true → Keeps (record { pattern = p; clipped = false }))
    → (covers q p ≡ true → Keeps (record { pattern = q; clipped = false }))
    → (let built = through limit p true 0 q nothing in Keeps (record { pattern = joined built.kept; clipped = built.clipped }))
    → Keeps (merge_within limit p q)
unfolding merge_within pick
merge_keeps Keeps limit p q first second made = go (covers p q) refl (covers q p) refl
  where
    built : Building
    built = through limit p true 0 q nothing

    chosen : Bool → Bool → Merge
    chosen f s =
        pick f (record { pattern = p; clipped = false })
        (pick s (record { pattern = q; clipped = false }) (record { pattern = joined built.kept; clipped = built.clipped }))

    go : (f : Bool) → covers p q ≡ f → (s : Bool) → covers q p ≡ s → Keeps (chosen f s)
    go true e s g = first e
    go false e true g = second g
    go false e false g = made
