-- The route by a table, entry by entry and member by member: the set so far, and how many patterns were tried.
use Prim.Native.Nat.{ℕ, zero, suc, ◌+◌, ◌-◌, ◌*◌, ◌≤◌, ◌<◌}
use Rattle.std.proofs.Math.Path.{◌≡◌, refl}
use Rattle.std.proofs.Common.{sym, ◌∙◌, add-one}
use Rattle.std.specs.Prelude.{Bool, get_or, drop}
use Rattle.std.proofs.Math.Bool.{true, false}
use mathlib.Core.List.{List, [], ◌∷◌}
use native.Mathlib.Omega.{arith}
use Rattle.std.proofs.Math.ListN.{length}
use Rattle.base.specs.Choice.{pick, pick_true, pick_false}
use Rattle.base.specs.Lists.{keep, total, numbers_from}
use Rattle.base.specs.ListLaws.{length-keep, length-numbers_from}
use Rattle.base.specs.Loops.{fold_n}
use Rattle.base.specs.Along.{fold_along, along-goes_on, along-ends, fold_n_starts, fold_n-goes_on, fold_n-ends}
use Rattle.meaning.specs.Forest.{Forest, none}
use Rattle.meaning.specs.Numbers.{most_patterns}
use Rattle.meaning.specs.Sections.{Node, Entry}
use Rattle.meaning.specs.Building.{no_entry}
use Rattle.meaning.specs.Satisfying.{satisfies}
use Rattle.meaning.specs.Fair.{is_member}
use Rattle.meaning.specs.Routing.{members_of, tried_for, tried}
use Rattle.laws.specs.Marks.{marked}
use Rattle.meaning.specs.declared.Tabled.{Tabled}
use Rattle.matching.specs.declared.Tried.{Tried}

-- nothing is tried yet
unfoldable pub start : Tabled
start = record { set = 0; tried = 0 }

-- one more was tried
unfoldable pub one_more : Tabled → Tabled
one_more r = record { set = r.set; tried = r.tried + 1 }

-- subscription i is tried if it is a member, and marked if it matches
unfoldable pub member_tried : ℕ → ℕ → Bool → Tabled → Tabled
member_tried members i said r = pick (is_member members i) (record { set = marked r.set i said; tried = r.tried + 1 }) r

-- a try where there is one, after n: does it match, and how many were tried with it
unfoldable pub try_if : Bool → Bool → ℕ → Tried
try_if b said n = pick b (record { yes = said; tried = n + 1 }) (record { yes = false; tried = n })

-- the try of subscription i, if it is a member
unfoldable pub member_try : ℕ → ℕ → Bool → ℕ → Tried
member_try members i said n = try_if (is_member members i) said n

module _ (members i : ℕ) (said : Bool) where
  -- a member is tried
  pub try_of_member : (n : ℕ) {b : Bool} {q : Tried} → b ≡ is_member members i → b ≡ true → (q.yes ≡ said) × (q.tried ≡ n + 1)
      → q ≡ member_try members i said n
  unfolding member_try try_if
  try_of_member n e h f = pick_true _ _ _ (is_member members i) (sym e ∙ h) (λ j. record { yes = f.0 j; tried = f.1 j })

  -- another is not
  pub try_of_another : {n : ℕ} {b : Bool} → b ≡ is_member members i → b ≡ false
      → ◌≡◌ {A = Tried} (record { yes = false; tried = n }) (member_try members i said n)
  unfolding member_try try_if
  try_of_another e h = pick_false _ _ _ (is_member members i) (sym e ∙ h) refl

  -- what is tried is marked
  pub tried-marked : {q : Tried} {set : ℕ} (r : Tabled) → q ≡ member_try members i said r.tried → set ≡ marked r.set i q.yes
      → ◌≡◌ {A = Tabled} (record { set = set; tried = q.tried }) (member_tried members i said r)
  unfolding member_try member_tried try_if marked pick
  tried-marked r h k = rw (k, h) (go (is_member members i))
    where
      go : (b : Bool) → ◌≡◌ {A = Tabled} (record { set = marked r.set i (try_if b said r.tried).yes; tried = (try_if b said r.tried).tried })
          (pick b (record { set = marked r.set i said; tried = r.tried + 1 }) r)
      go true = refl
      go false = refl

-- at most one more
member_tried_few : (members i : ℕ) (said : Bool) (r q : Tabled) → q ≡ member_tried members i said r → q.tried ≤ r.tried + 1
unfolding member_tried pick
member_tried_few members i said r q h = rw h (go (is_member members i))
  where
    go : (b : Bool) → (pick b (record { set = marked r.set i said; tried = r.tried + 1 }) r).tried ≤ r.tried + 1
    go true = omega arith
    go false = omega arith

-- an entry has at most as many members as there are subscriptions
pub tried_for_few : (ns : List Node) (n : ℕ) (e : Entry) → tried_for ns n e ≤ n
unfolding tried_for members_of pick
tried_for_few ns n e = go (satisfies ns e.pattern)
  where
    go : (b : Bool) → pick b (length (keep (is_member e.members) (numbers_from 0 n))) 0 ≤ n
    go true = omega (arith, length-keep (is_member e.members) (numbers_from 0 n), length-numbers_from 0 n)
    go false = omega arith

module _ (ns : List Node) (ps : List Forest) where
  -- subscription i, by its own pattern
  unfoldable pub ask_member : ℕ → ℕ → Tabled → Tabled
  ask_member members i r = member_tried members i (satisfies ns (get_or ps i none)) r

  -- all members
  unfoldable pub ask_members : ℕ → Tabled → Tabled
  ask_members members r = fold_n (ask_member members) (length ps) 0 r

  -- an entry, and all its members if it matches
  unfoldable pub ask_entry : Entry → Tabled → Tabled
  ask_entry e r = pick (satisfies ns e.pattern) (ask_members e.members (one_more r)) (one_more r)

  -- all entries
  unfoldable pub route_by : List Entry → Tabled
  route_by es = fold_along ask_entry es start

  -- ---- how many are tried

  -- by the k members from i on
  members-tried : (members k i : ℕ) (r : Tabled) → (fold_n (ask_member members) k i r).tried ≡ r.tried + length (keep (is_member members) (numbers_from i k))
  unfolding fold_n ask_member member_tried keep numbers_from pick
  members-tried members zero i r = omega arith
  members-tried members (suc k) i r = rw (← (add-one i)) (go (is_member members i) (members-tried members k (i + 1)))
    where
      go : (b : Bool) → ((q : Tabled) → (fold_n (ask_member members) k (i + 1) q).tried ≡ q.tried + length (keep (is_member members) (numbers_from (i + 1) k)))
          → (fold_n (ask_member members) k (i + 1) (pick b (record { set = marked r.set i (satisfies ns (get_or ps i none)); tried = r.tried + 1 }) r)).tried
          ≡ r.tried + length (pick b (i ∷ keep (is_member members) (numbers_from (i + 1) k)) (keep (is_member members) (numbers_from (i + 1) k)))
      go true h = h _ ∙ omega arith
      go false h = h r

  -- by all members
  pub all_members-tried : (members : ℕ) (r : Tabled) → (ask_members members r).tried ≡ r.tried + length (members_of (length ps) members)
  unfolding ask_members members_of
  all_members-tried members r = members-tried members (length ps) 0 r

  -- by an entry
  entry-tried : (e : Entry) (r : Tabled) → (ask_entry e r).tried ≡ r.tried + 1 + tried_for ns (length ps) e
  unfolding ask_entry tried_for one_more pick
  entry-tried e r = go (satisfies ns e.pattern)
    where
      go : (b : Bool) → (pick b (ask_members e.members (one_more r)) (one_more r)).tried
          ≡ r.tried + 1 + pick b (length (members_of (length ps) e.members)) 0
      go true = all_members-tried e.members (one_more r)
      go false = omega arith

  -- at most one and as many as there are subscriptions
  entry-tried_few : (e : Entry) (r q : Tabled) → q ≡ ask_entry e r → q.tried ≤ r.tried + 1 + length ps
  entry-tried_few e r q h = rw h (omega (arith, entry-tried e r, tried_for_few ns (length ps) e))

  -- by entries
  along-tried : (es : List Entry) (r : Tabled) → (fold_along ask_entry es r).tried ≡ r.tried + (length es + total (tried_for ns (length ps)) es)
  unfolding fold_along total
  along-tried [] r = omega arith
  along-tried (e ∷ es) r = omega (arith, along-tried es (ask_entry e r), entry-tried e r)

  -- all entries, plus all members of each entry that matches
  pub route-tried : (es : List Entry) → (route_by es).tried ≡ tried ns es ps
  unfolding route_by tried start
  route-tried es = along-tried es start ∙ omega arith

  -- ---- the loops along members and along entries

  -- the members from i on give what all give; at most one try for each so far
  pub record TryingMembers (members : ℕ) (r₀ : Tabled) (i : ℕ) (r : Tabled) : Type 0 where
    pub few : r.tried ≤ r₀.tried + i
    pub left : fold_n (ask_member members) (length ps - i) i r ≡ ask_members members r₀

  -- the entries from j on give what all give; at most 65 tries for each entry so far
  pub record TryingEntries (es : List Entry) (j : ℕ) (r : Tabled) : Type 0 where
    pub few : r.tried ≤ 65 * j
    pub left : fold_along ask_entry (drop j es) r ≡ route_by es

  -- ---- as an entry is asked

  module _ (e : Entry) (r : Tabled) {b : Bool} {n : ℕ} (said : b ≡ satisfies ns e.pattern) (one : n ≡ r.tried + 1) where
    -- its members follow
    pub entry-matches : {q : Tabled} → b ≡ true → q ≡ ask_members e.members (record { set = r.set; tried = n }) → q ≡ ask_entry e r
    unfolding ask_entry one_more
    entry-matches h k = pick_true _ _ _ (satisfies ns e.pattern) (sym said ∙ h) (k ∙ rw one)

    -- nothing follows
    pub entry_fails : b ≡ false → ◌≡◌ {A = Tabled} (record { set = r.set; tried = n }) (ask_entry e r)
    unfolding ask_entry one_more
    entry_fails h = pick_false _ _ _ (satisfies ns e.pattern) (sym said ∙ h) (rw one)

module _ {ns : List Node} {ps : List Forest} {members : ℕ} {r₀ : Tabled} where
  -- none of the members is tried
  pub members-start : TryingMembers ns ps members r₀ 0 r₀
  unfolding ask_members
  members-start = record { few = omega arith; left = fold_n_starts (ask_member ns ps members) (length ps) 0 r₀ r₀ }

  module _ {i : ℕ} {r : Tabled} (turn : TryingMembers ns ps members r₀ i r) where
    -- one member more
    pub members-go_on : {q : Tabled} {said : Bool} → i < length ps → said ≡ satisfies ns (get_or ps i none) → q ≡ member_tried members i said r
        → TryingMembers ns ps members r₀ (i + 1) q
    unfolding ask_member
    members-go_on h e f =
        record {
          few = omega (arith, turn.few, member_tried_few members i _ r _ f);
          left = rw (f, e) (fold_n-goes_on (ask_member ns ps members) (length ps) i r _ h turn.left);
        }

    -- none is left
    pub members-end : length ps ≤ i → r ≡ ask_members ns ps members r₀
    members-end h = fold_n-ends (ask_member ns ps members) (length ps) i r _ h turn.left

module _ {ns : List Node} {ps : List Forest} {es : List Entry} where
  -- no entry is tried
  pub entries-start : TryingEntries ns ps es 0 start
  unfolding route_by start
  entries-start = record { few = omega arith; left = refl }

  module _ {j : ℕ} {r : Tabled} (turn : TryingEntries ns ps es j r) where
    -- one entry more
    pub entries-go_on : {q : Tabled} {e : Entry} → j < length es → length ps ≤ most_patterns → e ≡ get_or es j no_entry → q ≡ ask_entry ns ps e r
        → TryingEntries ns ps es (j + 1) q
    entries-go_on h most f g =
        record {
          few = omega (arith, turn.few, entry-tried_few ns ps _ r _ g);
          left = rw (g, f) (along-goes_on (ask_entry ns ps) es no_entry j r _ turn.left h);
        }

    -- none is left
    pub entries-end : length es ≤ j → r ≡ route_by ns ps es
    entries-end h = along-ends (ask_entry ns ps) es no_entry j r _ turn.left h
