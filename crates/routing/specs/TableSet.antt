-- The set that the route by a table marks is the table route.
use Prim.Native.Nat.{ℕ, zero, suc, ◌+◌, ◌^◌, ◌≤◌, ◌<◌}
use Rattle.std.specs.Prelude.{◌≡◌, Bool, ◌&&◌, ◌||◌, get_or}
use Rattle.std.proofs.Math.Path.{refl, sym, ap}
use Rattle.std.proofs.Common.{◌∙◌, arith, add-one}
use Rattle.std.proofs.Math.Bool.{true, false, or-false, or_assoc}
use mathlib.Core.List.{List, [], ◌∷◌}
use borrow.Author.Tests.{eqb-true, eq-eqb}
use Rattle.std.proofs.Math.Dec.{eqb}
use Rattle.std.proofs.Math.ListN.{length}
use Rattle.base.specs.Bools.{and_first, and_second, and_both, both_ways}
use Rattle.base.specs.Choice.{pick}
use Rattle.base.specs.Lists.{some, numbers_from}
use Rattle.base.specs.SomeNumber.{some_number, some_number_of}
use Rattle.base.specs.Loops.{fold_n}
use Rattle.base.specs.Along.{fold_along}
use Rattle.meaning.specs.Forest.{Forest, none}
use Rattle.meaning.specs.Sections.{Node, Entry}
use Rattle.meaning.specs.Satisfying.{satisfies}
use Rattle.meaning.specs.Fair.{is_member, has_member}
use Rattle.meaning.specs.Routing.{matches_for, delivered_from, table_route}
use Rattle.laws.specs.MemberBits.{member_none, member_delivery, delivery_lt}
use Rattle.laws.specs.Marks.{marked, member_marked, marked_lt, same-members}
use Rattle.laws.specs.Routes.{delivered-long, delivered_at}
use Rattle.meaning.specs.declared.Tabled.{Tabled}
use Rattle.routing.specs.Tabling.{start, one_more, member_tried, ask_member, ask_members, ask_entry, route_by}

module _ (ns : List Node) (ps : List Forest) where
  abbrev own : ℕ → Bool
  own j = satisfies ns (get_or ps j none)

  -- trying member m marks j
  unfoldable marks : ℕ → ℕ → ℕ → Bool
  marks members j m = is_member members m && (own m && eqb m j)

  -- ---- the members of the set

  -- after one member
  member_set : (members i j : ℕ) (r : Tabled) → is_member (ask_member ns ps members i r).set j ≡ (is_member r.set j || marks members j i)
  unfolding ask_member member_tried marks pick
  member_set members i j r = go (is_member members i)
    where
      go : (b : Bool) → is_member (pick b (record { set = marked r.set i (own i); tried = r.tried + 1 }) r).set j
          ≡ (is_member r.set j || (b && (own i && eqb i j)))
      go true = member_marked r.set i (own i) j
      go false = sym (or-false (is_member r.set j))

  -- after the k members from i on
  members-set : (members k i j : ℕ) (r : Tabled)
      → is_member (fold_n (ask_member ns ps members) k i r).set j ≡ (is_member r.set j || some (marks members j) (numbers_from i k))
  unfolding fold_n numbers_from some
  members-set members zero i j r = sym (or-false (is_member r.set j))
  members-set members (suc k) i j r =
      rw (← (add-one i))
      (members-set members k (i + 1) j (ask_member ns ps members i r)
      ∙ ap (λ (b : Bool). b || some (marks members j) (numbers_from (i + 1) k)) (member_set members i j r)
      ∙ or_assoc (is_member r.set j) (marks members j i) (some (marks members j) (numbers_from (i + 1) k)))

  -- after all members
  all_members-set : (members j : ℕ) (r : Tabled) → j < length ps
      → is_member (ask_members ns ps members r).set j ≡ (is_member r.set j || (is_member members j && own j))
  unfolding ask_members marks
  all_members-set members j r h =
      members-set members (length ps) 0 j r
      ∙ ap (λ (b : Bool). is_member r.set j || b) (both_ways (some (marks members j) (numbers_from 0 (length ps))) (is_member members j && own j) there here)
    where
      there : some (marks members j) (numbers_from 0 (length ps)) ≡ true → (is_member members j && own j) ≡ true
      there q =
          let (m, low, high, e) = some_number (marks members j) 0 (length ps) q in
          let two = and_second (is_member members m) (own m && eqb m j) e in
          let same : m ≡ j = eqb-true m j (and_second (own m) (eqb m j) two) in
          rw (← same) (and_both (is_member members m) (own m) (and_first (is_member members m) (own m && eqb m j) e) (and_first (own m) (eqb m j) two))

      here : (is_member members j && own j) ≡ true → some (marks members j) (numbers_from 0 (length ps)) ≡ true
      here q =
          some_number_of (marks members j) 0 (length ps) j (omega arith) (omega arith)
          (and_both (is_member members j) (own j && eqb j j) (and_first (is_member members j) (own j) q)
          (and_both (own j) (eqb j j) (and_second (is_member members j) (own j) q) (eq-eqb j j refl)))

  -- after an entry
  entry_set : (e : Entry) (j : ℕ) (r : Tabled) → j < length ps → is_member (ask_entry ns ps e r).set j ≡ (is_member r.set j || (matches_for ns j e && own j))
  unfolding ask_entry matches_for has_member one_more pick
  entry_set e j r h = go (satisfies ns e.pattern) (all_members-set e.members j (one_more r) h)
    where
      tidy : (a m s : Bool) → (a || (m && s)) ≡ (a || ((m && true) && s))
      tidy a true s = refl
      tidy a false s = refl

      none_so : (a m s : Bool) → a ≡ (a || ((m && false) && s))
      none_so a true s = sym (or-false a)
      none_so a false s = sym (or-false a)

      go : (b : Bool) → is_member (ask_members ns ps e.members (one_more r)).set j ≡ (is_member r.set j || (is_member e.members j && own j))
          → is_member (pick b (ask_members ns ps e.members (one_more r)) (one_more r)).set j
          ≡ (is_member r.set j || ((is_member e.members j && b) && own j))
      go true k = k ∙ tidy (is_member r.set j) (is_member e.members j) (own j)
      go false k = none_so (is_member r.set j) (is_member e.members j) (own j)

  -- after entries
  along-set : (es : List Entry) (j : ℕ) (r : Tabled) → j < length ps
      → is_member (fold_along (ask_entry ns ps) es r).set j ≡ (is_member r.set j || (some (matches_for ns j) es && own j))
  unfolding fold_along some
  along-set [] j r h = sym (or-false (is_member r.set j))
  along-set (e ∷ es) j r h =
      along-set es j (ask_entry ns ps e r) h
      ∙ ap (λ (b : Bool). b || (some (matches_for ns j) es && own j)) (entry_set e j r h)
      ∙ tidy (is_member r.set j) (matches_for ns j e) (own j) (some (matches_for ns j) es)
    where
      tidy : (a m s l : Bool) → ((a || (m && s)) || (l && s)) ≡ (a || ((m || l) && s))
      tidy true m s l = refl
      tidy false true true l = refl
      tidy false true false true = refl
      tidy false true false false = refl
      tidy false false s l = refl

  -- ---- its bound

  -- after one member
  member_lt : (members i : ℕ) (r : Tabled) → i < length ps → r.set < 2 ^ length ps → (ask_member ns ps members i r).set < 2 ^ length ps
  unfolding ask_member member_tried pick
  member_lt members i r h l = go (is_member members i)
    where
      go : (b : Bool) → (pick b (record { set = marked r.set i (own i); tried = r.tried + 1 }) r).set < 2 ^ length ps
      go true = marked_lt (length ps) r.set i (own i) l h
      go false = l

  -- after the k members from i on
  members_lt : (members k i : ℕ) (r : Tabled) → i + k ≤ length ps → r.set < 2 ^ length ps → (fold_n (ask_member ns ps members) k i r).set < 2 ^ length ps
  unfolding fold_n
  members_lt members zero i r h l = l
  members_lt members (suc k) i r h l = members_lt members k (i + 1) (ask_member ns ps members i r) (omega arith) (member_lt members i r (omega arith) l)

  -- after an entry
  entry_lt : (e : Entry) (r : Tabled) → r.set < 2 ^ length ps → (ask_entry ns ps e r).set < 2 ^ length ps
  unfolding ask_entry ask_members one_more pick
  entry_lt e r l = go (satisfies ns e.pattern)
    where
      go : (b : Bool) → (pick b (ask_members ns ps e.members (one_more r)) (one_more r)).set < 2 ^ length ps
      go true = members_lt e.members (length ps) 0 (one_more r) (omega arith) l
      go false = l

  -- after entries
  along_lt : (es : List Entry) (r : Tabled) → r.set < 2 ^ length ps → (fold_along (ask_entry ns ps) es r).set < 2 ^ length ps
  unfolding fold_along
  along_lt [] r l = l
  along_lt (e ∷ es) r l = along_lt es (ask_entry ns ps e r) (entry_lt e r l)

-- ---- the table route

-- the set that is marked is the table route
pub route-set : (ns : List Node) (ps : List Forest) (es : List Entry) → (route_by ns ps es).set ≡ table_route ns es ps
unfolding route_by table_route start
route-set ns ps es =
    let said = delivered_from ns es 0 ps in
    let within : table_route ns es ps < 2 ^ length ps = rw (← (delivered-long ns es 0 ps)) (delivery_lt said) in
    same-members (length ps) (route_by ns ps es).set (table_route ns es ps) (along_lt ns ps es start (omega arith)) within
    (λ j h.
    along-set ns ps es j start h
    ∙ ap (λ (b : Bool). b || (some (matches_for ns j) es && satisfies ns (get_or ps j none))) (member_none j)
    ∙ sym (member_delivery said j ∙ delivered_at ns es ps j h))
