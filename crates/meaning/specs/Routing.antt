-- Routing: which subscriptions are delivered, whether there is one, and how many patterns are tried.
use Rattle.std.specs.Prelude.{ℕ, suc, ◌+◌, ◌*◌, Bool, false, not, ◌&&◌, eqb, length, get_or}
use mathlib.Core.List.{List, [], ◌∷◌, map, flat_map}
use Rattle.std.specs.Int.Count.{ones, count_trailing_zeros}
use Rattle.base.specs.Choice.{pick}
use Rattle.base.specs.Lists.{some, keep, total, numbers_from}
use Rattle.meaning.specs.Forest.{Forest, none}
use Rattle.meaning.specs.Sections.{Node, Entry}
use Rattle.meaning.specs.Satisfying.{satisfies}
use Rattle.meaning.specs.Fair.{is_member, has_member}

-- the number whose bit i is set if the i-th answer, from 0, is yes
unfoldable pub delivery_set : List Bool → ℕ
delivery_set [] = 0
delivery_set (said ∷ more) = pick said 1 0 + 2 * delivery_set more

-- the plain route asks each subscription
unfoldable pub plain_route : List Node → List Forest → ℕ
plain_route ns ps = delivery_set (map (satisfies ns) ps)

-- the members of an entry, ascending, of n subscriptions
unfoldable pub members_of : ℕ → ℕ → List ℕ
members_of n members = keep (is_member members) (numbers_from 0 n)

-- an entry that has subscription i as a member, and matches
unfoldable pub matches_for : List Node → ℕ → Entry → Bool
matches_for ns i e = has_member i e && satisfies ns e.pattern

-- a subscription is delivered if an entry that has it as a member matches, and its own pattern matches; from number i on
unfoldable pub delivered_from : List Node → List Entry → ℕ → List Forest → List Bool
delivered_from ns es i [] = []
delivered_from ns es i (p ∷ ps) =
    (some (matches_for ns i) es && satisfies ns p)
    ∷ delivered_from ns es (suc i) ps

unfoldable pub table_route : List Node → List Entry → List Forest → ℕ
table_route ns es ps = delivery_set (delivered_from ns es 0 ps)

-- all members of an entry that matches, of n subscriptions
unfoldable pub tried_for : List Node → ℕ → Entry → ℕ
tried_for ns n e = pick (satisfies ns e.pattern) (length (members_of n e.members)) 0

-- patterns tried: all entries, plus all members of each entry that matches
unfoldable pub tried : List Node → List Entry → List Forest → ℕ
tried ns es ps = length es + total (tried_for ns (length ps)) es

-- does anyone want it: whether at least one shed takes the document, that is, whether the plain route is not 0. `laws` proves this
-- equal to "the route by the table is not 0" for any fair table
unfoldable pub wanted : List Node → List Forest → Bool
wanted ns ps = not (eqb (plain_route ns ps) 0)

-- what members say, in order: whether the document satisfies each one's own pattern
unfoldable pub members_say : List Node → List Forest → ℕ → List Bool
members_say ns ps members = map (λ i. satisfies ns (get_or ps i none)) (members_of (length ps) members)

-- for each pattern that is asked for an entry, in order, whether the answer comes there: never at the entry's own, even if it
-- matches; then, if it matches, at a member that matches
unfoldable pub answer_comes : List Node → List Forest → Entry → List Bool
answer_comes ns ps e = let theirs = members_say ns ps e.members in false ∷ pick (satisfies ns e.pattern) theirs []

-- how many are asked until the answer comes, that one counted; all where it doesn't come
unfoldable pub until_yes : List Bool → ℕ
until_yes [] = 0
until_yes (said ∷ more) = let later = until_yes more in suc (pick said 0 later)

-- patterns tried until the answer comes: each entry in order and, if it matches, its members in order before the next entry; all of
-- these where no member matches
unfoldable pub tried_until_wanted : List Node → List Entry → List Forest → ℕ
tried_until_wanted ns es ps = until_yes (flat_map (answer_comes ns ps) es)

-- how many sheds get a notice: the number of ones
unfoldable pub sheds_in : ℕ → ℕ
sheds_in set = ones set

-- the lowest shed is read off the trailing zeros: 64 when there is none
unfoldable pub lowest_shed : ℕ → ℕ
lowest_shed set = count_trailing_zeros 64 set
