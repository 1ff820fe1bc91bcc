-- A table is fair if no entry is without members, no member is outside the sheet, each subscription is in exactly one
-- entry, and that entry covers it.
use Rattle.std.specs.Prelude.{ℕ, suc, ◌/◌, ◌%◌, ◌^◌, Bool, true, false, ◌&&◌, List, [], ◌∷◌, eqb, ltb, length}
use Rattle.base.specs.Lists.{every, keep}
use Rattle.meaning.specs.Forest.{Forest}
use Rattle.meaning.specs.Sections.{Entry}
use Rattle.meaning.specs.Covering.{covers}

-- subscription i is a member: bit i is set
unfoldable pub is_member : ℕ → ℕ → Bool
is_member members i = eqb (members / 2 ^ i % 2) 1

unfoldable pub has_member : ℕ → Entry → Bool
has_member i e = is_member e.members i

-- the entries that have subscription i as a member
unfoldable pub entries_of : ℕ → List Entry → List Entry
entries_of i es = keep (has_member i) es

-- exactly one, and it covers p
unfoldable pub one_that_covers : Forest → List Entry → Bool
one_that_covers p [] = false
one_that_covers p (e ∷ []) = covers e.pattern p
one_that_covers p (e ∷ f ∷ more) = false

-- each subscription, from number i on, is in exactly one entry, and that entry covers it
unfoldable pub each_in_one : ℕ → List Forest → List Entry → Bool
each_in_one i [] es = true
each_in_one i (p ∷ ps) es =
    let later = each_in_one (suc i) ps es in
    one_that_covers p (entries_of i es) && later

-- no entry is without members
unfoldable pub is_peopled : Entry → Bool
is_peopled e = ltb 0 e.members

-- no member is outside the sheet, of n subscriptions
unfoldable pub is_within : ℕ → Entry → Bool
is_within n e = ltb e.members (2 ^ n)

unfoldable pub fair : List Forest → List Entry → Bool
fair ps es = every is_peopled es && (every (is_within (length ps)) es && each_in_one 0 ps es)
