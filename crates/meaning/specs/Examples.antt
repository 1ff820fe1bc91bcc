-- The smallest examples that tell each definition from an easy misreading of it, as one list under one claim. The edits
-- in must-fail/ make each misreading, and the claim fails.
use Rattle.std.specs.Prelude.{Result, Ok, Err, ℕ, ◌≡◌, refl, Bool, true, false, replicate}
use mathlib.Core.List.{List, [], ◌∷◌, ◌++◌, map, flat_map}
use Rattle.base.specs.Choice.{pick}
use Rattle.base.specs.Lists.{some, every, keep, total, without, numbers_from}
use Rattle.meaning.specs.Reader.{go_on, ◌>>=◌, ◌>>◌, give, repeat, unless, byte, bytes, number, end, number_of}
use Rattle.meaning.specs.Forest.{axis_of, axis_number, is_near, Forest, none, is_none, size, children_in, forest, steps_from}
use Rattle.meaning.specs.Forest.{steps_of, parent_in, is_child, is_below_in, is_below, reaches, beside}
use Rattle.meaning.specs.Sections.{same_label, label, labels, up_from, path_after, may_hang, is_near_root, near_root, a_step, steps}
use Rattle.meaning.specs.Sections.{pattern, sheet, Node, node_parent, a_node, nodes, document, entry, table}
use Rattle.meaning.specs.Satisfying.{any_or_same, parents_of, label_in, fits_below, hold_below, satisfies}
use Rattle.meaning.specs.Covering.{starred_leaf, may_lie, finds, fits_at, lays, covers}
use Rattle.meaning.specs.Merging.{Merge, alone, joined, branch_size, laid_on, stays_beside, nothing, offer}
use Rattle.meaning.specs.Merging.{common_label, body_of, meet, meet_at, across, through, merge_within, merge}
use Rattle.meaning.specs.Building.{no_entry, entry_at, entry_steps, steps_together, entries_from, pair, covers_other, ascends}
use Rattle.meaning.specs.Building.{pairs_of, pairs_below, join_at, covering, settle_at, settle_times, settle, saves, better}
use Rattle.meaning.specs.Building.{best_of, best_pair, cut, largest, cut_largest, merge_or_cut, round, rounds_from, build}
use Rattle.meaning.specs.Fair.{is_member, has_member, entries_of, one_that_covers, each_in_one, is_peopled, is_within, fair}
use Rattle.meaning.specs.Routing.{delivery_set, plain_route, members_of, tried_for, tried, wanted, members_say, answer_comes, until_yes, tried_until_wanted}
use Rattle.meaning.specs.LabelBytes.{labels_of, is_label}
use Rattle.meaning.specs.Written.{step_bytes, pattern_bytes}
use Rattle.meaning.specs.Calls.{judged, fair_table, three_judged, is_subscription, subscription, sheet_number, document_number, table_number}
use Rattle.meaning.specs.Calls.{matches_answer, wanted_answer, with_room, after, merge_writing, merge_answer, label_number}
use Rattle.meaning.specs.Given.{Given, refusal, gives, by_number, asked_given, tabled_given}
use Rattle.meaning.specs.PatternText.{ascii}
use Rattle.meaning.specs.RoseBench.{sheet_r, slash, slashes, a, b, c, star}
use Rattle.meaning.specs.declared.Merged.{Merged}
use Rattle.meaning.specs.declared.Tabled.{Tabled}
use Rattle.meaning.specs.declared.Refusal.{Refusal}
use Rattle.meaning.specs.declared.Refusal.TheVariants.{BytesRemain, EndsEarly, NoRoom, NotFair, NotThere}

-- ---- documents, as parent and label of each node

unfoldable pub node : ℕ → ℕ → Node
node parent label = record { parent = parent; label = label }

-- a
unfoldable pub only_a : List Node
only_a = node 0 a ∷ []

-- a over b
unfoldable pub a_over_b : List Node
a_over_b = node 0 a ∷ node 1 b ∷ []

-- a over b over c
unfoldable pub a_over_b_over_c : List Node
a_over_b_over_c = node 0 a ∷ node 1 b ∷ node 2 c ∷ []

unfoldable pub satisfied : List Bool
satisfied =
    -- //a finds the document's root
    satisfies only_a (slashes a none)
    -- /a//a: far is strictly below
    ∷ satisfies only_a (slash a (slashes a none))
    -- /a[/b][/*]: two child steps may use one node
    ∷ satisfies a_over_b (slash a (beside (slash b none) (slash star none)))
    -- /a/c: near is a child
    ∷ satisfies a_over_b_over_c (slash a (slash c none))
    -- /a//c: far is any depth
    ∷ satisfies a_over_b_over_c (slash a (slashes c none))
    -- a pattern without steps is satisfied by every document
    ∷ satisfies only_a none
    ∷ []

unfoldable pub covered : List Bool
covered =
    -- /a on //a: near only on near
    covers (slash a none) (slashes a none)
    -- /* on //a and on //*/*: but a starred leaf on any child
    ∷ covers (slash star none) (slashes a none)
    ∷ covers (slash star none) (slashes star (slash star none))
    -- /*/* on //*/*: with a child step it is no leaf
    ∷ covers (slash star (slash star none)) (slashes star (slash star none))
    -- /a/* on /a//b and on /a//b/c: so below any step
    ∷ covers (slash a (slash star none)) (slash a (slashes b none))
    ∷ covers (slash a (slash star none)) (slash a (slashes b (slash c none)))
    -- /a[/*][/b], /a[/*][//b] and /a[//b][/*] on /a//b: each step for itself, whatever stands beside it
    ∷ covers (slash a (beside (slash star none) (slash b none))) (slash a (slashes b none))
    ∷ covers (slash a (beside (slash star none) (slashes b none))) (slash a (slashes b none))
    ∷ covers (slash a (beside (slashes b none) (slash star none))) (slash a (slashes b none))
    -- /* on a pattern without steps: there has to be a child
    ∷ covers (slash star none) none
    -- //* on /a
    ∷ covers (slashes star none) (slash a none)
    -- //a on /b/a: far on any step strictly below
    ∷ covers (slashes a none) (slash b (slash a none))
    -- /a on /*: a label only on the same
    ∷ covers (slash a none) (slash star none)
    -- /a[/b][/*] on /a/b: several steps may share a place
    ∷ covers (slash a (beside (slash b none) (slash star none))) (slash a (slash b none))
    -- /a//a on /a: far is strictly below
    ∷ covers (slash a (slashes a none)) (slash a none)
    ∷ []

-- ---- merges

unfoldable pub merges : List Merge
merges =
    -- /b with /a/b, and /a with /*/a: all pairs below, and a starred leaf is dropped for a far candidate
    merge (slash b none) (slash a (slash b none))
    ∷ merge (slash a none) (slash star (slash a none))
    -- [//b][/a] with /c: a starred leaf is skipped where a far candidate is kept
    ∷ merge (beside (slashes b none) (slash a none)) (slash c none)
    -- [/a/*][//c] with /a//b: a body with a starred leaf is taken where a far step is below
    ∷ merge (beside (slash a (slash star none)) (slashes c none)) (slash a (slashes b none))
    -- //a//a with //c//a: a far candidate inside a kept one
    ∷ merge (slashes a (slashes a none)) (slashes c (slashes a none))
    -- /b with [//c][//b]: kept ones are dropped
    ∷ merge (slash b none) (beside (slashes c none) (slashes b none))
    -- //a//b with /b//a: v' outside, w' inside
    ∷ merge (slashes a (slashes b none)) (slash b (slashes a none))
    -- /c[/b][//b] with //c//c/b: v' before w'
    ∷ merge (slash c (beside (slash b none) (slashes b none))) (slashes c (slashes c (slash b none)))
    -- /a/b with /a/c, and no body above one step: the mark comes from the body of a
    ∷ merge_within 1 (slash a (slash b none)) (slash a (slash c none))
    ∷ []

unfoldable pub expected_merges : List Merge
expected_merges =
    -- //b, and //a
    whole (slashes b none)
    ∷ whole (slashes a none)
    -- //*
    ∷ whole (slashes star none)
    -- /a/*
    ∷ whole (slash a (slash star none))
    -- //*//a
    ∷ whole (slashes star (slashes a none))
    -- //b
    ∷ whole (slashes b none)
    -- [//*//*][//a][//b]
    ∷ whole (beside (slashes star (slashes star none)) (beside (slashes a none) (slashes b none)))
    -- //c[/b][//b]
    ∷ whole (slashes c (beside (slash b none) (slashes b none)))
    -- /a, clipped
    ∷ record { pattern = slash a none; clipped = true }
    ∷ []
  where
    whole : Forest → Merge
    whole f = record { pattern = f; clipped = false }

-- the size of a merge, and whether it is clipped
pub record Measured : Type 0 where
  pub steps : ℕ
  pub clipped : Bool

unfoldable pub measured : Merge → Measured
measured m = record { steps = size m.pattern; clipped = m.clipped }

unfoldable pub sized : ℕ → Bool → Measured
sized n mark = record { steps = n; clipped = mark }

unfoldable pub sizes : List Measured
sizes =
    -- //a/a/b//a with /a/b/a/b: the root is not counted
    measured (merge (slashes a (slash a (slash b (slashes a none)))) (slash a (slash b (slash a (slash b none)))))
    -- /a/a/b/b with //a/a/a/a/b: the size is judged after the drops
    ∷ measured (merge (slash a (slash a (slash b (slash b none)))) (slashes a (slash a (slash a (slash a (slash b none))))))
    ∷ []

-- ---- numbers

-- one label A, and one pattern without steps
unfoldable pub sheet_a : List ℕ
sheet_a = 1 ∷ 1 ∷ 65 ∷ 1 ∷ 0 ∷ []

-- a document of one node A
unfoldable pub node_a : List ℕ
node_a = 0 ∷ 1 ∷ 0 ∷ 0 ∷ 0 ∷ 1 ∷ []

unfoldable pub numbers : List ℕ
numbers =
    -- each field is judged when its last byte is there: 65 patterns; 17 steps; a label of 61 bytes; one of none
    sheet_number (0 ∷ 65 ∷ [])
    ∷ sheet_number (0 ∷ 1 ∷ 17 ∷ [])
    ∷ sheet_number (1 ∷ 61 ∷ [])
    ∷ sheet_number (1 ∷ 0 ∷ [])
    -- a label of 60 bytes
    ∷ sheet_number (1 ∷ 60 ∷ (replicate 60 65 ++ (0 ∷ [])))
    -- parents 0, 1, 2, 1, and 0, 1, 1, 2
    ∷ sheet_number (0 ∷ 1 ∷ 4 ∷ 0 ∷ 0 ∷ 0 ∷ 1 ∷ 0 ∷ 0 ∷ 2 ∷ 0 ∷ 0 ∷ 1 ∷ 0 ∷ 0 ∷ [])
    ∷ sheet_number (0 ∷ 1 ∷ 4 ∷ 0 ∷ 0 ∷ 0 ∷ 1 ∷ 0 ∷ 0 ∷ 1 ∷ 0 ∷ 0 ∷ 2 ∷ 0 ∷ 0 ∷ [])
    -- a second near step with parent 0, at its axis byte; an unknown axis there comes first
    ∷ sheet_number (0 ∷ 1 ∷ 2 ∷ 0 ∷ 0 ∷ 0 ∷ 0 ∷ 0 ∷ [])
    ∷ sheet_number (0 ∷ 1 ∷ 2 ∷ 0 ∷ 0 ∷ 0 ∷ 0 ∷ 2 ∷ [])
    -- a label of the step outside the sheet's; label 0 is any
    ∷ sheet_number (0 ∷ 1 ∷ 1 ∷ 0 ∷ 0 ∷ 1 ∷ [])
    -- the same label twice, judged when complete; bytes after the last section
    ∷ sheet_number (2 ∷ 1 ∷ 65 ∷ 1 ∷ 65 ∷ [])
    ∷ sheet_number (0 ∷ 0 ∷ 0 ∷ [])
    -- one label in the sheet and 255 in the document
    ∷ document_number (1 ∷ 1 ∷ 65 ∷ 0 ∷ []) (255 ∷ [])
    -- a document's node count of one byte, of 0; a label that stands in the sheet; label 0 of a node
    ∷ document_number (0 ∷ 0 ∷ []) (0 ∷ 0 ∷ [])
    ∷ document_number (0 ∷ 0 ∷ []) (0 ∷ 0 ∷ 0 ∷ [])
    ∷ document_number (1 ∷ 1 ∷ 65 ∷ 0 ∷ []) (1 ∷ 1 ∷ 65 ∷ [])
    ∷ document_number (1 ∷ 1 ∷ 65 ∷ 0 ∷ []) (0 ∷ 1 ∷ 0 ∷ 0 ∷ 0 ∷ 0 ∷ [])
    -- a table whose bytes parse, with one entry /CD for all of R: //CD/Bach is not covered
    ∷ table_number sheet_r (1 ∷ 7 ∷ 0 ∷ 0 ∷ 0 ∷ 0 ∷ 0 ∷ 0 ∷ 0 ∷ 1 ∷ 0 ∷ 0 ∷ 1 ∷ [])
    -- bytes that remain come before 12
    ∷ table_number sheet_r (1 ∷ 7 ∷ 0 ∷ 0 ∷ 0 ∷ 0 ∷ 0 ∷ 0 ∷ 0 ∷ 1 ∷ 0 ∷ 0 ∷ 1 ∷ 0 ∷ [])
    -- beside sheet A of one label: the document is judged before the label asked for; 0 is no label, and 1 is the last
    ∷ label_number sheet_a [] 2
    ∷ label_number sheet_a node_a 0
    ∷ label_number sheet_a node_a 1
    ∷ label_number sheet_a node_a 2
    ∷ []

-- ---- building

-- /a/b, /a/c, //d: the pairs (0, 1) and (0, 2) both save 2, and the first is taken, so that 3 steps are left; the next round leaves //*,
-- and the last cuts it
unfoldable pub rounds : List ℕ
rounds = map (λ limit. (build limit (slash a (slash b none) ∷ slash a (slash c none) ∷ slashes 4 none ∷ [])).rounds) (4 ∷ 3 ∷ 2 ∷ 1 ∷ 0 ∷ [])

-- /a/b with /a: entry 1 covers entry 0, so one entry is left, with both
unfoldable pub settled : List ℕ
settled = map (λ e. e.members) (settle (entries_from 0 (slash a (slash b none) ∷ slash a none ∷ [])))

-- ---- routing

-- a over b, by a table of //a with members 0 and 2, and //c with member 1: two entries, and the members of the first
unfoldable pub tries : ℕ
tries =
    tried a_over_b
    (record { members = 5; pattern = slashes a none } ∷ record { members = 2; pattern = slashes c none } ∷ [])
    (slash a none ∷ slash c none ∷ slash a (slash b none) ∷ [])

-- ---- does anyone want it

unfoldable pub wants : List Bool
wants =
    -- the second shed alone takes it; both do
    wanted only_a (slash b none ∷ slash a none ∷ [])
    ∷ wanted only_a (slash a none ∷ slashes a none ∷ [])
    -- the only subscription doesn't match; there is none
    ∷ wanted only_a (slashes a (slashes b none) ∷ [])
    ∷ wanted only_a []
    ∷ []

-- a over b, by a table of //a for 0, //c for 3, and //b for 1 and 2; subscription 3 is //c, and the others are given
unfoldable pub until_wanted : Forest → Forest → Forest → ℕ
until_wanted p q r =
    tried_until_wanted a_over_b
    (record { members = 1; pattern = slashes a none }
    ∷ record { members = 8; pattern = slashes c none }
    ∷ record { members = 6; pattern = slashes b none }
    ∷ [])
    (p ∷ q ∷ r ∷ slashes c none ∷ [])

unfoldable pub untils : List ℕ
untils =
    -- the first member of the first entry: nothing is asked afterwards
    until_wanted (slash a none) (slashes b none) (slashes b none)
    -- the first member of the last entry: all entries, and a member of each that matches
    ∷ until_wanted (slashes a (slashes c none)) (slashes b none) (slashes b none)
    -- its second member
    ∷ until_wanted (slashes a (slashes c none)) (slashes b (slashes c none)) (slashes b none)
    -- none: all entries, and all members of each that matches
    ∷ until_wanted (slashes a (slashes c none)) (slashes b (slashes c none)) (slashes b (slashes b none))
    ∷ []

-- ---- what is asked, and what is written

-- labels A and B, and one pattern /B
unfoldable pub sheet_b : List ℕ
sheet_b = 2 ∷ 1 ∷ 65 ∷ 1 ∷ 66 ∷ 1 ∷ 1 ∷ 0 ∷ 0 ∷ 2 ∷ []

-- one entry, without steps: with the only subscription as its member, or without members
unfoldable pub table_a : ℕ → List ℕ
table_a members = 1 ∷ members ∷ 0 ∷ 0 ∷ 0 ∷ 0 ∷ 0 ∷ 0 ∷ 0 ∷ 0 ∷ []

unfoldable pub asks : List (Result Bool Refusal)
asks =
    -- the document is judged before the number asked for
    matches_answer sheet_a [] 1
    ∷ matches_answer sheet_a node_a 1
    ∷ matches_answer sheet_a node_a 0
    -- every document is wanted; the entry matches, and its only member doesn't
    ∷ wanted_answer sheet_a (table_a 1) node_a
    ∷ wanted_answer sheet_b (table_a 1) node_a
    -- a document that is wanted is judged in full, and so is its table; 12 comes before the document
    ∷ wanted_answer sheet_a (table_a 1) (node_a ++ (0 ∷ []))
    ∷ wanted_answer sheet_a (table_a 1 ++ (0 ∷ [])) node_a
    ∷ wanted_answer sheet_a (table_a 0) []
    ∷ []

-- what is given with yes, and with a refusal
unfoldable pub asked_givens : List (Given Bool)
asked_givens = asked_given (Ok true) ∷ asked_given (Err NotFair) ∷ []

-- the merge of the pattern without steps with itself takes one byte
unfoldable pub merges_into : List ℕ → Result Merged Refusal
merges_into out = merge_answer (with_room out (merge_writing sheet_a 0 0))

unfoldable pub leaves : List ℕ → List ℕ
leaves out = after out (with_room out (merge_writing sheet_a 0 0))

unfoldable pub writings : List (Result Merged Refusal)
writings =
    -- no room, just enough, and more
    merges_into []
    ∷ merges_into (7 ∷ [])
    ∷ merges_into (7 ∷ 8 ∷ 9 ∷ [])
    ∷ []

-- what is given in each case: whether it is refused, the number and the values
unfoldable pub givens : List (Given Tabled)
givens = tabled_given (Err NotFair) ∷ tabled_given (Ok (record { set = 5; tried = 4 })) ∷ by_number 0 (record { set = 5; tried = 4 }) ∷ []

-- bytes behind the written part are as found
unfoldable pub outputs : List (List ℕ)
outputs = leaves [] ∷ leaves (7 ∷ []) ∷ leaves (7 ∷ 8 ∷ 9 ∷ []) ∷ []

pub record All : Type 0 where
  pub satisfied : List Bool
  pub covered : List Bool
  pub merges : List Merge
  pub sizes : List Measured
  pub numbers : List ℕ
  pub rounds : List ℕ
  pub settled : List ℕ
  pub tries : ℕ
  pub wants : List Bool
  pub untils : List ℕ
  pub asks : List (Result Bool Refusal)
  pub asked_givens : List (Given Bool)
  pub writings : List (Result Merged Refusal)
  pub outputs : List (List ℕ)
  pub givens : List (Given Tabled)

unfoldable pub answers : All
answers = record {
  satisfied = satisfied;
  covered = covered;
  merges = merges;
  sizes = sizes;
  numbers = numbers;
  rounds = rounds;
  settled = settled;
  tries = tries;
  wants = wants;
  untils = untils;
  asks = asks;
  asked_givens = asked_givens;
  writings = writings;
  outputs = outputs;
  givens = givens;
}

unfoldable pub expected : All
expected = record {
  satisfied = true ∷ false ∷ true ∷ false ∷ true ∷ true ∷ [];
  covered = false ∷ true ∷ true ∷ false ∷ true ∷ true ∷ false ∷ true ∷ true ∷ false ∷ true ∷ true ∷ false ∷ true ∷ false ∷ [];
  merges = expected_merges;
  sizes = sized 16 false ∷ sized 9 false ∷ [];
  numbers = 5 ∷ 5 ∷ 3 ∷ 3 ∷ 0 ∷ 0 ∷ 6 ∷ 9 ∷ 7 ∷ 8 ∷ 4 ∷ 2 ∷ 5 ∷ 1 ∷ 5 ∷ 4 ∷ 8 ∷ 12 ∷ 2 ∷ 1 ∷ 11 ∷ 0 ∷ 11 ∷ [];
  rounds = 1 ∷ 1 ∷ 2 ∷ 2 ∷ 3 ∷ [];
  settled = 3 ∷ [];
  tries = 4;
  wants = true ∷ true ∷ false ∷ false ∷ [];
  untils = 2 ∷ 5 ∷ 6 ∷ 6 ∷ [];
  asks = Err EndsEarly ∷ Err NotThere ∷ Ok true ∷ Ok true ∷ Ok false ∷ Err BytesRemain ∷ Err BytesRemain ∷ Err NotFair ∷ [];
  asked_givens = record { refused = false; number = 0; values = true } ∷ record { refused = true; number = 12; values = false } ∷ [];
  writings = Err NoRoom ∷ Ok (record { length = 1; clipped = false }) ∷ Ok (record { length = 1; clipped = false }) ∷ [];
  outputs = [] ∷ (0 ∷ []) ∷ (0 ∷ 8 ∷ 9 ∷ []) ∷ [];
  givens =
      record { refused = true; number = 12; values = record { set = 0; tried = 0 } }
      ∷ record { refused = false; number = 0; values = record { set = 5; tried = 4 } }
      ∷ record { refused = false; number = 0; values = record { set = 5; tried = 4 } }
      ∷ [];
}

pub told_apart : answers ≡ expected
unfolding
    answers expected satisfied covered merges expected_merges measured sized sizes numbers sheet_a node_a rounds settled tries wants until_wanted untils sheet_b table_a asks asked_givens asked_given merges_into leaves writings outputs givens refusal gives by_number tabled_given node only_a a_over_b a_over_b_over_c sheet_r slash slashes beside a b c star ascii pick some every keep total without numbers_from go_on ◌>>=◌ ◌>>◌ give repeat unless byte bytes number end number_of axis_of is_near size children_in forest parent_in is_child is_below_in is_below reaches same_label label labels up_from path_after may_hang is_near_root near_root a_step steps pattern sheet node_parent a_node nodes document entry table any_or_same parents_of label_in fits_below hold_below satisfies is_none starred_leaf may_lie finds fits_at lays covers alone joined branch_size laid_on stays_beside nothing offer common_label body_of meet meet_at across through merge_within merge no_entry entry_at entry_steps steps_together entries_from pair covers_other ascends pairs_of pairs_below join_at covering settle_at settle_times settle saves better best_of best_pair cut largest cut_largest merge_or_cut round rounds_from build is_member has_member entries_of one_that_covers each_in_one is_peopled is_within fair delivery_set plain_route members_of tried_for tried wanted members_say answer_comes until_yes tried_until_wanted judged fair_table three_judged is_subscription subscription sheet_number document_number table_number labels_of is_label label_number matches_answer wanted_answer with_room after merge_writing merge_answer steps_from steps_of axis_number step_bytes pattern_bytes flat_map
told_apart = refl
