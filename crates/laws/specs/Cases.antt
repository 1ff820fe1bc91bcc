-- The rose bench examples that are to be proved, 1 to 12, as a single list under one claim. Those about sheet R and
-- document D1 go from the bytes to the answers.
use Rattle.std.specs.Prelude.{ℕ, ◌≡◌, refl, Bool, true, false, Result, Ok}
use mathlib.Core.List.{List, [], ◌∷◌, flat_map}
use Rattle.base.specs.Choice.{pick}
use Rattle.base.specs.Lists.{some, every, keep, total, without, numbers_from}
use Rattle.meaning.specs.Reader.{go_on, ◌>>=◌, ◌>>◌, give, repeat, unless, byte, bytes, number, end, number_of}
use Rattle.meaning.specs.Forest.{axis_of, axis_number, is_near, Forest, none, is_none, size, children_in, forest, steps_from}
use Rattle.meaning.specs.Forest.{steps_of, parent_in, is_child, is_below_in, is_below, reaches}
use Rattle.meaning.specs.Sections.{same_label, label, labels, up_from, path_after, may_hang, is_near_root, near_root, a_step}
use Rattle.meaning.specs.Sections.{steps, pattern, sheet, node_parent, a_node, nodes, document, entry, table}
use Rattle.meaning.specs.Satisfying.{any_or_same, parents_of, label_in, fits_below, hold_below, satisfies}
use Rattle.meaning.specs.Covering.{starred_leaf, may_lie, finds, fits_at, lays, covers}
use Rattle.meaning.specs.Merging.{Merge, alone, joined, branch_size, laid_on, stays_beside, nothing, offer}
use Rattle.meaning.specs.Merging.{common_label, body_of, meet, meet_at, across, through, merge_within, merge}
use Rattle.meaning.specs.Building.{no_entry, entry_at, entry_steps, steps_together, entries_from, pair, covers_other, ascends}
use Rattle.meaning.specs.Building.{pairs_of, pairs_below, join_at, covering, settle_at, settle_times, settle, saves, better}
use Rattle.meaning.specs.Building.{best_of, best_pair, cut, largest, cut_largest, merge_or_cut, round, rounds_from, build}
use Rattle.meaning.specs.Fair.{is_member, has_member, entries_of, one_that_covers, each_in_one, is_peopled, is_within, fair}
use Rattle.meaning.specs.Routing.{delivery_set, plain_route, members_of, matches_for, delivered_from, table_route, tried_for, tried}
use Rattle.meaning.specs.LabelBytes.{label_at}
use Rattle.meaning.specs.Written.{step_bytes, pattern_bytes, number_bytes, entry_bytes, table_bytes}
use Rattle.meaning.specs.Calls.{judged, fair_table, is_subscription, subscription, matches_answer, covers_answer}
use Rattle.meaning.specs.Calls.{three_judged, Writing, writes, merge_writing, build_writing, plain_answer, table_answer}
use Rattle.meaning.specs.PatternText.{ascii, axis_text, label_text, several, in_brackets, branches_text, pattern_text}
use Rattle.meaning.specs.Printing.{decimal_in, decimal, comma_text, totals_text, entry_text, table_text, asking, printed}
use Rattle.meaning.specs.declared.Tabled.{Tabled}
use Rattle.meaning.specs.RoseBench.{sheet_r, document_d1, document_sony, table_r3, table_r2, table_r0, merge_r01, slash, slashes, a, b, c, star}
use Rattle.meaning.specs.declared.Refusal.{Refusal}

-- what an example answers
pub data Answer : Type 0 where
  asks : Result Bool Refusal → Answer
  routes : Result ℕ Refusal → Answer
  routes_by : Result Tabled Refusal → Answer
  covered : Bool → Answer
  merges : Merge → Answer
  writes_merge : Writing Bool → Answer
  builds : Writing ℕ → Answer

-- a pattern of sheet R, as it is read
unfoldable pub of_r : ℕ → Forest
of_r i = judged (sheet sheet_r) (λ n. none) (λ sh. subscription sh i)

unfoldable pub case_answers : List Answer
case_answers =
    -- 1
    asks (matches_answer sheet_r document_d1 0)
    ∷ asks (matches_answer sheet_r document_d1 1)
    ∷ asks (matches_answer sheet_r document_d1 2)
    ∷ routes (plain_answer sheet_r document_d1)
    -- 2
    ∷ routes (plain_answer sheet_r document_sony)
    -- 3
    ∷ asks (covers_answer sheet_r 2 0)
    ∷ asks (covers_answer sheet_r 0 2)
    -- 4
    ∷ asks (covers_answer sheet_r 1 0)
    ∷ covered (covers (slashes 3 none) (of_r 0))
    ∷ covered (covers (slashes 3 none) (of_r 1))
    -- 5
    ∷ covered (covers none (of_r 0))
    ∷ covered (covers (slashes star none) none)
    -- 6
    ∷ covered (covers (slash star none) (slashes 1 none))
    -- 7
    ∷ covered (covers (slash star (slashes b none)) (slashes star (slash b none)))
    ∷ covered (covers (slashes star (slash b none)) (slash star (slashes b none)))
    -- 8
    ∷ merges (merge (slash a (slash b none)) (slash a (slash c none)))
    -- 9
    ∷ writes_merge (merge_writing sheet_r 0 1)
    -- 10
    ∷ builds (build_writing sheet_r 3)
    -- 11
    ∷ builds (build_writing sheet_r 2)
    ∷ builds (build_writing sheet_r 0)
    -- 12
    ∷ routes_by (table_answer sheet_r table_r3 document_d1)
    ∷ []

unfoldable pub case_expected : List Answer
case_expected =
    -- 1: D1 satisfies s0 and s2 and not s1; plain route 5
    asks (Ok true)
    ∷ asks (Ok false)
    ∷ asks (Ok true)
    ∷ routes (Ok 5)
    -- 2: a document of one node SONY: route 0
    ∷ routes (Ok 0)
    -- 3: s2 covers s0; s0 doesn't cover s2
    ∷ asks (Ok true)
    ∷ asks (Ok false)
    -- 4: s1 doesn't cover s0; //Bach covers s0 and s1
    ∷ asks (Ok false)
    ∷ covered true
    ∷ covered true
    -- 5: a pattern without steps covers s0; //* doesn't cover a pattern without steps
    ∷ covered true
    ∷ covered false
    -- 6: /* covers //CD
    ∷ covered true
    -- 7: /*//b and //*/b: neither covers
    ∷ covered false
    ∷ covered false
    -- 8: merge of /a/b and /a/c is /a/*
    ∷ merges (record { pattern = slash a (slash star none); clipped = false })
    -- 9: merge of s0 and s1 is [//CD//Bach][//*/Bach], not clipped
    ∷ writes_merge (writes false merge_r01)
    -- 10: R at limit 3: entries //CD/Bach with member 1, then /CD with members 0 and 2; 0 rounds
    ∷ builds (writes 0 table_r3)
    -- 11: R at limit 2: one entry //CD, members 0, 1, 2; 1 round. At limit 0: a pattern without steps, 2 rounds
    ∷ builds (writes 1 table_r2)
    ∷ builds (writes 2 table_r0)
    -- 12: D1 through the limit 3 table: 5, 4 tried
    ∷ routes_by (Ok (record { set = 5; tried = 4 }))
    ∷ []

-- the one claim
pub rose_bench : case_answers ≡ case_expected
unfolding
    case_answers case_expected of_r sheet_r document_d1 document_sony table_r3 table_r2 table_r0 merge_r01 slash slashes a b c star ascii flat_map pick some every keep total without numbers_from go_on ◌>>=◌ ◌>>◌ give repeat unless byte bytes number end number_of axis_of axis_number is_near size children_in forest steps_from steps_of parent_in is_child is_below_in is_below reaches same_label label labels up_from path_after may_hang is_near_root near_root a_step steps pattern sheet node_parent a_node nodes document entry table any_or_same parents_of label_in fits_below hold_below satisfies is_none starred_leaf may_lie finds fits_at lays covers alone joined branch_size laid_on stays_beside nothing offer common_label body_of meet meet_at across through merge_within merge no_entry entry_at entry_steps steps_together entries_from pair covers_other ascends pairs_of pairs_below join_at covering settle_at settle_times settle saves better best_of best_pair cut largest cut_largest merge_or_cut round rounds_from build is_member has_member entries_of one_that_covers each_in_one is_peopled is_within fair delivery_set plain_route members_of matches_for delivered_from table_route tried_for tried step_bytes pattern_bytes number_bytes entry_bytes table_bytes judged fair_table three_judged is_subscription subscription matches_answer covers_answer merge_writing build_writing plain_answer table_answer
rose_bench = refl

-- what the program prints for R at limit 2, exactly
pub printed-R : printed (2 ∷ 0 ∷ sheet_r) ≡ ascii "3 subscriptions, 1 entries, 1 steps, 1 rounds\n0,1,2: //CD\n"
unfolding
    sheet_r ascii flat_map pick some every keep total without numbers_from go_on ◌>>=◌ ◌>>◌ give repeat unless byte bytes number end number_of axis_of axis_number is_near size children_in forest steps_from steps_of same_label label labels up_from path_after may_hang is_near_root near_root a_step steps pattern sheet any_or_same is_none starred_leaf may_lie finds fits_at lays covers alone joined branch_size laid_on stays_beside nothing offer common_label body_of meet meet_at across through merge_within merge no_entry entry_at entry_steps steps_together entries_from pair covers_other ascends pairs_of pairs_below join_at covering settle_at settle_times settle saves better best_of best_pair cut largest cut_largest merge_or_cut round rounds_from build is_member members_of label_at judged decimal_in decimal axis_text label_text several in_brackets branches_text pattern_text comma_text totals_text entry_text table_text asking printed
printed-R = refl
