-- The customer's three demands, on bytes, and then what the change requests promise: what is proved of each, in one place. What a
-- call gives is its answer, for any bytes and numbers, by its promise (`meaning`, Promises); this page says of the answers what
-- the customer asked for. Many theorems speak of a sheet and a document as they were read: `sheet_of_0` and `document_of_0` give
-- that where the number is 0.
use Rattle.std.specs.Prelude.{ℕ, suc, ◌+◌, ◌≤◌, ◌<◌, ◌≡◌, refl, ◌⊎◌, ◌↔◌, Bool, true, false, not, length, take, Result, Ok, Err}
use Rattle.std.proofs.Common.{sym, ap, ◌∙◌, inl, inr}
use mathlib.Core.List.{List, [], map, Memᴰ}
use borrow.Author.Tests.{ltb-true, lt-ltb, le-leb, lt-leb}
use Rattle.base.specs.Bools.{not_both}
use Rattle.base.specs.Choice.{pick}
use Rattle.base.specs.Lists.{every}
use Rattle.meaning.specs.Numbers.{most_steps, longest_line, refusal_number}
use Rattle.meaning.specs.Reader.{read, refused, Went, Reader}
use Rattle.meaning.specs.Forest.{near, axis_of, Forest, none, step, is_none, size, steps_of, is_child}
use Rattle.meaning.specs.Sections.{Sheet, sheet, Document, document, Node, Entry}
use Rattle.meaning.specs.Satisfying.{satisfies, parents_of}
use Rattle.meaning.specs.Covering.{step_at, step_parents, is_starred_leaf, LiesWell, Laying, covers}
use Rattle.meaning.specs.Merging.{merge}
use Rattle.meaning.specs.Building.{steps_together, entries_from, settle, build}
use Rattle.meaning.specs.Fair.{is_member, entries_of, fair}
use Rattle.meaning.specs.Routing.{plain_route, table_route, tried, wanted, tried_until_wanted}
use Rattle.meaning.specs.LabelBytes.{labels_of, is_label, label_at}
use Rattle.meaning.specs.ByBytes.{Satisfied}
use Rattle.meaning.specs.Written.{pattern_bytes, sheet_bytes, table_bytes}
use Rattle.meaning.specs.Calls.{judged, fair_table, three_judged, is_subscription, subscription, sheet_number, document_number, table_number}
use Rattle.meaning.specs.Calls.{matches_answer, covers_answer, Writing, refuses, writes, with_room, after, merge_writing, merge_answer}
use Rattle.meaning.specs.Calls.{build_writing, build_answer, plain_answer, table_answer, wanted_answer, label_number, label_part}
use Rattle.meaning.specs.PatternText.{pattern_text}
use Rattle.meaning.specs.Notation.{writable, called, Sketch, Line, Drawn, drawn_size, steps_drawn, RefusedAt}
use Rattle.meaning.specs.Lines.{off_at, draws, read_line}
use Rattle.meaning.specs.LineCalls.{name_number, is_known, known_drawn, numbered_step, line_answer, step_writable, text_writing, only_pattern}
use Rattle.meaning.specs.LineCalls.{pattern_writing, subscription_writing, output_answer}
use Rattle.meaning.specs.Printing.{asking}
use Rattle.meaning.specs.Given.{Given, refusal, ToldByNumber, asked_given, merged_given}
use Rattle.meaning.specs.Given.{built_given, LineValues, lined_given, output_given, routed_given, tabled_given}
use Rattle.meaning.specs.Promises.{MatchesGives, CoversGives, MergeGives, BuildGives, PlainRouteGives, TableRouteGives, WantedGives}
use Rattle.meaning.specs.Promises.{ReadLineGives, WritePatternGives, WriteSubscriptionGives}
use Rattle.meaning.specs.declared.Step.{Step}
use Rattle.laws.specs.Refusals.{NotZero, Numbered, sheet-numbered, document-numbered, fair_table-numbered, asking-numbered}
use Rattle.laws.specs.Refusals.{only_pattern-numbered}
use Rattle.laws.specs.AnswerNumbers as answers
use Rattle.laws.specs.Bridge.{forest-steps_of}
use Rattle.laws.specs.WrittenRising.{written_rises}
use Rattle.laws.specs.Layings.{lays_of_laying, laying_of_lays}
use Rattle.laws.specs.CoversOfCovers.{covers_trans}
use Rattle.laws.specs.Documents as documents
use Rattle.laws.specs.CoveringAnswers as answered
use Rattle.laws.specs.StarredLeaves.{starred_leaf-lies, others_on_near, starred_leaf-covers, near_on_near}
use Rattle.laws.specs.Labels.{document_distinct}
use Rattle.laws.specs.LabelsStand.{StandsIn, sheet-label-stands, document-label-stands}
use Rattle.laws.specs.BytesDecide.{same_number, read-by_bytes}
use Rattle.laws.specs.JudgingGives.{document_rises}
use Rattle.laws.specs.SoundPatterns.{SoundPattern}
use Rattle.laws.specs.RoundTrip.{read-only_pattern, sheet-read}
use Rattle.laws.specs.MergeCovers.{merge-covers-first, merge-covers-second}
use Rattle.laws.specs.InOneEntry.{fair_just_one}
use Rattle.laws.specs.Rounds.{build-within, build-rounds}
use Rattle.laws.specs.Passing as built
use Rattle.laws.specs.Routes.{table_is_plain, fair_table-fair, delivered-bit}
use Rattle.laws.specs.Rising.{Rising}
use Rattle.laws.specs.WantedRoutes.{route_not_zero, wanted_by-table, wanted_by, answer-wanted, tried_no_more, tried_all}
use Rattle.laws.specs.MergeNears.{nears}
use Rattle.laws.specs.LineMeaning.{one_sketch}
use Rattle.laws.specs.NameNumbers.{number_of-label}
use Rattle.laws.specs.LineLabels.{labels-writable}
use Rattle.laws.specs.LineJudged.{line_accepted, accepted_line, refused-place, place-refused}
use Rattle.laws.specs.LineForest.{drawn_forest, drawn-steps, drawn-sound, drawn_unknown, drawn-many, drawn-nears, drawn-written}
use Rattle.laws.specs.LineAnswers.{LineWrites, LineRefused, sheet-refused, other_refused, refused_other, line_writes, line_refused}
use Rattle.laws.specs.LineReadsBack.{ReadsBack, text-short, text-reads-back, pattern-reads-back, subscription-reads-back}
use Rattle.laws.specs.Cases as cases
use Rattle.meaning.specs.declared.Refusal.TheVariants.{CountOutside, SecondNear, NoRoom, NotThere, NotALine, LabelUnknown, NotWritable}
use Rattle.meaning.specs.declared.Merged.{Merged}
use Rattle.meaning.specs.declared.Built.{Built}
use Rattle.meaning.specs.declared.Tabled.{Tabled}
use Rattle.meaning.specs.declared.Refusal.{Refusal}

-- ======== 1. "Every call may be given arbitrary bytes and numbers. It ends, reads and writes only inside what it was lent, and
-- refuses bad input by a fixed number in a fixed order. A refused call gives zeros or an empty part and alters no buffer, save
-- where a change request says what comes or changes instead. Label bytes are never replaced."
--
-- That a call ends and stays inside what it was lent is part of the proof of every function, and bytes that are lent to be read
-- can't be altered, by their type. The numbers are those of `Numbers`; inside the bytes the order is that of `Sections`, among
-- the parts that of `Calls` and `LineCalls`. `sheds` and `lowest_shed` refuse nothing. Instead of zeros a place comes with 13 (#102).

-- ---- refusals are never 0: where a reading is refused the number is not 0

module _ {A : Type 0} where
  not_0 : (r : Reader A) → Numbered r → (s : List ℕ) (n : Refusal) → r s ≡ refused n → 1 ≤ refusal_number n
  unfolding NotZero
  not_0 r h s n e = rw e at (h.not_zero s)

pub sheet-refusal_not_0 : (s : List ℕ) (n : Refusal) → sheet s ≡ refused n → 1 ≤ refusal_number n
sheet-refusal_not_0 = not_0 sheet sheet-numbered

pub document-refusal_not_0 : (sh : Sheet) (d : List ℕ) (n : Refusal) → document sh d ≡ refused n → 1 ≤ refusal_number n
document-refusal_not_0 sh = not_0 (document sh) (document-numbered sh)

pub table-refusal_not_0 : (sh : Sheet) (t : List ℕ) (n : Refusal) → fair_table sh t ≡ refused n → 1 ≤ refusal_number n
table-refusal_not_0 sh = not_0 (fair_table sh) (fair_table-numbered sh)

pub pattern-refusal_not_0 : (known : ℕ) (p : List ℕ) (n : Refusal) → only_pattern known p ≡ refused n → 1 ≤ refusal_number n
pattern-refusal_not_0 known = not_0 (only_pattern known) (only_pattern-numbered known)

pub program_refusal_not_0 : (s : List ℕ) (n : Refusal) → asking s ≡ refused n → 1 ≤ refusal_number n
program_refusal_not_0 = not_0 asking asking-numbered

-- so number 0 means that all was read
pub sheet_of_0 : (s : List ℕ) → sheet_number s ≡ 0 → Went (sheet s)
sheet_of_0 = answers.sheet_0

pub document_of_0 : (s left : List ℕ) (sh : Sheet) → sheet s ≡ read sh left → (d : List ℕ) → document_number s d ≡ 0 → Went (document sh d)
document_of_0 = answers.document_0

pub table_of_0 : (s left : List ℕ) (sh : Sheet) → sheet s ≡ read sh left → (t : List ℕ) → table_number s t ≡ 0 → Went (fair_table sh t)
table_of_0 = answers.table_0

pub label_of_0 : (s d : List ℕ) (n : ℕ) → label_number s d n ≡ 0
    → (w : Went (sheet s)) × (v : Went (document w.value d)) × (is_label (labels_of w.value v.value) n ≡ true)
label_of_0 = answers.label_0

-- and the other calls are refused exactly if the number that they give is not 0
module _ (s : List ℕ) where
  pub matches_told_by_number : (d : List ℕ) (i : ℕ) → ToldByNumber (asked_given (matches_answer s d i))
  matches_told_by_number = answers.matches_told s

  pub covers_told_by_number : (i j : ℕ) → ToldByNumber (asked_given (covers_answer s i j))
  covers_told_by_number = answers.covers_told s

  pub merge_told_by_number : (i j : ℕ) (out : List ℕ) → ToldByNumber (merged_given (merge_answer (with_room out (merge_writing s i j))))
  merge_told_by_number = answers.merge_told s

  pub build_told_by_number : (limit : ℕ) (out : List ℕ) → ToldByNumber (built_given (build_answer (with_room out (build_writing s limit))))
  build_told_by_number = answers.build_told s

  pub plain_route_told_by_number : (d : List ℕ) → ToldByNumber (routed_given (plain_answer s d))
  plain_route_told_by_number = answers.plain_route_told s

  pub table_route_told_by_number : (t d : List ℕ) → ToldByNumber (tabled_given (table_answer s t d))
  table_route_told_by_number = answers.table_route_told s

  pub wanted_told_by_number : (t d : List ℕ) → ToldByNumber (asked_given (wanted_answer s t d))
  wanted_told_by_number = answers.wanted_told s

  pub read_line_told_by_number : (line out : List ℕ) → ToldByNumber (lined_given (line_answer out s line))
  read_line_told_by_number = answers.read_line_told s

  pub write_pattern_told_by_number : (p out : List ℕ) → ToldByNumber (output_given (output_answer (with_room out (pattern_writing s p))))
  write_pattern_told_by_number = answers.write_pattern_told s

  pub write_subscription_told_by_number : (i : ℕ) (out : List ℕ) → ToldByNumber (output_given (output_answer (with_room out (subscription_writing s i))))
  write_subscription_told_by_number = answers.write_subscription_told s

-- ---- the order: the number that a route gives is that of the first part that is refused

-- of the plain route the document's, which is judged beside the sheet and after it
pub plain_route_order : (s d : List ℕ) → (routed_given (plain_answer s d)).number ≡ document_number s d
plain_route_order = answers.plain_route-number

-- of the route by a table first the table's, then the document's
pub table_route_order : (s t d : List ℕ) → (tabled_given (table_answer s t d)).number ≡ answers.first_fault (table_number s t) (document_number s d)
table_route_order = answers.table_route-number

-- and so of "does anyone want it"
pub wanted_order : (s t d : List ℕ) → (asked_given (wanted_answer s t d)).number ≡ answers.first_fault (table_number s t) (document_number s d)
wanted_order = answers.wanted-number

-- ---- a refused call gives its number and zeros, or an empty part, and leaves its output as found: whatever keeps the promise

module _ (s : List ℕ) where
  pub matches-refused : (d : List ℕ) (i : ℕ) (g : Given Bool) → MatchesGives s d i g → 1 ≤ g.number → g ≡ refusal g.number false
  matches-refused = answers.matches_zeros s

  pub covers-refused : (i j : ℕ) (g : Given Bool) → CoversGives s i j g → 1 ≤ g.number → g ≡ refusal g.number false
  covers-refused = answers.covers_zeros s

  pub merge-refused : (i j : ℕ) (found : List ℕ) (g : Given Merged) (left : List ℕ) → MergeGives s i j found g left → 1 ≤ g.number
      → (g ≡ refusal g.number (record { length = 0; clipped = false })) × (left ≡ found)
  merge-refused = answers.merge_zeros s

  pub build-refused : (limit : ℕ) (found : List ℕ) (g : Given Built) (left : List ℕ) → BuildGives s limit found g left → 1 ≤ g.number
      → (g ≡ refusal g.number (record { length = 0; rounds = 0 })) × (left ≡ found)
  build-refused = answers.build_zeros s

  pub plain_route-refused : (d : List ℕ) (g : Given ℕ) → PlainRouteGives s d g → 1 ≤ g.number → g ≡ refusal g.number 0
  plain_route-refused = answers.plain_route_zeros s

  pub table_route-refused : (t d : List ℕ) (g : Given Tabled) → TableRouteGives s t d g → 1 ≤ g.number
      → g ≡ refusal g.number (record { set = 0; tried = 0 })
  table_route-refused = answers.table_route_zeros s

  pub wanted-refused : (t d : List ℕ) (g : Given Bool) → WantedGives s t d g → 1 ≤ g.number → g ≡ refusal g.number false
  wanted-refused = answers.wanted_zeros s

  pub write_pattern-refused : (p found : List ℕ) (g : Given ℕ) (left : List ℕ) → WritePatternGives s p found g left → 1 ≤ g.number
      → (g ≡ refusal g.number 0) × (left ≡ found)
  write_pattern-refused = answers.write_pattern_zeros s

  pub write_subscription-refused : (i : ℕ) (found : List ℕ) (g : Given ℕ) (left : List ℕ) → WriteSubscriptionGives s i found g left → 1 ≤ g.number
      → (g ≡ refusal g.number 0) × (left ≡ found)
  write_subscription-refused = answers.write_subscription_zeros s

  -- save the place, which is 0 with every number but 13, and at most 1,024
  pub read_line-refused : (line found : List ℕ) (g : Given LineValues) (left : List ℕ) → ReadLineGives s line found g left → 1 ≤ g.number
      → (g ≡ refusal g.number (record { place = g.values.place; length = 0 })) × (left ≡ found)
  read_line-refused = answers.read_line_zeros s

  pub place_with_13 : (line found : List ℕ) (g : Given LineValues) (left : List ℕ) → ReadLineGives s line found g left
      → (g.values.place ≤ longest_line) × ((g.number ≡ refusal_number NotALine → ⊥) → g.values.place ≡ 0)
  place_with_13 = answers.read_line-place s

  pub label-refused : (d : List ℕ) (n : ℕ) → 1 ≤ label_number s d n → label_part s d n ≡ []
  label-refused = answers.label_empty s

-- ---- label bytes are never replaced: they stand as they are in the sheet or in the document, each label at its place

module _ (s left : List ℕ) (sh : Sheet) (was_read : sheet s ≡ read sh left) where
  -- a sheet's bytes are those with which it is written
  pub sheet_as_written : s ≡ sheet_bytes sh
  sheet_as_written = sym (sheet-read s left sh was_read).stood

  module _ (d rest : List ℕ) (dc : Document) (doc-read : document sh d ≡ read dc rest) where
    -- the part is the label's own bytes
    pub part_is : (n : ℕ) → label_part s d n ≡ label_at (labels_of sh dc) n
    unfolding label_part judged
    part_is n = rw (was_read, doc-read)

    -- labels 1 to S stand in the sheet's section
    pub sheet-label : (n : ℕ) → n < length sh.labels → StandsIn s sh.labels n (label_part s d (suc n))
    sheet-label n l = rw (part_is (suc n)) (sheet-label-stands s left sh was_read dc n l)

    -- labels S + 1 to S + D stand in the document's
    pub document-label : (n : ℕ) → n < length dc.labels → StandsIn d dc.labels n (label_part s d (suc (length sh.labels + n)))
    document-label n l = rw (part_is (suc (length sh.labels + n))) (document-label-stands sh d rest dc doc-read n l)

-- ======== 2. "A subscription matches a document exactly when the published tree pattern meaning says so. Pattern A covers
-- pattern B exactly when A can be laid onto B step for step by the rules of document 01; no covering is missed, none made up.
-- The merge of two patterns, the table built for a step limit with its rounds, and a route with its tries are exactly those that
-- the same document defines."

-- yes, and it holds; or no, and it doesn't
abbrev pub Decided : Result Bool Refusal → Type 0 → Type 0
Decided answer Holds = ((answer ≡ Ok true) × Holds) ⊎ ((answer ≡ Ok false) × (Holds → ⊥))

decided : (answer : Result Bool Refusal) (said : Bool) (Holds : Type 0) → answer ≡ Ok said → (said ≡ true) ↔ Holds → Decided answer Holds
decided answer true Holds e both = inl (e, both.0 refl)
decided answer false Holds e both = inr (e, λ h. not_both false (both.1 h) refl)

-- ---- covering is laying: a place for each written step of A among those of B
pub covers_is_laying : (a b : Forest) → (covers a b ≡ true) ↔ Laying (steps_of a) (steps_of b)
unfolding covers
covers_is_laying a b = (
  λ h. laying_of_lays (steps_of a) (steps_of b) (written_rises a) (written_rises b) (rw (forest-steps_of a, forest-steps_of b) h),
  λ m. rw (forest-steps_of a, forest-steps_of b) at (lays_of_laying (steps_of a) (steps_of b) (written_rises a) (written_rises b) m),
)

module _ (s left : List ℕ) (sh : Sheet) (was_read : sheet s ≡ read sh left) where
  -- for numbers of subscriptions that exist the answer is yes exactly if the one can be laid onto the other
  pub covering : (i j : ℕ) → is_subscription sh i ≡ true → is_subscription sh j ≡ true
      → Decided (covers_answer s i j) (Laying (steps_of (subscription sh i)) (steps_of (subscription sh j)))
  unfolding covers_answer judged pick
  covering i j there-i there-j =
      decided (covers_answer s i j) (covers (subscription sh i) (subscription sh j)) _ (rw (was_read, there-i, there-j))
      (covers_is_laying (subscription sh i) (subscription sh j))

  -- ---- matching is by label bytes
  module _ (d rest : List ℕ) (dc : Document) (doc-read : document sh d ≡ read dc rest) where
    -- two labels of sheet and document have the same number exactly if they have the same bytes
    pub labels-by_bytes : (l m : ℕ) → (1 ≤ l) × (l ≤ length (labels_of sh dc)) → (1 ≤ m) × (m ≤ length (labels_of sh dc))
        → (l ≡ m) ↔ (label_at (labels_of sh dc) l ≡ label_at (labels_of sh dc) m)
    labels-by_bytes l m k n =
        (ap (label_at (labels_of sh dc)), same_number (labels_of sh dc) (document_distinct s left sh was_read d rest dc doc-read) l m k n)

    -- for the number of a subscription that exists the answer is yes exactly if the document satisfies it, where a step's label
    -- and a node's are the same exactly if their bytes are
    pub matching : (i : ℕ) → is_subscription sh i ≡ true → Decided (matches_answer s d i) (Satisfied (labels_of sh dc) dc.nodes (subscription sh i))
    unfolding matches_answer judged pick
    matching i there =
        decided (matches_answer s d i) (satisfies dc.nodes (subscription sh i)) _ (rw (was_read, doc-read, there))
        (read-by_bytes s left sh was_read d rest dc doc-read i there)

    -- a number that doesn't exist is refused by 11
    pub matching-not_there : (i : ℕ) → is_subscription sh i ≡ false → matches_answer s d i ≡ Err NotThere
    unfolding matches_answer judged pick
    matching-not_there i there = rw (was_read, doc-read, there)

  -- ---- what is merged is the merge of the definition, with its mark; it covers both, clipped or not
  pub merging : (i j : ℕ) → is_subscription sh i ≡ true → is_subscription sh j ≡ true
      → (let m = merge (subscription sh i) (subscription sh j) in
      (merge_writing s i j ≡ writes m.clipped (pattern_bytes m.pattern))
      × Laying (steps_of m.pattern) (steps_of (subscription sh i))
      × Laying (steps_of m.pattern) (steps_of (subscription sh j)))
  unfolding merge_writing judged pick merge
  merging i j there-i there-j =
      let p = subscription sh i in
      let q = subscription sh j in (
        rw (was_read, there-i, there-j),
        (covers_is_laying (merge p q).pattern p).0 (merge-covers-first most_steps p q),
        (covers_is_laying (merge p q).pattern q).0 (merge-covers-second most_steps p q),
      )

  -- ---- what is built is the table of the definition, with its rounds, within its limit
  pub building : (limit : ℕ) → (let t = build limit sh.patterns in
      (build_writing s limit ≡ writes t.rounds (table_bytes t.entries))
      × (steps_together t.entries ≤ limit)
      × (t.rounds ≤ steps_together (settle (entries_from 0 sh.patterns))))
  unfolding build_writing judged
  building limit = (rw was_read, build-within limit sh.patterns, build-rounds limit sh.patterns)

-- ---- the examples marked P, as a single list under one claim
pub rose_bench : cases.case_answers ≡ cases.case_expected
rose_bench = cases.rose_bench

-- ======== 3. "Take any sheet, any document sound for it, and any table that passes the table check: every subscription stands in
-- just one entry, and that entry covers it. Then routing by the table, asking members only where their entry matches, gives the
-- same subscriptions as asking each one, under the meaning in 2. Every table we build, for every step limit, passes that check."

-- pattern p stands in just one of the entries that have it as a member, and that entry covers it
pub record InJustOne (p : Forest) (having : List Entry) : Type 0 where
  pub one : length having ≡ 1
  pub covered : (e : Entry) → Memᴰ e having → Laying (steps_of e.pattern) (steps_of p)

module _ (s left : List ℕ) (sh : Sheet) (was_read : sheet s ≡ read sh left) where
  -- of a table that passes the check
  pub passing : (t : List ℕ) → table_number s t ≡ 0
      → (w : Went (fair_table sh t)) × ((i : ℕ) → is_subscription sh i ≡ true → InJustOne (subscription sh i) (entries_of i w.value))
  unfolding is_subscription subscription
  passing t h =
      let w = table_of_0 s left sh was_read t h in
      let fair = fair_table-fair sh t w.left w.value w.reads in (
        w,
        λ i there.
            let just = fair_just_one sh.patterns w.value fair i (ltb-true i (length sh.patterns) there) in
            record { one = just.0; covered = λ e m. (covers_is_laying e.pattern (subscription sh i)).0 (just.1 e m) },
      )

  -- a document that was read beside it
  module _ (d rest : List ℕ) (dc : Document) (doc-read : document sh d ≡ read dc rest) where
    -- bit i of the plain route is set exactly if there is a subscription i, and the document satisfies it
    pub delivered : (i : ℕ) → (is_member (plain_route dc.nodes sh.patterns) i ≡ true) ↔
        ((is_subscription sh i ≡ true) × Satisfied (labels_of sh dc) dc.nodes (subscription sh i))
    unfolding is_subscription subscription
    delivered i =
        let bit = delivered-bit dc.nodes sh.patterns i in
        let meant = read-by_bytes s left sh was_read d rest dc doc-read i in
        (λ h. ((bit.0 h).0, (meant (bit.0 h).0).0 (bit.0 h).1), λ (there, m). bit.1 (there, (meant there).1 m))

-- both routes deliver one set: the plain route's, whose bits `delivered` explains; the tries are those of the definition
pub record SameRoute (s t d : List ℕ) (sh : Sheet) (es : List Entry) (dc : Document) : Type 0 where
  pub plain : plain_answer s d ≡ Ok (plain_route dc.nodes sh.patterns)
  pub by_table_lem : table_answer s t d ≡ Ok (record { set = plain_route dc.nodes sh.patterns; tried = tried dc.nodes es sh.patterns })

-- whenever the sheet, the table and the document have number 0. That members are asked only where their entry matches is the
-- contract of the route in code, which asks by the try alone, and `tried` counts it
pub routing : (s t d : List ℕ) → sheet_number s ≡ 0 → table_number s t ≡ 0 → document_number s d ≡ 0
    → (sh : Went (sheet s)) × (es : Went (fair_table sh.value t)) × (dc : Went (document sh.value d)) × SameRoute s t d sh.value es.value dc.value
unfolding plain_answer table_answer three_judged judged
routing s t d sheet-sound table-sound document-sound =
    let sh = sheet_of_0 s sheet-sound in
    let es = table_of_0 s sh.left sh.value sh.reads t table-sound in
    let dc = document_of_0 s sh.left sh.value sh.reads d document-sound in
    let ps = sh.value.patterns in
    let ns = dc.value.nodes in
    let same : table_route ns es.value ps ≡ plain_route ns ps =
    table_is_plain ns ps es.value (document_rises sh.value d dc.left dc.value dc.reads)
    (fair_table-fair sh.value t es.left es.value es.reads) in
    (sh, es, dc, record { plain = rw (sh.reads, dc.reads); by_table_lem = rw (sh.reads, es.reads, dc.reads, same) })

-- every table that is built, for every sound sheet and every limit, passes the check
pub built_passes : (s left : List ℕ) (sh : Sheet) → sheet s ≡ read sh left → (limit : ℕ) → table_number s (table_bytes (build limit sh.patterns).entries) ≡ 0
built_passes = built.build_passes

-- and so do the bytes that the call leaves in its output, as many as it says, whenever it is not refused
pub output_passes : (s : List ℕ) (limit : ℕ) (out : List ℕ) → (let w = with_room out (build_writing s limit) in
    (built_given (build_answer w)).refused ≡ false → table_number s (take (built_given (build_answer w)).values.length (after out w)) ≡ 0)
output_passes = built.output_passes

-- ======== #101 Does anyone want it? "The print server asks only whether at least one shed takes the document. The answer may come at the
-- first match and equals 'the route is not 0' for every sheet, fair table and document. Refusals: as for the table route."

-- for any bytes at all the answer is whether the route by the table is not 0, and it is refused exactly as that route is
pub wanting : (s t d : List ℕ) → wanted_answer s t d ≡ route_not_zero (table_answer s t d)
wanting = wanted_by-table

-- for a sheet and a document that were read, and a table that passes the check, the answer is yes exactly if there is a subscription
-- that the document satisfies
pub wanted_by-some : (s left : List ℕ) (sh : Sheet) → sheet s ≡ read sh left → (d rest : List ℕ) (dc : Document) → document sh d ≡ read dc rest
    → (t : List ℕ) → table_number s t ≡ 0
    → Decided (wanted_answer s t d) ((i : ℕ) × (is_subscription sh i ≡ true) × Satisfied (labels_of sh dc) dc.nodes (subscription sh i))
unfolding wanted_answer three_judged judged is_subscription subscription
wanted_by-some s left sh was_read d rest dc doc-read t sound =
    let es = table_of_0 s left sh was_read t sound in
    let some_one = wanted_by dc.nodes sh.patterns in
    let meant = read-by_bytes s left sh was_read d rest dc doc-read in
    decided (wanted_answer s t d) (wanted dc.nodes sh.patterns) _ (rw (was_read, es.reads, doc-read)) (
      λ h. let (i, l, own) = some_one.0 h in (i, lt-ltb i (length sh.patterns) l, (meant i (lt-ltb i (length sh.patterns) l)).0 own),
      λ (i, there, m). some_one.1 (i, ltb-true i (length sh.patterns) there, (meant i there).1 m),
    )

-- the tries until the answer comes, at the first member that matches, are no more than those of the route, and as many where nobody
-- wants it. That no more is asked is the contract of `routing::seek`, below the hub, which asks by the try alone
pub wanted_early : (ns : List Node) (es : List Entry) (ps : List Forest) → tried_until_wanted ns es ps ≤ tried ns es ps
wanted_early ns es ps = tried_no_more ns ps es

pub unwanted_late : (ns : List Node) (es : List Entry) (ps : List Forest) → Rising (parents_of ns) → fair ps es ≡ true → wanted ns ps ≡ false
    → tried_until_wanted ns es ps ≡ tried ns es ps
unwanted_late ns es ps up just h = tried_all ns ps es (answer-wanted ns ps es up just ∙ h)

-- ======== #102 Read what growers type. "Read one line of at most 1,024 bytes (enough for any 16 steps) with a sheet's labels and give
-- steps, or refuse. Labels holding any of / * [ ] . or a line feed are not writable and not readable. Also write steps as text in 01's
-- form. What is written reads back as the same steps. The reader accepts exactly these lines, defined apart from it."
--
-- What a line is and what it draws stands in `meaning`, Notation. `LineWrites` and `LineRefused` say what the call answers, and how it
-- leaves its output, whatever that is.

-- ---- the reader accepts exactly the lines of at most 1,024 bytes, and gives the steps that they draw
pub accepting : (line : List ℕ) (ds : List Drawn)
    → (read_line line ≡ draws ds) ↔ ((length line ≤ longest_line) × (t : Sketch) × Line line t × (ds ≡ steps_drawn t))
accepting line ds = (accepted_line line ds, λ (short, t, l, same). line_accepted line t l short ∙ ap draws (sym same))

-- a line has one meaning
pub one_drawing : (line : List ℕ) (t u : Sketch) → Line line t → Line line u → t ≡ u
one_drawing = one_sketch

-- a label that is not writable is not readable
pub not_readable : (line : List ℕ) (t : Sketch) → Line line t → (d : Drawn) → Memᴰ d (steps_drawn t) → (l : List ℕ) → d.name ≡ called l → writable l ≡ true
not_readable = labels-writable

-- a label that is known gets the number of the label with these bytes
pub label-numbered : (ls : List (List ℕ)) (l : List ℕ) → is_known ls (called l) ≡ true → label_at ls (name_number ls (called l)) ≡ l
label-numbered = number_of-label

-- ---- all other bytes are off, at the first byte that no line of any length could have there (the length if they only end early), at
-- most 1,024, and 1,024 for a sound longer line
pub off_at_lem : (line : List ℕ) (i : ℕ) → (read_line line ≡ off_at i) ↔ RefusedAt line i
off_at_lem line i = (refused-place line i, place-refused line i)

-- a sheet that is refused comes first
pub line-after-sheet : (s line : List ℕ) (n : Refusal) → sheet s ≡ refused n → LineRefused s line n 0
line-after-sheet = sheet-refused

module _ (s left : List ℕ) (sh : Sheet) (was_read : sheet s ≡ read sh left) where
  -- 13 comes for those bytes alone, and with that place
  pub not_a_line_lem : (line : List ℕ) (i : ℕ) (out : List ℕ) → (line_answer out s line ≡ Err (record { why = NotALine; place = i })) ↔ RefusedAt line i
  not_a_line_lem line i out = (refused_other s left sh was_read line out i, λ h. (other_refused s left sh was_read line i h).answer out)

  -- ---- a line, with a sheet's labels
  module _ (line : List ℕ) (t : Sketch) (is-line : Line line t) (short : length line ≤ longest_line) where
    -- 14: a label is unknown
    pub label_unknown_lem : every (known_drawn sh.labels) (steps_drawn t) ≡ false → LineRefused s line LabelUnknown 0
    label_unknown_lem h = line_refused s left sh was_read line t is-line short LabelUnknown (drawn_unknown sh.labels t h)

    -- then 5: there are over 16 steps
    pub too_many-steps : every (known_drawn sh.labels) (steps_drawn t) ≡ true → most_steps < drawn_size t → LineRefused s line CountOutside 0
    too_many-steps known many = line_refused s left sh was_read line t is-line short CountOutside (drawn-many sh.labels t known many)

    -- then 9: there is a second near step with parent 0
    pub second_near_lem : every (known_drawn sh.labels) (steps_drawn t) ≡ true → drawn_size t ≤ most_steps → 1 < nears (drawn_forest sh.labels t)
        → LineRefused s line SecondNear 0
    second_near_lem known few two = line_refused s left sh was_read line t is-line short SecondNear (drawn-nears sh.labels t known few two)

    -- otherwise what is written, or 10 where there is no room for it, is the pattern of its steps, which passes the check
    pub line_as_pattern : every (known_drawn sh.labels) (steps_drawn t) ≡ true → drawn_size t ≤ most_steps → nears (drawn_forest sh.labels t) ≤ 1
        → (let f = drawn_forest sh.labels t in
        LineWrites s line (pattern_bytes f)
        × (steps_of f ≡ map (numbered_step sh.labels) (steps_drawn t))
        × (only_pattern (length sh.labels) (pattern_bytes f) ≡ read f []))
    line_as_pattern known few lone = (
      line_writes s left sh was_read line t is-line short _ (drawn-written sh.labels t known few lone),
      sym (drawn-steps sh.labels t),
      read-only_pattern (length sh.labels) _ (drawn-sound sh.labels t few lone),
    )

-- ---- steps are written as text in 01's form, or refused. A sheet that is refused comes first
pub pattern-after-sheet : (s p : List ℕ) (n : Refusal) → sheet s ≡ refused n → pattern_writing s p ≡ refuses n
unfolding pattern_writing judged
pattern-after-sheet s p n h = rw h

pub subscription-after-sheet : (s : List ℕ) (i : ℕ) (n : Refusal) → sheet s ≡ refused n → subscription_writing s i ≡ refuses n
unfolding subscription_writing judged
subscription-after-sheet s i n h = rw h

module _ (s left : List ℕ) (sh : Sheet) (was_read : sheet s ≡ read sh left) where
  -- then a pattern whose bytes are refused, with their number
  pub writing_bytes-refused : (p : List ℕ) (n : Refusal) → only_pattern (length sh.labels) p ≡ refused n → pattern_writing s p ≡ refuses n
  unfolding pattern_writing judged
  writing_bytes-refused p n h = rw (was_read, h)

  -- or the number of a subscription that doesn't exist: 11
  pub writing_not_there : (i : ℕ) → is_subscription sh i ≡ false → subscription_writing s i ≡ refuses NotThere
  unfolding subscription_writing judged pick
  writing_not_there i there = rw (was_read, there)

  -- then 15, where a label is not writable; otherwise the text is to be written
  pub writing_pattern : (p rest : List ℕ) (f : Forest) → only_pattern (length sh.labels) p ≡ read f rest
      → pattern_writing s p ≡ pick (every (step_writable sh.labels) (steps_of f)) (writes tt (pattern_text sh.labels f)) (refuses NotWritable)
  unfolding pattern_writing text_writing judged
  writing_pattern p rest f pattern-read = rw (was_read, pattern-read)

  pub writing_subscription : (i : ℕ) → is_subscription sh i ≡ true → (let f = subscription sh i in
      subscription_writing s i ≡ pick (every (step_writable sh.labels) (steps_of f)) (writes tt (pattern_text sh.labels f)) (refuses NotWritable))
  unfolding subscription_writing text_writing judged pick
  writing_subscription i there = rw (was_read, there)

-- room is judged last: what is refused before is refused by that number, whatever the output
module _ (w : Writing (Unit {0})) (out : List ℕ) where
  pub refused-before-room : (n : Refusal) → w ≡ refuses n → output_answer (with_room out w) ≡ Err n
  unfolding with_room output_answer
  refused-before-room n h = rw h

  -- the text is written where there is room for it
  pub written-with_room : (text : List ℕ) → w ≡ writes tt text → length text ≤ length out → output_answer (with_room out w) ≡ Ok (length text)
  unfolding with_room output_answer pick
  written-with_room text h room = rw (h, le-leb (length text) (length out) room)

  -- and otherwise 10
  pub writing_no_room : (text : List ℕ) → w ≡ writes tt text → length out < length text → output_answer (with_room out w) ≡ Err NoRoom
  unfolding with_room output_answer pick
  writing_no_room text h short = rw (h, lt-leb (length text) (length out) short)

-- ---- what is written is a line and reads back as the same steps, for any pattern of up to 16 steps whose labels are writable

module _ (s left : List ℕ) (sh : Sheet) (was_read : sheet s ≡ read sh left) where
  -- 1,024 bytes are enough for any 16 steps: their text has no more
  pub enough-bytes : (f : Forest) → size f ≤ most_steps → length (pattern_text sh.labels f) ≤ longest_line
  enough-bytes = text-short s left sh was_read

  -- the text of any pattern that passes the check and whose labels are writable is such a line, and what is written of that line is
  -- the pattern's bytes
  pub text-back : (f : Forest) → SoundPattern (length sh.labels) f → every (step_writable sh.labels) (steps_of f) ≡ true
      → ReadsBack s (pattern_text sh.labels f) (pattern_bytes f)
  text-back = text-reads-back s left sh was_read

-- so it is with what the calls leave in their output, as many bytes as they say: a pattern's bytes come back
pub pattern-back : (s p found : List ℕ) (g : Given ℕ) (out : List ℕ) → WritePatternGives s p found g out → g.number ≡ 0 → ReadsBack s (take g.values out) p
pattern-back s p found g out r h = pattern-reads-back s p _ (answers.write_pattern_0 s p found g out r h)

-- and a subscription's steps
pub subscription-back : (s left : List ℕ) (sh : Sheet) → sheet s ≡ read sh left
    → (i : ℕ) (found : List ℕ) (g : Given ℕ) (out : List ℕ) → WriteSubscriptionGives s i found g out → g.number ≡ 0
    → ReadsBack s (take g.values out) (pattern_bytes (subscription sh i))
subscription-back s left sh was_read i found g out r h =
    subscription-reads-back s left sh was_read i _ (answers.write_subscription_0 s i found g out r h)

-- ======== #103 A starred leaf is too fussy. "A near step labelled any, without children, may now be laid on any child of its parent's
-- place, near or far. .. Demands 2 and 3 read the new covering; merging, settling and the fair check follow it. The proof that
-- covering never loses a document, and that covers of covers are covers, is made again."
--
-- Demand 2 reads it in `covers_is_laying`, `covering`, `merging` and `building`, demand 3 in `passing`, `routing` and `built_passes`; the
-- three cases that the request names stand in `rose_bench`.

-- such a step lies well on every child of its parent's place
pub starred_leaf_lem : (a b : List Step) (k t u : ℕ) → axis_of (step_at a k).axis ≡ near → is_starred_leaf a k ≡ true
    → (1 ≤ u) × (u ≤ length b) → is_child (step_parents b) t u ≡ true → LiesWell b (step_at a k) (is_starred_leaf a k) t u
starred_leaf_lem = starred_leaf-lies

-- any other near step only on near ones
pub no_starred_leaf : (a b : List Step) (k t u : ℕ) → axis_of (step_at a k).axis ≡ near → is_starred_leaf a k ≡ false
    → LiesWell b (step_at a k) (is_starred_leaf a k) t u → axis_of (step_at b u).axis ≡ near
no_starred_leaf a b k t u at-near other w = others_on_near b (step_at a k) t u at-near (rw other at w)

-- alone it covers exactly the patterns that have a step
pub starred_leaf-alone : (f : Forest) → covers (step near 0 none none) f ≡ not (is_none f)
starred_leaf-alone = starred_leaf-covers

-- what can be laid without that, near steps on near ones alone, can be laid: a pattern that covers by the rule of document 01 covers.
-- A table is fair by the coverings that it has, so one that is fair by that rule is fair
pub near-alone-covers : (a b : Forest) (place : ℕ → ℕ) → place 0 ≡ 0
    → ((k : ℕ) → 1 ≤ k → k ≤ length (steps_of a)
    → LiesWell (steps_of b) (step_at (steps_of a) k) false (place (step_at (steps_of a) k).parent) (place k))
    → covers a b ≡ true
near-alone-covers a b place root lies = (covers_is_laying a b).1 (near_on_near (steps_of a) (steps_of b) place root lies)

-- a document that satisfies a pattern satisfies each that covers it
pub covering_loses_none : (ns : List Node) (a b : Forest) → Rising (parents_of ns) → covers a b ≡ true → satisfies ns b ≡ true → satisfies ns a ≡ true
covering_loses_none = documents.covering_loses_none

-- covers of covers are covers
pub covers_of_covers : (a b c : Forest) → covers a b ≡ true → covers b c ≡ true → covers a c ≡ true
covers_of_covers = covers_trans

-- so it is with the answers, for any bytes at all: where subscription i covers j, every document that satisfies j satisfies i
pub answers_lose_none : (s d : List ℕ) (i j : ℕ) → covers_answer s i j ≡ Ok true → matches_answer s d j ≡ Ok true
    → matches_answer s d i ≡ Ok true
answers_lose_none = answered.answers_lose_none

-- and where i covers j and j covers k, i covers k
pub answers_of_covers : (s : List ℕ) (i j k : ℕ) → covers_answer s i j ≡ Ok true → covers_answer s j k ≡ Ok true
    → covers_answer s i k ≡ Ok true
answers_of_covers = answered.answers_of_covers
