-- What the number of an answer tells: 0 is given exactly where a call is not refused, so number 0 means that every part was
-- read; and a refused call gives zeros (13 the place of the fault) or an empty part and leaves a lent output as found.
use Rattle.std.specs.Prelude.{ℕ, zero, suc, ◌≤◌, ◌≡◌, Bool, List, [], eqb, leb, length, take, drop, Result, Ok, Err}
use Rattle.std.proofs.Math.Path.{refl, sym}
use Rattle.std.proofs.Common.{ap, ◌∙◌, ⊎_elim, arith, ne_eqb, le-leb, leb-false, take_at}
use Rattle.std.proofs.Math.Bool.{true, false, not}
use Rattle.std.proofs.lemmas.Bool.{false≢true}
use Rattle.std.proofs.Math.ListN.{get_or-eq_default}
use Rattle.base.specs.Choice.{pick}
use Rattle.meaning.specs.Numbers.{done, longest_line, refusal_number}
use Rattle.meaning.specs.Reader.{Reading, read, refused, Went, number_of}
use Rattle.meaning.specs.Forest.{Forest}
use Rattle.meaning.specs.Sections.{Sheet, sheet, Document, document, Entry}
use Rattle.meaning.specs.Routing.{plain_route}
use Rattle.meaning.specs.LabelBytes.{labels_of, is_label, label_at}
use Rattle.meaning.specs.Calls.{judged, fair_table, three_judged, Writing, refuses, writes, with_room, after, merge_writing, merge_answer, build_writing, build_answer}
use Rattle.meaning.specs.Calls.{plain_answer, table_answer, wanted_answer, matches_answer, covers_answer, sheet_number, document_number, table_number, label_number}
use Rattle.meaning.specs.Calls.{subscription, label_part}
use Rattle.meaning.specs.Notation.{Drawn}
use Rattle.meaning.specs.Lines.{LineRead, off_at, draws, read_line}
use Rattle.meaning.specs.LineCalls.{in_order, drawn_writing, line_judged, line_then, drawn_answer, line_answer, line_output, text_writing, only_pattern}
use Rattle.meaning.specs.LineCalls.{pattern_writing, subscription_writing, output_answer}
use Rattle.meaning.specs.Given.{Given, refusal, gives, by_number, ToldByNumber, asked_given, merged_given}
use Rattle.meaning.specs.Given.{built_given, LineValues, lined_given, output_given, routed_given, tabled_given}
use Rattle.meaning.specs.Promises.{MatchesGives, CoversGives, MergeGives, BuildGives, PlainRouteGives, TableRouteGives, WantedGives}
use Rattle.meaning.specs.Promises.{ReadLineGives, WritePatternGives, WriteSubscriptionGives}
use Rattle.laws.specs.ThreeParts.{three_map}
use Rattle.laws.specs.Refusals.{NotZero, sheet-numbered, document-numbered, fair_table-numbered, only_pattern-numbered}
use Rattle.laws.specs.LineJudged.{refused-place}
use Rattle.meaning.specs.declared.Refusal.TheVariants.{CountOutside, SecondNear, NoRoom, NotThere, NotALine, LabelUnknown, NotWritable}
use Rattle.meaning.specs.declared.Merged.{Merged}
use Rattle.meaning.specs.declared.Built.{Built}
use Rattle.meaning.specs.declared.Tabled.{Tabled}
use Rattle.meaning.specs.declared.Refusal.{Refusal}
use Rattle.meaning.specs.declared.LineRefusal.{LineRefusal}

-- ---- 0 is given exactly where a call is not refused

module _ {A : Type 0} where
  refusal_told : (n : ℕ) (zeros : A) → 1 ≤ n → ToldByNumber (refusal n zeros)
  unfolding refusal
  refusal_told n zeros h = sym (ap not (ne_eqb n 0 (λ e. omega arith)))

  gives_told : (values : A) → ToldByNumber (gives values)
  unfolding gives
  gives_told values = refl

-- what is so told is its number and values alone: in the case y of an answer, those that y gives
pub by_number_lem : {E A : Type 0} (given : E → Given A) {x y : E} {g : Given A} → ToldByNumber g → x ≡ y → given x ≡ g
    → by_number (given y).number (given y).values ≡ g
unfolding by_number
by_number_lem {A = A} given told h e =
    let s = ap given (sym h) ∙ e in
    λ i. record { refused = (ap (λ (x : Given A). not (eqb x.number 0)) s ∙ sym told) i; number = (s i).number; values = (s i).values }

-- an answer E that is a refusal with a number, or what follows
module _ {E A : Type 0} (given : E → Given A) (refuse : Refusal → E) (told : (n : Refusal) → 1 ≤ refusal_number n → ToldByNumber (given (refuse n))) where
  -- after a reading
  judged_told : {B : Type 0} (m : Reading B) (next : B → E) → NotZero m → ((b : B) → ToldByNumber (given (next b)))
      → ToldByNumber (given (judged m refuse next))
  unfolding NotZero judged
  judged_told (read b left) next h later = later b
  judged_told (refused n) next h later = told n h

  -- where a number is asked for
  asked_told : (t : Bool) (x : E) → ToldByNumber (given x) → ToldByNumber (given (pick t x (refuse NotThere)))
  unfolding pick
  asked_told true x h = h
  asked_told false x h = told NotThere (omega arith)

asked-refused : (n : Refusal) → 1 ≤ refusal_number n → ToldByNumber (asked_given (Err n))
unfolding asked_given
asked-refused n = refusal_told (refusal_number n) false

pub matches_told : (s d : List ℕ) (i : ℕ) → ToldByNumber (asked_given (matches_answer s d i))
unfolding matches_answer asked_given
matches_told s d i =
    judged_told asked_given Err asked-refused (sheet s) _ (sheet-numbered.not_zero s) λ sh.
    judged_told asked_given Err asked-refused (document sh d) _ ((document-numbered sh).not_zero d) λ dc.
    asked_told asked_given Err asked-refused _ _ (gives_told _)

pub covers_told : (s : List ℕ) (i j : ℕ) → ToldByNumber (asked_given (covers_answer s i j))
unfolding covers_answer asked_given
covers_told s i j =
    judged_told asked_given Err asked-refused (sheet s) _ (sheet-numbered.not_zero s) λ sh.
    asked_told asked_given Err asked-refused _ _ (gives_told _)

routed-refused : (n : Refusal) → 1 ≤ refusal_number n → ToldByNumber (routed_given (Err n))
unfolding routed_given
routed-refused n = refusal_told (refusal_number n) 0

pub plain_route_told : (s d : List ℕ) → ToldByNumber (routed_given (plain_answer s d))
unfolding plain_answer routed_given
plain_route_told s d =
    judged_told routed_given Err routed-refused (sheet s) _ (sheet-numbered.not_zero s) λ sh.
    judged_told routed_given Err routed-refused (document sh d) _ ((document-numbered sh).not_zero d) λ dc.
    gives_told _

tabled_refused : (n : Refusal) → 1 ≤ refusal_number n → ToldByNumber (tabled_given (Err n))
unfolding tabled_given
tabled_refused n = refusal_told (refusal_number n) _

-- after sheet, table and document
module _ {E A : Type 0} (given : E → Given A) (refuse : Refusal → E) (told : (n : Refusal) → 1 ≤ refusal_number n → ToldByNumber (given (refuse n))) where
  three_told : (says : Sheet → List Entry → Document → E) → ((sh : Sheet) (es : List Entry) (dc : Document) → ToldByNumber (given (says sh es dc)))
      → (s t d : List ℕ) → ToldByNumber (given (three_judged refuse says s t d))
  unfolding three_judged
  three_told says later s t d =
      judged_told given refuse told (sheet s) _ (sheet-numbered.not_zero s) λ sh.
      judged_told given refuse told (fair_table sh t) _ ((fair_table-numbered sh).not_zero t) λ es.
      judged_told given refuse told (document sh d) _ ((document-numbered sh).not_zero d) λ dc.
      later sh es dc

pub table_route_told : (s t d : List ℕ) → ToldByNumber (tabled_given (table_answer s t d))
unfolding table_answer three_judged tabled_given
table_route_told = three_told tabled_given Err tabled_refused _ λ sh es dc. gives_told _

pub wanted_told : (s t d : List ℕ) → ToldByNumber (asked_given (wanted_answer s t d))
unfolding wanted_answer three_judged asked_given
wanted_told = three_told asked_given Err asked-refused _ λ sh es dc. gives_told _

-- ---- the same of what is written

module _ {A : Type 0} where
  unfoldable WritingNotZero : Writing A → Type 0
  WritingNotZero (refuses n) = 1 ≤ refusal_number n
  WritingNotZero (writes a bs) = Unit {0}

  -- a test, with the number of its fault
  test_writing : (t : Bool) (w : Writing A) (n : Refusal) → 1 ≤ refusal_number n → WritingNotZero w → WritingNotZero (pick t w (refuses n))
  unfolding WritingNotZero pick
  test_writing true w n h later = later
  test_writing false w n h later = h

  -- room is judged last
  room_not_zero : (out : List ℕ) (w : Writing A) → WritingNotZero w → WritingNotZero (with_room out w)
  unfolding WritingNotZero with_room
  room_not_zero out (refuses n) h = h
  room_not_zero out (writes a bs) h = test_writing (leb (length bs) (length out)) (writes a bs) NoRoom (omega arith) tt

  judged_writing : {B : Type 0} (m : Reading B) (next : B → Writing A) → NotZero m → ((b : B) → WritingNotZero (next b))
      → WritingNotZero (judged m refuses next)
  unfolding WritingNotZero NotZero judged
  judged_writing (read b left) next h later = later b
  judged_writing (refused n) next h later = h

merge_told_of : (w : Writing Bool) → WritingNotZero w → ToldByNumber (merged_given (merge_answer w))
unfolding WritingNotZero merge_answer merged_given
merge_told_of (refuses n) h = refusal_told (refusal_number n) _ h
merge_told_of (writes clipped bs) h = gives_told _

pub merge_told : (s : List ℕ) (i j : ℕ) (out : List ℕ) → ToldByNumber (merged_given (merge_answer (with_room out (merge_writing s i j))))
unfolding merge_writing WritingNotZero
merge_told s i j out =
    merge_told_of _ (room_not_zero out (merge_writing s i j)
    (judged_writing (sheet s) _ (sheet-numbered.not_zero s) λ sh. test_writing _ _ NotThere (omega arith) tt))

build_told_of : (w : Writing ℕ) → WritingNotZero w → ToldByNumber (built_given (build_answer w))
unfolding WritingNotZero build_answer built_given
build_told_of (refuses n) h = refusal_told (refusal_number n) _ h
build_told_of (writes rounds bs) h = gives_told _

pub build_told : (s : List ℕ) (limit : ℕ) (out : List ℕ) → ToldByNumber (built_given (build_answer (with_room out (build_writing s limit))))
unfolding build_writing WritingNotZero
build_told s limit out =
    build_told_of _ (room_not_zero out (build_writing s limit) (judged_writing (sheet s) _ (sheet-numbered.not_zero s) λ sh. tt))

output_told_of : (w : Writing (Unit {0})) → WritingNotZero w → ToldByNumber (output_given (output_answer w))
unfolding WritingNotZero output_answer output_given
output_told_of (refuses n) h = refusal_told (refusal_number n) _ h
output_told_of (writes u bs) h = gives_told _

text_not_zero : (ls : List (List ℕ)) (f : Forest) → WritingNotZero (text_writing ls f)
unfolding text_writing WritingNotZero
text_not_zero ls f = test_writing _ _ NotWritable (omega arith) tt

pattern_not_zero : (s p : List ℕ) → WritingNotZero (pattern_writing s p)
unfolding pattern_writing
pattern_not_zero s p =
    judged_writing (sheet s) _ (sheet-numbered.not_zero s) λ sh.
    judged_writing (only_pattern (length sh.labels) p) _ ((only_pattern-numbered (length sh.labels)).not_zero p) λ f.
    text_not_zero sh.labels f

subscription_not_zero : (s : List ℕ) (i : ℕ) → WritingNotZero (subscription_writing s i)
unfolding subscription_writing
subscription_not_zero s i =
    judged_writing (sheet s) _ (sheet-numbered.not_zero s) λ sh.
    test_writing _ _ NotThere (omega arith) (text_not_zero sh.labels (subscription sh i))

pub write_pattern_told : (s p out : List ℕ) → ToldByNumber (output_given (output_answer (with_room out (pattern_writing s p))))
write_pattern_told s p out = output_told_of _ (room_not_zero out (pattern_writing s p) (pattern_not_zero s p))

pub write_subscription_told : (s : List ℕ) (i : ℕ) (out : List ℕ) → ToldByNumber (output_given (output_answer (with_room out (subscription_writing s i))))
write_subscription_told s i out = output_told_of _ (room_not_zero out (subscription_writing s i) (subscription_not_zero s i))

-- ---- and of a line read: a place comes with 13 alone, and is at most 1,024

unfoldable PlaceTold : Result ℕ LineRefusal → Type 0
PlaceTold (Err e) = (1 ≤ refusal_number e.why) × (e.place ≤ longest_line) × ((refusal_number e.why ≡ refusal_number NotALine → ⊥) → e.place ≡ 0)
PlaceTold (Ok long) = Unit {0}

-- what is written comes with none
written-placed : (w : Writing (Unit {0})) → WritingNotZero w → PlaceTold (drawn_answer w)
unfolding WritingNotZero drawn_answer PlaceTold
written-placed (refuses n) h = (h, omega arith, λ other. refl)
written-placed (writes u bs) h = tt

drawn_not_zero : (ls : List (List ℕ)) (ds : List Drawn) → WritingNotZero (drawn_writing ls ds)
unfolding drawn_writing in_order WritingNotZero
drawn_not_zero ls ds =
    test_writing _ _ LabelUnknown (omega arith) (test_writing _ _ CountOutside (omega arith) (test_writing _ _ SecondNear (omega arith) tt))

line-placed : (s line out : List ℕ) → PlaceTold (line_answer out s line)
unfolding line_answer line_then judged line_judged PlaceTold NotZero
line-placed s line out = by_sheet (sheet s) (sheet-numbered.not_zero s)
  where
    next : Sheet → List Drawn → Result ℕ LineRefusal
    next sh ds = drawn_answer (with_room out (drawn_writing sh.labels ds))

    by_line : (sh : Sheet) (r : LineRead) → read_line line ≡ r → PlaceTold (line_judged r (λ at. Err (record { why = NotALine; place = at })) (next sh))
    by_line sh (off_at i) e = (omega arith, ⊎_elim (λ f. f.0) (λ f. omega arith) (refused-place line i e), λ other. absurd (other refl))
    by_line sh (draws ds) e = written-placed _ (room_not_zero out (drawn_writing sh.labels ds) (drawn_not_zero sh.labels ds))

    by_sheet : (m : Reading Sheet) → NotZero m
        → PlaceTold (judged m (λ n. Err (record { why = n; place = 0 })) (λ sh. line_judged (read_line line) (λ at. Err (record { why = NotALine; place = at })) (next sh)))
    by_sheet (read sh left) h = by_line sh (read_line line) refl
    by_sheet (refused n) h = (h, omega arith, λ other. refl)

lined_told_of : (x : Result ℕ LineRefusal) → PlaceTold x → ToldByNumber (lined_given x)
unfolding PlaceTold lined_given
lined_told_of (Err e) h = refusal_told (refusal_number e.why) _ h.0
lined_told_of (Ok long) h = gives_told _

pub read_line_told : (s line out : List ℕ) → ToldByNumber (lined_given (line_answer out s line))
read_line_told s line out = lined_told_of _ (line-placed s line out)

-- ---- so number 0 means that every part was read

module _ {A : Type 0} where
  number_0 : (m : Reading A) → NotZero m → number_of m ≡ 0 → Went m
  unfolding NotZero number_of
  number_0 (read a left) h e = record { value = a; left = left; reads = refl }
  number_0 (refused n) h e = absurd (omega arith)

pub sheet_0 : (s : List ℕ) → sheet_number s ≡ 0 → Went (sheet s)
unfolding sheet_number
sheet_0 s = number_0 (sheet s) (sheet-numbered.not_zero s)

module _ (s left : List ℕ) (sh : Sheet) (was_read : sheet s ≡ read sh left) where
  pub document_0 : (d : List ℕ) → document_number s d ≡ 0 → Went (document sh d)
  unfolding document_number judged
  document_0 d h = number_0 (document sh d) ((document-numbered sh).not_zero d) (rw was_read at h)

  pub table_0 : (t : List ℕ) → table_number s t ≡ 0 → Went (fair_table sh t)
  unfolding table_number judged
  table_0 t h = number_0 (fair_table sh t) ((fair_table-numbered sh).not_zero t) (rw was_read at h)

-- and that the output begins with what was to be written
output_0 : (found : List ℕ) (w : Writing (Unit {0})) → WritingNotZero w → (g : Given ℕ) (left : List ℕ)
    → g ≡ output_given (output_answer (with_room found w)) → left ≡ after found (with_room found w) → g.number ≡ 0 → w ≡ writes tt (take g.values left)
unfolding WritingNotZero with_room pick output_answer output_given refusal gives after
output_0 found (refuses n) h g left answer output e = absurd (omega (arith, ap (λ (x : Given ℕ). x.number) answer))
output_0 found (writes u bs) h g left answer output e = go (leb (length bs) (length found)) answer output
  where
    go : (fits : Bool) → (let v = pick fits (writes u bs) (refuses NoRoom) in g ≡ output_given (output_answer v) → left ≡ after found v
        → writes u bs ≡ writes tt (take g.values left))
    go true a o =
        let long : g.values ≡ length bs = ap (λ (x : Given ℕ). x.values) a in
        ap (writes tt) (rw (long, o) (sym (take_at bs (drop (length bs) found) (length bs) refl)))
    go false a o = absurd (omega (arith, ap (λ (x : Given ℕ). x.number) a))

pub write_pattern_0 : (s p found : List ℕ) (g : Given ℕ) (left : List ℕ) → WritePatternGives s p found g left → g.number ≡ 0
    → pattern_writing s p ≡ writes tt (take g.values left)
write_pattern_0 s p found g left r = output_0 found (pattern_writing s p) (pattern_not_zero s p) g left r.answer r.output

pub write_subscription_0 : (s : List ℕ) (i : ℕ) (found : List ℕ) (g : Given ℕ) (left : List ℕ) → WriteSubscriptionGives s i found g left → g.number ≡ 0
    → subscription_writing s i ≡ writes tt (take g.values left)
write_subscription_0 s i found g left r = output_0 found (subscription_writing s i) (subscription_not_zero s i) g left r.answer r.output

-- a label that is there
pub label_0 : (s d : List ℕ) (n : ℕ) → label_number s d n ≡ 0
    → (w : Went (sheet s)) × (v : Went (document w.value d)) × (is_label (labels_of w.value v.value) n ≡ true)
unfolding label_number judged pick NotZero
label_0 s d n h = by_sheet (sheet s) (sheet-numbered.not_zero s) h
  where
    asked : (b : Bool) → pick b done (refusal_number NotThere) ≡ 0 → b ≡ true
    asked true e = refl
    asked false e = absurd (omega arith)

    by_document : (sh : Sheet) (m : Reading Document) → NotZero m → judged m refusal_number (λ dc. pick (is_label (labels_of sh dc) n) done (refusal_number NotThere)) ≡ 0
        → (v : Went m) × (is_label (labels_of sh v.value) n ≡ true)
    by_document sh (read dc left) z e = (record { value = dc; left = left; reads = refl }, asked (is_label (labels_of sh dc) n) e)
    by_document sh (refused k) z e = absurd (omega arith)

    by_sheet : (m : Reading Sheet) → NotZero m
        → judged m refusal_number (λ sh. judged (document sh d) refusal_number (λ dc. pick (is_label (labels_of sh dc) n) done (refusal_number NotThere))) ≡ 0
        → (w : Went m) × (v : Went (document w.value d)) × (is_label (labels_of w.value v.value) n ≡ true)
    by_sheet (read sh left) z e =
        let r = by_document sh (document sh d) ((document-numbered sh).not_zero d) e in
        (record { value = sh; left = left; reads = refl }, r.0, r.1)
    by_sheet (refused k) z e = absurd (omega arith)

-- ---- the order of refusals: the first part that is refused gives its number

-- the first of two numbers that is not 0
unfoldable pub first_fault : ℕ → ℕ → ℕ
first_fault n m = pick (eqb n done) m n

same-fault : (n : ℕ) → n ≡ first_fault n n
unfolding first_fault pick
same-fault n = go (eqb n 0)
  where
    go : (b : Bool) → n ≡ pick b n n
    go true = refl
    go false = refl

earlier_fault : (n m : ℕ) → 1 ≤ n → n ≡ first_fault n m
unfolding first_fault pick
earlier_fault n m h = rw (ne_eqb n 0 (λ e. omega arith))

-- of the plain route: sheet, document
pub plain_route-number : (s d : List ℕ) → (routed_given (plain_answer s d)).number ≡ document_number s d
unfolding plain_answer document_number judged routed_given refusal gives number_of
plain_route-number s d = by_sheet (sheet s)
  where
    route : Sheet → Document → Result ℕ Refusal
    route sh dc = Ok (plain_route dc.nodes sh.patterns)

    by_document : (sh : Sheet) (m : Reading Document) → (routed_given (judged m Err (route sh))).number ≡ number_of m
    by_document sh (read dc left) = refl
    by_document sh (refused n) = refl

    by_sheet : (m : Reading Sheet)
        → (routed_given (judged m Err (λ sh. judged (document sh d) Err (route sh)))).number
        ≡ judged m refusal_number (λ sh. number_of (document sh d))
    by_sheet (read sh left) = by_document sh (document sh d)
    by_sheet (refused n) = refl

-- after sheet, table and document: the first fault of the table's, which is judged beside the sheet, and the document's
three_fault : (s t d : List ℕ) → three_judged refusal_number (λ sh es dc. 0) s t d ≡ first_fault (table_number s t) (document_number s d)
unfolding three_judged table_number document_number judged number_of NotZero first_fault pick
three_fault s t d = by_sheet (sheet s)
  where
    by_document : (m : Reading Document) → judged m refusal_number (λ dc. 0) ≡ number_of m
    by_document (read dc left) = refl
    by_document (refused n) = refl

    by_table_lem : (sh : Sheet) (m : Reading (List Entry)) → NotZero m
        → judged m refusal_number (λ es. judged (document sh d) refusal_number (λ dc. 0)) ≡ first_fault (number_of m) (number_of (document sh d))
    by_table_lem sh (read es left) h = by_document (document sh d)
    by_table_lem sh (refused n) h = earlier_fault (refusal_number n) (number_of (document sh d)) h

    by_sheet : (m : Reading Sheet)
        → judged m refusal_number (λ sh. judged (fair_table sh t) refusal_number (λ es. judged (document sh d) refusal_number (λ dc. 0)))
        ≡ first_fault (judged m refusal_number (λ sh. number_of (fair_table sh t))) (judged m refusal_number (λ sh. number_of (document sh d)))
    by_sheet (read sh left) = by_table_lem sh (fair_table sh t) ((fair_table-numbered sh).not_zero t)
    by_sheet (refused n) = same-fault (refusal_number n)

pub table_route-number : (s t d : List ℕ) → (tabled_given (table_answer s t d)).number ≡ first_fault (table_number s t) (document_number s d)
unfolding table_answer tabled_given refusal gives
table_route-number s t d = three_map (λ r. (tabled_given r).number) (λ n. refl) (λ sh es dc just up. refl) s t d ∙ three_fault s t d

pub wanted-number : (s t d : List ℕ) → (asked_given (wanted_answer s t d)).number ≡ first_fault (table_number s t) (document_number s d)
unfolding wanted_answer asked_given refusal gives
wanted-number s t d = three_map (λ r. (asked_given r).number) (λ n. refl) (λ sh es dc just up. refl) s t d ∙ three_fault s t d

-- ---- a refused call gives zeros or an empty part, and leaves a lent output as found

-- what is given with a number that is not 0 is that number, and zeros
module _ {E A : Type 0} (given : E → Given A) (zeros : A) where
  -- so it is of every refusal among the cases
  abbrev RefusesWithZeros : Type 0
  RefusesWithZeros = (x : E) → (given x).refused ≡ true → given x ≡ refusal (given x).number zeros

  zeros_of : RefusesWithZeros → (x : E) → ToldByNumber (given x) → (g : Given A) → g ≡ given x → 1 ≤ g.number → g ≡ refusal g.number zeros
  zeros_of cases x told g e h =
      let same : g.number ≡ (given x).number = ap (λ (y : Given A). y.number) e in
      e ∙ cases x (told ∙ ap not (ne_eqb (given x).number 0 (λ z. omega arith))) ∙ ap (λ (n : ℕ). refusal n zeros) (sym same)

asked_cases : RefusesWithZeros asked_given false
unfolding asked_given refusal gives
asked_cases (Err n) h = refl
asked_cases (Ok b) h = absurd (false≢true h)

merged_cases : RefusesWithZeros merged_given (record { length = 0; clipped = false })
unfolding merged_given refusal gives
merged_cases (Err n) h = refl
merged_cases (Ok m) h = absurd (false≢true h)

built_cases : RefusesWithZeros built_given (record { length = 0; rounds = 0 })
unfolding built_given refusal gives
built_cases (Err n) h = refl
built_cases (Ok b) h = absurd (false≢true h)

routed_cases : RefusesWithZeros routed_given 0
unfolding routed_given refusal gives
routed_cases (Err n) h = refl
routed_cases (Ok set) h = absurd (false≢true h)

tabled_cases : RefusesWithZeros tabled_given (record { set = 0; tried = 0 })
unfolding tabled_given refusal gives
tabled_cases (Err n) h = refl
tabled_cases (Ok t) h = absurd (false≢true h)

output_cases : RefusesWithZeros output_given 0
unfolding output_given refusal gives
output_cases (Err n) h = refl
output_cases (Ok k) h = absurd (false≢true h)

-- save the place
lined_cases : (x : Result ℕ LineRefusal) → (lined_given x).refused ≡ true
    → lined_given x ≡ refusal (lined_given x).number (record { place = (lined_given x).values.place; length = 0 })
unfolding lined_given refusal gives
lined_cases (Err e) h = refl
lined_cases (Ok long) h = absurd (false≢true h)

-- which comes with 13 alone
lined_place : (x : Result ℕ LineRefusal) → PlaceTold x
    → ((lined_given x).values.place ≤ longest_line) × (((lined_given x).number ≡ refusal_number NotALine → ⊥) → (lined_given x).values.place ≡ 0)
unfolding lined_given refusal gives PlaceTold
lined_place (Err e) h = (h.1, h.2)
lined_place (Ok long) h = (omega arith, λ other. refl)

-- a refused writing leaves the output as found
merge_as_found : (out : List ℕ) (w : Writing Bool) → (merged_given (merge_answer w)).refused ≡ true → after out w ≡ out
unfolding merge_answer merged_given refusal gives after
merge_as_found out (refuses n) h = refl
merge_as_found out (writes clipped bs) h = absurd (false≢true h)

build_as_found : (out : List ℕ) (w : Writing ℕ) → (built_given (build_answer w)).refused ≡ true → after out w ≡ out
unfolding build_answer built_given refusal gives after
build_as_found out (refuses n) h = refl
build_as_found out (writes rounds bs) h = absurd (false≢true h)

output_as_found : (out : List ℕ) (w : Writing (Unit {0})) → (output_given (output_answer w)).refused ≡ true → after out w ≡ out
unfolding output_answer output_given refusal gives after
output_as_found out (refuses n) h = refl
output_as_found out (writes u bs) h = absurd (false≢true h)

output_zeros : (found : List ℕ) (w : Writing (Unit {0})) → ToldByNumber (output_given (output_answer w)) → (g : Given ℕ) (left : List ℕ)
    → g ≡ output_given (output_answer w) → left ≡ after found w → 1 ≤ g.number → (g ≡ refusal g.number 0) × (left ≡ found)
unfolding refusal
output_zeros found w told g left answer output h =
    let zeros = zeros_of output_given 0 output_cases (output_answer w) told g answer h in
    (zeros, output ∙ output_as_found found w (ap (λ (x : Given ℕ). x.refused) (sym answer ∙ zeros)))

-- and so does a refused line
line_as_found : (s line out : List ℕ) → (lined_given (line_answer out s line)).refused ≡ true → line_output out s line ≡ out
unfolding line_answer line_output line_then judged line_judged drawn_answer lined_given refusal gives after
line_as_found s line out h = by_sheet (sheet s) h
  where
    next : Sheet → List Drawn → Result ℕ LineRefusal
    next sh ds = drawn_answer (with_room out (drawn_writing sh.labels ds))

    left : Sheet → List Drawn → List ℕ
    left sh ds = after out (with_room out (drawn_writing sh.labels ds))

    written : (w : Writing (Unit {0})) → (lined_given (drawn_answer w)).refused ≡ true → after out w ≡ out
    written (refuses n) k = refl
    written (writes u bs) k = absurd (false≢true k)

    by_line : (sh : Sheet) (r : LineRead) → (lined_given (line_judged r (λ at. Err (record { why = NotALine; place = at })) (next sh))).refused ≡ true
        → line_judged r (λ i. out) (left sh) ≡ out
    by_line sh (off_at i) k = refl
    by_line sh (draws ds) k = written (with_room out (drawn_writing sh.labels ds)) k

    by_sheet : (m : Reading Sheet)
        → (lined_given (judged m (λ n. Err (record { why = n; place = 0 })) (λ sh. line_judged (read_line line) (λ at. Err (record { why = NotALine; place = at })) (next sh)))).refused ≡ true
        → judged m (λ n. out) (λ sh. line_judged (read_line line) (λ i. out) (left sh)) ≡ out
    by_sheet (read sh rest) k = by_line sh (read_line line) k
    by_sheet (refused n) k = refl

module _ (s : List ℕ) where
  pub matches_zeros : (d : List ℕ) (i : ℕ) (g : Given Bool) → MatchesGives s d i g → 1 ≤ g.number → g ≡ refusal g.number false
  matches_zeros d i = zeros_of asked_given false asked_cases (matches_answer s d i) (matches_told s d i)

  pub covers_zeros : (i j : ℕ) (g : Given Bool) → CoversGives s i j g → 1 ≤ g.number → g ≡ refusal g.number false
  covers_zeros i j = zeros_of asked_given false asked_cases (covers_answer s i j) (covers_told s i j)

  pub plain_route_zeros : (d : List ℕ) (g : Given ℕ) → PlainRouteGives s d g → 1 ≤ g.number → g ≡ refusal g.number 0
  plain_route_zeros d = zeros_of routed_given 0 routed_cases (plain_answer s d) (plain_route_told s d)

  pub table_route_zeros : (t d : List ℕ) (g : Given Tabled) → TableRouteGives s t d g → 1 ≤ g.number
      → g ≡ refusal g.number (record { set = 0; tried = 0 })
  table_route_zeros t d = zeros_of tabled_given _ tabled_cases (table_answer s t d) (table_route_told s t d)

  pub wanted_zeros : (t d : List ℕ) (g : Given Bool) → WantedGives s t d g → 1 ≤ g.number → g ≡ refusal g.number false
  wanted_zeros t d = zeros_of asked_given false asked_cases (wanted_answer s t d) (wanted_told s t d)

  -- and the output is as found
  pub merge_zeros : (i j : ℕ) (found : List ℕ) (g : Given Merged) (left : List ℕ) → MergeGives s i j found g left → 1 ≤ g.number
      → (g ≡ refusal g.number (record { length = 0; clipped = false })) × (left ≡ found)
  unfolding refusal
  merge_zeros i j found g left p h =
      let w = with_room found (merge_writing s i j) in
      let zeros = zeros_of merged_given _ merged_cases (merge_answer w) (merge_told s i j found) g p.answer h in
      (zeros, p.output ∙ merge_as_found found w (ap (λ (x : Given Merged). x.refused) (sym p.answer ∙ zeros)))

  pub build_zeros : (limit : ℕ) (found : List ℕ) (g : Given Built) (left : List ℕ) → BuildGives s limit found g left → 1 ≤ g.number
      → (g ≡ refusal g.number (record { length = 0; rounds = 0 })) × (left ≡ found)
  unfolding refusal
  build_zeros limit found g left p h =
      let w = with_room found (build_writing s limit) in
      let zeros = zeros_of built_given _ built_cases (build_answer w) (build_told s limit found) g p.answer h in
      (zeros, p.output ∙ build_as_found found w (ap (λ (x : Given Built). x.refused) (sym p.answer ∙ zeros)))

  pub write_pattern_zeros : (p found : List ℕ) (g : Given ℕ) (left : List ℕ) → WritePatternGives s p found g left → 1 ≤ g.number
      → (g ≡ refusal g.number 0) × (left ≡ found)
  write_pattern_zeros p found g left r = output_zeros found _ (write_pattern_told s p found) g left r.answer r.output

  pub write_subscription_zeros : (i : ℕ) (found : List ℕ) (g : Given ℕ) (left : List ℕ) → WriteSubscriptionGives s i found g left → 1 ≤ g.number
      → (g ≡ refusal g.number 0) × (left ≡ found)
  write_subscription_zeros i found g left r = output_zeros found _ (write_subscription_told s i found) g left r.answer r.output

  -- of a line read, save the place
  pub read_line_zeros : (line found : List ℕ) (g : Given LineValues) (left : List ℕ) → ReadLineGives s line found g left → 1 ≤ g.number
      → (g ≡ refusal g.number (record { place = g.values.place; length = 0 })) × (left ≡ found)
  read_line_zeros line found g left r h =
      let x = line_answer found s line in
      let same : (lined_given x).number ≡ g.number = ap (λ (y : Given LineValues). y.number) (sym r.answer) in
      let is-refused : (lined_given x).refused ≡ true = read_line_told s line found ∙ ap not (ne_eqb (lined_given x).number 0 (λ z. omega arith)) in
      (rw r.answer (lined_cases x is-refused), r.output ∙ line_as_found s line found is-refused)

  -- which is 0 with every number but 13, and at most 1,024
  pub read_line-place : (line found : List ℕ) (g : Given LineValues) (left : List ℕ) → ReadLineGives s line found g left
      → (g.values.place ≤ longest_line) × ((g.number ≡ refusal_number NotALine → ⊥) → g.values.place ≡ 0)
  read_line-place line found g left r = rw r.answer (lined_place (line_answer found s line) (line-placed s line found))

-- no label, no bytes
no_label : (ls : List (List ℕ)) (n : ℕ) → is_label ls n ≡ false → label_at ls n ≡ []
unfolding is_label label_at
no_label ls zero h = refl
no_label ls (suc n) h = get_or-eq_default ls [] (omega (arith, leb-false (suc n) (length ls) (rw (le-leb 1 (suc n) (omega arith)) at h)))

-- and an empty part
pub label_empty : (s d : List ℕ) (n : ℕ) → 1 ≤ label_number s d n → label_part s d n ≡ []
unfolding label_number label_part judged pick
label_empty s d n h = by_sheet (sheet s) h
  where
    number : Sheet → Document → ℕ
    number sh dc = pick (is_label (labels_of sh dc) n) done (refusal_number NotThere)

    asked : (sh : Sheet) (dc : Document) (there : Bool) → is_label (labels_of sh dc) n ≡ there → 1 ≤ pick there done (refusal_number NotThere) → label_at (labels_of sh dc) n ≡ []
    asked sh dc true e k = absurd (omega arith)
    asked sh dc false e k = no_label (labels_of sh dc) n e

    by_document : (sh : Sheet) (m : Reading Document) → 1 ≤ judged m refusal_number (number sh) → judged m (λ k. []) (λ dc. label_at (labels_of sh dc) n) ≡ []
    by_document sh (read dc left) k = asked sh dc (is_label (labels_of sh dc) n) refl k
    by_document sh (refused m) k = refl

    by_sheet : (m : Reading Sheet) → 1 ≤ judged m refusal_number (λ sh. judged (document sh d) refusal_number (number sh))
        → judged m (λ k. []) (λ sh. judged (document sh d) (λ k. []) (λ dc. label_at (labels_of sh dc) n)) ≡ []
    by_sheet (read sh left) k = by_document sh (document sh d) k
    by_sheet (refused m) k = refl
