-- The hub's calls: what each answers for any bytes and numbers. The sheet is judged first, then the table (12 last), the
-- document, numbers asked for, and room.
use Rattle.std.specs.Prelude.{ℕ, Result, Ok, Err, Bool, ◌&&◌, List, [], ◌++◌, leb, ltb, length, get_or, drop}
use Rattle.base.specs.Choice.{pick}
use Rattle.meaning.specs.Numbers.{done, refusal_number}
use Rattle.meaning.specs.Reader.{Reading, read, refused, Reader, ◌>>=◌, ◌>>◌, give, unless, number_of}
use Rattle.meaning.specs.Forest.{Forest, none}
use Rattle.meaning.specs.Sections.{Sheet, sheet, Document, document, Entry, table}
use Rattle.meaning.specs.Satisfying.{satisfies}
use Rattle.meaning.specs.Covering.{covers}
use Rattle.meaning.specs.Merging.{Merge, merge}
use Rattle.meaning.specs.Building.{Table, build}
use Rattle.meaning.specs.Fair.{fair}
use Rattle.meaning.specs.Routing.{plain_route, table_route, tried, wanted}
use Rattle.meaning.specs.LabelBytes.{labels_of, is_label, label_at}
use Rattle.meaning.specs.Written.{pattern_bytes, table_bytes}
use Rattle.meaning.specs.declared.Built.{Built}
use Rattle.meaning.specs.declared.Tabled.{Tabled}
use Rattle.meaning.specs.declared.Merged.{Merged}
use Rattle.meaning.specs.declared.Refusal.{Refusal}
use Rattle.meaning.specs.declared.Refusal.TheVariants.{NoRoom, NotThere, NotFair}

-- ---- judging in order

module _ {A B : Type 0} where
  -- the refusal, or what follows from the value
  unfoldable pub judged : Reading A → (Refusal → B) → (A → B) → B
  judged (read a left) refuse next = next a
  judged (refused why) refuse next = refuse why

-- a table that passes the table check: its bytes are judged, and then whether it is fair
unfoldable pub fair_table : Sheet → Reader (List Entry)
fair_table sh = do
  es ← table sh
  unless NotFair (fair sh.patterns es)
  give es

-- sheet, table and document are judged in this order: a refusal, or what follows from the three
unfoldable pub three_judged : {B : Type 0} → (Refusal → B) → (Sheet → List Entry → Document → B) → List ℕ → List ℕ → List ℕ → B
three_judged refuse next s t d =
    judged (sheet s) refuse (λ sh.
    judged (fair_table sh t) refuse (λ es.
    judged (document sh d) refuse (λ dc.
    next sh es dc)))

-- a subscription by its number, from 0
unfoldable pub is_subscription : Sheet → ℕ → Bool
is_subscription sh i = ltb i (length sh.patterns)

unfoldable pub subscription : Sheet → ℕ → Forest
subscription sh i = get_or sh.patterns i none

-- ---- the three checks: a number

unfoldable pub sheet_number : List ℕ → ℕ
sheet_number s = number_of (sheet s)

unfoldable pub document_number : List ℕ → List ℕ → ℕ
document_number s d = judged (sheet s) refusal_number (λ sh. number_of (document sh d))

unfoldable pub table_number : List ℕ → List ℕ → ℕ
table_number s t = judged (sheet s) refusal_number (λ sh. number_of (fair_table sh t))

-- ---- does a subscription match, does it cover

unfoldable pub matches_answer : List ℕ → List ℕ → ℕ → Result Bool Refusal
matches_answer s d i =
    judged (sheet s) Err (λ sh.
    judged (document sh d) Err (λ dc.
    pick (is_subscription sh i) (Ok (satisfies dc.nodes (subscription sh i))) (Err NotThere)))

unfoldable pub covers_answer : List ℕ → ℕ → ℕ → Result Bool Refusal
covers_answer s i j =
    judged (sheet s) Err (λ sh.
    pick (is_subscription sh i && is_subscription sh j) (Ok (covers (subscription sh i) (subscription sh j))) (Err NotThere))

-- ---- writing into a lent output

-- what is to be written, and the value that comes with it, or a refusal
pub data Writing (A : Type 0) : Type 0 where
  refuses : Refusal → Writing A
  writes : A → List ℕ → Writing A

module _ {A : Type 0} where
  -- room is judged last
  unfoldable pub with_room : List ℕ → Writing A → Writing A
  with_room out (refuses why) = refuses why
  with_room out (writes a bs) = pick (leb (length bs) (length out)) (writes a bs) (refuses NoRoom)

  -- the output afterwards: as found on a refusal; otherwise as found behind the written part
  unfoldable pub after : List ℕ → Writing A → List ℕ
  after out (refuses why) = out
  after out (writes a bs) = bs ++ drop (length bs) out

-- ---- the merge of two subscriptions

unfoldable pub merge_writing : List ℕ → ℕ → ℕ → Writing Bool
merge_writing s i j =
    judged (sheet s) refuses (λ sh.
    let m : Merge = merge (subscription sh i) (subscription sh j) in
    pick (is_subscription sh i && is_subscription sh j) (writes m.clipped (pattern_bytes m.pattern)) (refuses NotThere))

unfoldable pub merge_answer : Writing Bool → Result Merged Refusal
merge_answer (refuses why) = Err why
merge_answer (writes clipped bs) = Ok (record { length = length bs; clipped = clipped })

-- ---- the table built for a limit

unfoldable pub build_writing : List ℕ → ℕ → Writing ℕ
build_writing s limit =
    judged (sheet s) refuses (λ sh.
    let t : Table = build limit sh.patterns in
    writes t.rounds (table_bytes t.entries))

unfoldable pub build_answer : Writing ℕ → Result Built Refusal
build_answer (refuses why) = Err why
build_answer (writes rounds bs) = Ok (record { length = length bs; rounds = rounds })

-- ---- the routes

unfoldable pub plain_answer : List ℕ → List ℕ → Result ℕ Refusal
plain_answer s d =
    judged (sheet s) Err (λ sh.
    judged (document sh d) Err (λ dc.
    Ok (plain_route dc.nodes sh.patterns)))

unfoldable pub table_answer : List ℕ → List ℕ → List ℕ → Result Tabled Refusal
table_answer =
    three_judged Err (λ sh es dc.
    Ok (record { set = table_route dc.nodes es sh.patterns; tried = tried dc.nodes es sh.patterns }))

-- ---- does at least one shed take the document: refusals as for the table route

unfoldable pub wanted_answer : List ℕ → List ℕ → List ℕ → Result Bool Refusal
wanted_answer = three_judged Err (λ sh es dc. Ok (wanted dc.nodes sh.patterns))

-- ---- label bytes: the number, and the part, which is empty on a refusal

unfoldable pub label_number : List ℕ → List ℕ → ℕ → ℕ
label_number s d n =
    judged (sheet s) refusal_number (λ sh.
    judged (document sh d) refusal_number (λ dc.
    pick (is_label (labels_of sh dc) n) done (refusal_number NotThere)))

unfoldable pub label_part : List ℕ → List ℕ → ℕ → List ℕ
label_part s d n =
    judged (sheet s) (λ m. []) (λ sh.
    judged (document sh d) (λ m. []) (λ dc.
    label_at (labels_of sh dc) n))
