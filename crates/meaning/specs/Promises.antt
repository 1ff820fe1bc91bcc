-- What each call promises of what it gives back and of the bytes that it is lent to write, for any bytes and numbers: one
-- proposition a call. The contracts cite these, and `Sharp` proves that each determines the result and the lent bytes.
use Rattle.std.specs.Prelude.{ℕ, ◌≡◌, Bool, List}
use Rattle.meaning.specs.Given.{Given, asked_given, merged_given, built_given, routed_given, tabled_given}
use Rattle.meaning.specs.Given.{LineValues, lined_given, output_given}
use Rattle.meaning.specs.LineCalls.{line_answer, line_output, pattern_writing, subscription_writing, output_answer}
use Rattle.meaning.specs.Routing.{sheds_in, lowest_shed}
use Rattle.meaning.specs.Calls.{sheet_number, document_number, table_number, matches_answer, covers_answer, with_room, after, merge_writing}
use Rattle.meaning.specs.Calls.{merge_answer, build_writing, build_answer, plain_answer, table_answer, wanted_answer, label_number, label_part}
use Rattle.meaning.specs.declared.Merged.{Merged}
use Rattle.meaning.specs.declared.Built.{Built}
use Rattle.meaning.specs.declared.Tabled.{Tabled}

-- ---- the three checks

abbrev pub SheetCheckGives : List ℕ → ℕ → Type 0
SheetCheckGives s number = number ≡ sheet_number s

abbrev pub DocumentCheckGives : List ℕ → List ℕ → ℕ → Type 0
DocumentCheckGives s d number = number ≡ document_number s d

abbrev pub TableCheckGives : List ℕ → List ℕ → ℕ → Type 0
TableCheckGives s t number = number ≡ table_number s t

-- ---- does a subscription match, does it cover

abbrev pub MatchesGives : List ℕ → List ℕ → ℕ → Given Bool → Type 0
MatchesGives s d i given = given ≡ asked_given (matches_answer s d i)

abbrev pub CoversGives : List ℕ → ℕ → ℕ → Given Bool → Type 0
CoversGives s i j given = given ≡ asked_given (covers_answer s i j)

-- ---- what is written: what is given, and the lent output as it is left, where it was found so

pub record MergeGives (s : List ℕ) (i j : ℕ) (found : List ℕ) (given : Given Merged) (left : List ℕ) : Type 0 where
  pub answer : given ≡ merged_given (merge_answer (with_room found (merge_writing s i j)))
  pub output : left ≡ after found (with_room found (merge_writing s i j))

pub record BuildGives (s : List ℕ) (limit : ℕ) (found : List ℕ) (given : Given Built) (left : List ℕ) : Type 0 where
  pub answer : given ≡ built_given (build_answer (with_room found (build_writing s limit)))
  pub output : left ≡ after found (with_room found (build_writing s limit))

-- a line read

pub record ReadLineGives (s line found : List ℕ) (given : Given LineValues) (left : List ℕ) : Type 0 where
  pub answer : given ≡ lined_given (line_answer found s line)
  pub output : left ≡ line_output found s line

-- a pattern and a subscription written as a line

pub record WritePatternGives (s p found : List ℕ) (given : Given ℕ) (left : List ℕ) : Type 0 where
  pub answer : given ≡ output_given (output_answer (with_room found (pattern_writing s p)))
  pub output : left ≡ after found (with_room found (pattern_writing s p))

pub record WriteSubscriptionGives (s : List ℕ) (i : ℕ) (found : List ℕ) (given : Given ℕ) (left : List ℕ) : Type 0 where
  pub answer : given ≡ output_given (output_answer (with_room found (subscription_writing s i)))
  pub output : left ≡ after found (with_room found (subscription_writing s i))

-- ---- the routes

abbrev pub PlainRouteGives : List ℕ → List ℕ → Given ℕ → Type 0
PlainRouteGives s d given = given ≡ routed_given (plain_answer s d)

abbrev pub TableRouteGives : List ℕ → List ℕ → List ℕ → Given Tabled → Type 0
TableRouteGives s t d given = given ≡ tabled_given (table_answer s t d)

-- does anyone want it

abbrev pub WantedGives : List ℕ → List ℕ → List ℕ → Given Bool → Type 0
WantedGives s t d given = given ≡ asked_given (wanted_answer s t d)

-- of a delivery set: how many sheds, and the lowest

abbrev pub ShedsGives : ℕ → ℕ → Type 0
ShedsGives set number = number ≡ sheds_in set

abbrev pub LowestShedGives : ℕ → ℕ → Type 0
LowestShedGives set shed = shed ≡ lowest_shed set

-- ---- label bytes: the number, and the part

abbrev pub LabelNumberGives : List ℕ → List ℕ → ℕ → ℕ → Type 0
LabelNumberGives s d n number = number ≡ label_number s d n

abbrev pub LabelBytesGives : List ℕ → List ℕ → ℕ → List ℕ → Type 0
LabelBytesGives s d n part = part ≡ label_part s d n
