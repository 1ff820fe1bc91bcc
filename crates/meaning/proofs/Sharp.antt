-- The promises are sharp: for each call, any two results that its promise allows are equal, and so are any two outputs.
use Rattle.std.specs.Prelude.{ℕ, ◌≡◌, Bool, List, [], ◌∷◌, get_or, Result, Ok, Err}
use Rattle.std.proofs.Common.{refl, sym, ap, ◌∙◌, true≢false, arith}
use Rattle.std.proofs.lemmas.Bool.{false≢true}
use Rattle.meaning.specs.Given.{Given, refusal, gives, by_number, asked_given, merged_given}
use Rattle.meaning.specs.Given.{built_given, LineValues, lined_given, output_given, routed_given, tabled_given}
use Rattle.meaning.specs.Promises.{SheetCheckGives, DocumentCheckGives, TableCheckGives, MatchesGives, CoversGives, MergeGives, BuildGives}
use Rattle.meaning.specs.Promises.{ReadLineGives, WritePatternGives, WriteSubscriptionGives}
use Rattle.meaning.specs.Promises.{PlainRouteGives, TableRouteGives, WantedGives, ShedsGives, LowestShedGives, LabelNumberGives, LabelBytesGives}
use Rattle.meaning.specs.Numbers.{refusal_number, number_given}
use Rattle.meaning.specs.declared.Refusal.{Refusal}
use Rattle.meaning.specs.declared.Refusal.TheVariants.{EndsEarly, BytesRemain, LabelLength, LabelTwice, CountOutside, ParentRule, AxisUnknown, LabelOutside}
use Rattle.meaning.specs.declared.Refusal.TheVariants.{SecondNear, NoRoom, NotThere, NotFair, NotALine, LabelUnknown, NotWritable}
use Rattle.meaning.specs.declared.Merged.{Merged}
use Rattle.meaning.specs.declared.Built.{Built}
use Rattle.meaning.specs.declared.Tabled.{Tabled}
use Rattle.meaning.specs.declared.LineRefusal.{LineRefusal}

-- what is equal to one value is equal
pub only_one : {A : Type 0} {a x y : A} → x ≡ a → y ≡ a → x ≡ y
only_one e f = e ∙ sym f

-- ---- an answer is determined by what it gives: the case, the number and the values

module _ {A : Type 0} {g h : Given A} (e : g ≡ h) where
  same_case : g.refused ≡ h.refused
  same_case = ap (λ (x : Given A). x.refused) e

  same_number : g.number ≡ h.number
  same_number = ap (λ (x : Given A). x.number) e

  same-values : g.values ≡ h.values
  same-values = ap (λ (x : Given A). x.values) e

-- so are the number and the values that C is given
pub by_number_tells : {A : Type 0} (n m : ℕ) (v w : A) → by_number n v ≡ by_number m w → (n ≡ m) × (v ≡ w)
unfolding by_number
by_number_tells n m v w e = (same_number e, same-values e)

-- a refusal is determined by its number
numbered_refusal : ℕ → Refusal
numbered_refusal n =
    get_or (EndsEarly ∷ EndsEarly ∷ BytesRemain ∷ LabelLength ∷ LabelTwice ∷ CountOutside ∷ ParentRule ∷ AxisUnknown ∷ LabelOutside ∷ SecondNear
    ∷ NoRoom ∷ NotThere ∷ NotFair ∷ NotALine ∷ LabelUnknown ∷ NotWritable ∷ []) n EndsEarly

numbered_back : (r : Refusal) → numbered_refusal (refusal_number r) ≡ r
unfolding numbered_refusal
numbered_back EndsEarly = refl
numbered_back BytesRemain = refl
numbered_back LabelLength = refl
numbered_back LabelTwice = refl
numbered_back CountOutside = refl
numbered_back ParentRule = refl
numbered_back AxisUnknown = refl
numbered_back LabelOutside = refl
numbered_back SecondNear = refl
numbered_back NoRoom = refl
numbered_back NotThere = refl
numbered_back NotFair = refl
numbered_back NotALine = refl
numbered_back LabelUnknown = refl
numbered_back NotWritable = refl

pub refusal_told : (n m : Refusal) → refusal_number n ≡ refusal_number m → n ≡ m
refusal_told n m e = sym (numbered_back n) ∙ ap numbered_refusal e ∙ numbered_back m

not_done : (r : Refusal) → refusal_number r ≡ 0 → ⊥
not_done EndsEarly e = omega arith
not_done BytesRemain e = omega arith
not_done LabelLength e = omega arith
not_done LabelTwice e = omega arith
not_done CountOutside e = omega arith
not_done ParentRule e = omega arith
not_done AxisUnknown e = omega arith
not_done LabelOutside e = omega arith
not_done SecondNear e = omega arith
not_done NoRoom e = omega arith
not_done NotThere e = omega arith
not_done NotFair e = omega arith
not_done NotALine e = omega arith
not_done LabelUnknown e = omega arith
not_done NotWritable e = omega arith

-- so is a check
pub checked_tells : (x y : Result (Unit {0}) Refusal) → number_given x ≡ number_given y → x ≡ y
checked_tells (Err n) (Err m) e = ap Err (refusal_told n m e)
checked_tells (Err n) (Ok b) e = absurd (not_done n e)
checked_tells (Ok a) (Err m) e = absurd (not_done m (sym e))
checked_tells (Ok a) (Ok b) e = refl

pub asked_tells : (x y : Result Bool Refusal) → asked_given x ≡ asked_given y → x ≡ y
unfolding asked_given refusal gives
asked_tells (Err n) (Err m) e = ap Err (refusal_told n m (same_number e))
asked_tells (Err n) (Ok b) e = absurd (true≢false (same_case e))
asked_tells (Ok a) (Err m) e = absurd (false≢true (same_case e))
asked_tells (Ok a) (Ok b) e = ap Ok (same-values e)

pub merged_tells : (x y : Result Merged Refusal) → merged_given x ≡ merged_given y → x ≡ y
unfolding merged_given refusal gives
merged_tells (Err n) (Err m) e = ap Err (refusal_told n m (same_number e))
merged_tells (Err n) (Ok b) e = absurd (true≢false (same_case e))
merged_tells (Ok a) (Err m) e = absurd (false≢true (same_case e))
merged_tells (Ok a) (Ok b) e = ap Ok (same-values e)

pub built_tells : (x y : Result Built Refusal) → built_given x ≡ built_given y → x ≡ y
unfolding built_given refusal gives
built_tells (Err n) (Err m) e = ap Err (refusal_told n m (same_number e))
built_tells (Err n) (Ok b) e = absurd (true≢false (same_case e))
built_tells (Ok a) (Err m) e = absurd (false≢true (same_case e))
built_tells (Ok a) (Ok b) e = ap Ok (same-values e)

pub lined_tells : (x y : Result ℕ LineRefusal) → lined_given x ≡ lined_given y → x ≡ y
unfolding lined_given refusal gives
lined_tells (Err n) (Err m) e =
    λ k. Err (record { why = refusal_told n.why m.why (same_number e) k; place = ap (λ (v : LineValues). v.place) (same-values e) k })
lined_tells (Err n) (Ok b) e = absurd (true≢false (same_case e))
lined_tells (Ok k) (Err m) e = absurd (false≢true (same_case e))
lined_tells (Ok a) (Ok b) e = ap (λ (v : LineValues). Ok v.length) (same-values e)

pub output_tells : (x y : Result ℕ Refusal) → output_given x ≡ output_given y → x ≡ y
unfolding output_given refusal gives
output_tells (Err n) (Err m) e = ap Err (refusal_told n m (same_number e))
output_tells (Err n) (Ok b) e = absurd (true≢false (same_case e))
output_tells (Ok a) (Err m) e = absurd (false≢true (same_case e))
output_tells (Ok a) (Ok b) e = ap Ok (same-values e)

pub routed_tells : (x y : Result ℕ Refusal) → routed_given x ≡ routed_given y → x ≡ y
unfolding routed_given refusal gives
routed_tells (Err n) (Err m) e = ap Err (refusal_told n m (same_number e))
routed_tells (Err n) (Ok b) e = absurd (true≢false (same_case e))
routed_tells (Ok a) (Err m) e = absurd (false≢true (same_case e))
routed_tells (Ok a) (Ok b) e = ap Ok (same-values e)

pub tabled_tells : (x y : Result Tabled Refusal) → tabled_given x ≡ tabled_given y → x ≡ y
unfolding tabled_given refusal gives
tabled_tells (Err n) (Err m) e = ap Err (refusal_told n m (same_number e))
tabled_tells (Err n) (Ok b) e = absurd (true≢false (same_case e))
tabled_tells (Ok a) (Err m) e = absurd (false≢true (same_case e))
tabled_tells (Ok a) (Ok b) e = ap Ok (same-values e)

-- ---- the calls

module _ (s : List ℕ) where
  pub sheet_check_sharp : (x y : ℕ) → SheetCheckGives s x → SheetCheckGives s y → x ≡ y
  sheet_check_sharp x y = only_one

  -- of a check: the number, as above and as C is given it, and so the result
  pub sheet_check-result_sharp : (x y : Result (Unit {0}) Refusal) → SheetCheckGives s (number_given x) → SheetCheckGives s (number_given y) → x ≡ y
  sheet_check-result_sharp x y e f = checked_tells x y (only_one e f)

  pub covers_sharp : (i j : ℕ) (x y : Result Bool Refusal) → CoversGives s i j (asked_given x) → CoversGives s i j (asked_given y) → x ≡ y
  covers_sharp i j x y e f = asked_tells x y (only_one e f)

  -- beside a document
  module _ (d : List ℕ) where
    pub document_check_sharp : (x y : ℕ) → DocumentCheckGives s d x → DocumentCheckGives s d y → x ≡ y
    document_check_sharp x y = only_one

    pub document_check-result_sharp : (x y : Result (Unit {0}) Refusal) → DocumentCheckGives s d (number_given x)
        → DocumentCheckGives s d (number_given y) → x ≡ y
    document_check-result_sharp x y e f = checked_tells x y (only_one e f)

    pub matches_sharp : (i : ℕ) (x y : Result Bool Refusal) → MatchesGives s d i (asked_given x) → MatchesGives s d i (asked_given y) → x ≡ y
    matches_sharp i x y e f = asked_tells x y (only_one e f)

    pub plain_route_sharp : (x y : Result ℕ Refusal) → PlainRouteGives s d (routed_given x) → PlainRouteGives s d (routed_given y) → x ≡ y
    plain_route_sharp x y e f = routed_tells x y (only_one e f)

    pub label_number_sharp : (n x y : ℕ) → LabelNumberGives s d n x → LabelNumberGives s d n y → x ≡ y
    label_number_sharp n x y = only_one

    pub label_number-result_sharp : (n : ℕ) (x y : Result (Unit {0}) Refusal) → LabelNumberGives s d n (number_given x)
        → LabelNumberGives s d n (number_given y) → x ≡ y
    label_number-result_sharp n x y e f = checked_tells x y (only_one e f)

    pub label_bytes_sharp : (n : ℕ) (x y : List ℕ) → LabelBytesGives s d n x → LabelBytesGives s d n y → x ≡ y
    label_bytes_sharp n x y = only_one

  -- beside a table
  module _ (t : List ℕ) where
    pub table_check_sharp : (x y : ℕ) → TableCheckGives s t x → TableCheckGives s t y → x ≡ y
    table_check_sharp x y = only_one

    pub table_check-result_sharp : (x y : Result (Unit {0}) Refusal) → TableCheckGives s t (number_given x) → TableCheckGives s t (number_given y) → x ≡ y
    table_check-result_sharp x y e f = checked_tells x y (only_one e f)

    pub table_route_sharp : (d : List ℕ) (x y : Result Tabled Refusal) → TableRouteGives s t d (tabled_given x) → TableRouteGives s t d (tabled_given y) → x ≡ y
    table_route_sharp d x y e f = tabled_tells x y (only_one e f)

    pub wanted_sharp : (d : List ℕ) (x y : Result Bool Refusal) → WantedGives s t d (asked_given x) → WantedGives s t d (asked_given y) → x ≡ y
    wanted_sharp d x y e f = asked_tells x y (only_one e f)

  -- with a lent output
  module _ (out : List ℕ) where
    pub merge_sharp : (i j : ℕ) (x y : Result Merged Refusal) (u v : List ℕ) → MergeGives s i j out (merged_given x) u
        → MergeGives s i j out (merged_given y) v → (x ≡ y) × (u ≡ v)
    merge_sharp i j x y u v e f = (merged_tells x y (only_one e.answer f.answer), only_one e.output f.output)

    pub build_sharp : (limit : ℕ) (x y : Result Built Refusal) (u v : List ℕ) → BuildGives s limit out (built_given x) u
        → BuildGives s limit out (built_given y) v → (x ≡ y) × (u ≡ v)
    build_sharp limit x y u v e f = (built_tells x y (only_one e.answer f.answer), only_one e.output f.output)

    pub read_line_sharp : (line : List ℕ) (x y : Result ℕ LineRefusal) (u v : List ℕ) → ReadLineGives s line out (lined_given x) u
        → ReadLineGives s line out (lined_given y) v → (x ≡ y) × (u ≡ v)
    read_line_sharp line x y u v e f = (lined_tells x y (only_one e.answer f.answer), only_one e.output f.output)

    pub write_pattern_sharp : (p : List ℕ) (x y : Result ℕ Refusal) (u v : List ℕ) → WritePatternGives s p out (output_given x) u
        → WritePatternGives s p out (output_given y) v → (x ≡ y) × (u ≡ v)
    write_pattern_sharp p x y u v e f = (output_tells x y (only_one e.answer f.answer), only_one e.output f.output)

    pub write_subscription_sharp : (i : ℕ) (x y : Result ℕ Refusal) (u v : List ℕ) → WriteSubscriptionGives s i out (output_given x) u
        → WriteSubscriptionGives s i out (output_given y) v → (x ≡ y) × (u ≡ v)
    write_subscription_sharp i x y u v e f = (output_tells x y (only_one e.answer f.answer), only_one e.output f.output)

-- of a delivery set
module _ (set : ℕ) where
  pub sheds_sharp : (x y : ℕ) → ShedsGives set x → ShedsGives set y → x ≡ y
  sheds_sharp x y = only_one

  pub lowest_shed_sharp : (x y : ℕ) → LowestShedGives set x → LowestShedGives set y → x ≡ y
  lowest_shed_sharp x y = only_one
