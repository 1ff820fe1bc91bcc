-- What is printed for two bytes of limit and a sheet, by the place where judging the sheet ended: the text of the table that is built, or of the refusal.
use Rattle.std.specs.Prelude.{ℕ, ◌+◌, ◌-◌, ◌*◌, ◌≤◌, ◌<◌, ◌≡◌, refl, List, [], ◌∷◌, length, take, drop, Ok, Err}
use Rattle.std.proofs.Common.{sym, ap, ◌∙◌, arith, length-drop, take_all}
use Rattle.meaning.specs.Numbers.{refusal_number}
use Rattle.meaning.specs.Reader.{Reading, read, refused, go_on, ◌>>=◌, give, byte, number}
use Rattle.meaning.specs.Sections.{Sheet, sheet}
use Rattle.meaning.specs.Building.{build, entries_from}
use Rattle.meaning.specs.Building as Building
use Rattle.meaning.specs.Calls.{judged}
use Rattle.meaning.specs.Printing.{table_text, refused_text, Asking, asking, printed}
use Rattle.shapes.specs.Shapes.{table_of}
use Rattle.shapes.specs.declared.Table.{Table}
use Rattle.reading.specs.SheetPlaces.{sheet_at}
use Rattle.places.specs.Bytes.{pair_at, Place}
use Rattle.reading.specs.SheetSection.{sheet_place}
use Rattle.reading.specs.SheetJudged.{sheet-judged, SheetStands, sheet-stands}
use Rattle.places.specs.Reached.{reached}
use Rattle.building.specs.Counting.{build_from, build_from_lem}
use Rattle.texts.specs.PutText.{Written, put}
use Rattle.labels.specs.LabelPlaces.{labels_in}
use Rattle.printing.specs.TableTexts.{built_table, text_of, text_of_lem}
use Rattle.meaning.specs.declared.Refusal.{Refusal}

-- the text of a table that was built from one entry for each subscription is that of the build
pub text-built : (s : List ℕ) (count limit rounds : ℕ) (t first : Table) → count ≡ length (sheet_at s).patterns
    → table_of first ≡ entries_from 0 (sheet_at s).patterns → table_of t ≡ (build_from limit (table_of first)).entries
    → rounds ≡ (build_from limit (table_of first)).rounds
    → text_of (labels_in s) count (built_table t rounds) ≡ table_text (sheet_at s) (build limit (sheet_at s).patterns)
unfolding built_table sheet_at
text-built s count limit rounds t first counted one entries turns =
    let built : build_from limit (table_of first) ≡ build limit (sheet_at s).patterns = ap (build_from limit) one ∙ build_from_lem limit (sheet_at s).patterns in
    let same : built_table t rounds ≡ build limit (sheet_at s).patterns =
    λ i. record { entries = (entries ∙ ap (λ (b : Building.Table). b.entries) built) i; rounds = (turns ∙ ap (λ (b : Building.Table). b.rounds) built) i } in
    sym (text_of_lem (sheet_at s) (labels_in s) count (built_table t rounds) refl (sym counted)) ∙ ap (table_text (sheet_at s)) same

-- fewer than two bytes of limit
pub printed-short : (s : List ℕ) → length s < 2 → printed s ≡ refused_text 1
unfolding printed asking number ◌>>=◌ go_on byte judged
printed-short [] h = refl
printed-short (a ∷ []) h = refl
printed-short (a ∷ b ∷ rest) h = absurd (omega arith)

-- a value that is only put together changes no refusal
judged-made : {A B C : Type 0} (r : Reading A) (f : A → B) (refuse : Refusal → C) (next : B → C)
    → judged (go_on r (λ a. give (f a))) refuse next ≡ judged r refuse (λ a. next (f a))
unfolding judged go_on give
judged-made (read a left) f refuse next = refl
judged-made (refused n) f refuse next = refl

-- otherwise the sheet behind them decides
pub printed-sheet : (s : List ℕ) → 2 ≤ length s
    → printed s ≡ reached (sheet_place (drop 2 s)) (λ why. refused_text (refusal_number why)) (table_text (sheet_at (drop 2 s)) (build (pair_at s 0) (sheet_at (drop 2 s)).patterns))
unfolding printed asking number ◌>>=◌ go_on byte give pair_at
printed-sheet [] h = absurd (omega arith)
printed-sheet (a ∷ []) h = absurd (omega arith)
printed-sheet (a ∷ b ∷ rest) h =
    let limit : ℕ = a + 256 * (b + 256 * 0) in
    let same : limit ≡ a + 256 * b = omega arith in
    judged-made (sheet rest) (asked limit) (λ why. refused_text (refusal_number why)) text_for
    ∙ sheet-judged rest (λ why. refused_text (refusal_number why)) (λ sh. text_for (asked limit sh))
    ∙ ap (λ (l : ℕ). reached (sheet_place rest) (λ why. refused_text (refusal_number why)) (table_text (sheet_at rest) (build l (sheet_at rest).patterns))) same
  where
    asked : ℕ → Sheet → Asking
    asked l sh = record { limit = l; sheet = sh }

    text_for : Asking → List ℕ
    text_for x = table_text x.sheet (build x.limit x.sheet.patterns)

-- ---- what was put, as the function has it

-- the bytes behind the limit
part_is : (s : List ℕ) → take (length s - 2) (drop 2 s) ≡ drop 2 s
part_is s = take_all (length s - 2) (drop 2 s) (omega (arith, length-drop 2 s))

pub put-short : (s : List ℕ) (w out : Written) → w ≡ put out (refused_text 1) → length s < 2 → w ≡ put out (printed s)
put-short s w out e h = e ∙ ap (put out) (sym (printed-short s h))

pub put_no : (s : List ℕ) (w out : Written) (c : Place) (m : Refusal) → 2 ≤ length s → c ≡ sheet_place (take (length s - 2) (drop 2 s)) → c ≡ Err m
    → w ≡ put out (refused_text (refusal_number m)) → w ≡ put out (printed s)
unfolding reached
put_no s w out c m h e n p =
    let at : sheet_place (drop 2 s) ≡ Err m = ap sheet_place (sym (part_is s)) ∙ sym e ∙ n in
    p ∙ ap (put out) (sym (printed-sheet s h ∙ rw at))

pub put_yes : (s : List ℕ) (w out : Written) (c : Place) (x limit : ℕ) → 2 ≤ length s → c ≡ sheet_place (take (length s - 2) (drop 2 s))
    → c ≡ Ok x → limit ≡ pair_at s 0
    → w
    ≡ put out (table_text (sheet_at (take (length s - 2) (drop 2 s))) (build limit (sheet_at (take (length s - 2) (drop 2 s))).patterns))
    → w ≡ put out (printed s)
unfolding reached
put_yes s w out c x limit h e n l p =
    let at : sheet_place (drop 2 s) ≡ Ok x = ap sheet_place (sym (part_is s)) ∙ sym e ∙ n in
    let q = rw (part_is s, l) at p in
    q ∙ ap (put out) (sym (printed-sheet s h ∙ rw at))

pub part_stands : (p : List ℕ) (c : Place) (x : ℕ) → c ≡ sheet_place p → c ≡ Ok x → SheetStands p
part_stands p c x e n = sheet-stands p x (sym e ∙ n)
