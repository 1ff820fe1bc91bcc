-- A table judged by places beside its sheet: its bytes first, then whether it is fair.
use Rattle.std.specs.Prelude.{ℕ, ◌≡◌, Bool, true, false, ◌&&◌, List, length, Ok, Err}
use Rattle.std.proofs.Math.Path.{refl, sym, ap}
use Rattle.std.proofs.Common.{◌∙◌}
use Rattle.base.specs.Lists.{every}
use Rattle.base.specs.Choice.{pick}
use Rattle.base.specs.Loops.{and_then}
use Rattle.places.specs.Section.{Section, stands_as, section-number}
use Rattle.places.specs.Reached.{reached, section-judged, reached-twice, number-after}
use Rattle.reading.specs.SheetSection.{sheet_section}
use Rattle.tables.specs.TableSection.{table_section, table_at}
use Rattle.meaning.specs.Reader.{number_of}
use Rattle.meaning.specs.Sections.{Sheet, sheet, Entry}
use Rattle.meaning.specs.Fair.{fair, each_in_one}
use Rattle.meaning.specs.Calls.{judged, fair_table, table_number}
use Rattle.reading.specs.SheetPlaces.{sheet_at}
use Rattle.reading.specs.SheetSection.{sheet_place}
use Rattle.places.specs.Bytes.{number_at, Place}
use Rattle.places.specs.Answer.{passed, passed_on}
use Rattle.reading.specs.SheetJudged.{sheet-judged, sheet-stands}
use Rattle.subscriptions.specs.declared.Subscriptions.{Subscriptions}
use Rattle.subscriptions.specs.Taken.{subscriptions_of}
use Rattle.subscriptions.specs.Subscribed.{SubscriptionsStand, subscriptions_stand}
use Rattle.tables.specs.declared.Entries.{Entries}
use Rattle.tables.specs.TableSection.{table_place, sheet_table_place, table_entries}
use Rattle.tables.specs.TableJudged.{EntriesStand, entries-stand}
use Rattle.fairness.specs.Each.{is_fit, fair_parts}
use Rattle.places.specs.Fields.{given, unless_then, section_then}
use Rattle.meaning.specs.declared.Refusal.TheVariants.{NotFair}
use Rattle.meaning.specs.declared.Refusal.{Refusal}

-- whether the table is fair beside the sheet, as they stand
unfoldable pub fair_at : List ℕ → List ℕ → Bool
fair_at s t = fair (sheet_at s).patterns (table_at t)

-- a table that passes the table check, beside the sheet
unfoldable pub fair_table_section : (s t : List ℕ) → Section t (fair_table (sheet_at s)) 0
unfolding fair_table fair_at table_section
fair_table_section s t =
    stands_as (table_at t) _ (
    section_then _ (table_section s t) λ y.
    unless_then NotFair (fair_at s t) (
    given (table_at t)))
    refl refl

-- where the table ends, or the number of its first fault; 12 last
abbrev pub fair_table_place : List ℕ → List ℕ → Place
fair_table_place s t = (fair_table_section s t).place

-- the sheet first
unfoldable pub fair_place : List ℕ → List ℕ → Place
fair_place s t = and_then (sheet_place s) (λ x. fair_table_place s t)

module _ {B : Type 0} (s t : List ℕ) (refuse : Refusal → B) where
  -- the sheet first, then the table
  pub fair-judged : (next : Sheet → List Entry → B)
      → judged (sheet s) refuse (λ sh. judged (fair_table sh t) refuse (next sh)) ≡ reached (fair_place s t) refuse (next (sheet_at s) (table_at t))
  unfolding fair_place fair_table_section
  fair-judged next =
      sheet-judged s refuse (λ sh. judged (fair_table sh t) refuse (next sh))
      ∙ ap (reached (sheet_place s) refuse) (section-judged (fair_table_section s t) refuse (next (sheet_at s)))
      ∙ reached-twice (sheet_place s) (fair_table_place s t) refuse (next (sheet_at s) (table_at t))

-- the number of a table
pub table_number_lem : (s t : List ℕ) → number_at (fair_place s t) ≡ table_number s t
unfolding table_number fair_place sheet_section
table_number_lem s t = sym (number-after (sheet_section s) (λ sh. number_of (fair_table sh t)) (fair_table_place s t) (section-number (fair_table_section s t)))

-- ---- as it is asked

-- not fair where an entry does not fit
pub not_fit : (s t : List ℕ) {n : ℕ} {r : Bool} → n ≡ length (sheet_at s).patterns → r ≡ every (is_fit n) (table_at t) → r ≡ false → false ≡ fair_at s t
unfolding fair_at
not_fit s t e h k =
    let so : every (is_fit (length (sheet_at s).patterns)) (table_at t) ≡ false = rw (← e) (sym h ∙ k) in
    sym (ap (λ (b : Bool). b && each_in_one 0 (sheet_at s).patterns (table_at t)) so) ∙ fair_parts (sheet_at s).patterns (table_at t)

-- otherwise fair where each subscription stands in one that covers it
pub all_fit : (s t : List ℕ) {n : ℕ} {r q : Bool} → n ≡ length (sheet_at s).patterns → r ≡ every (is_fit n) (table_at t) → r ≡ true
    → q ≡ each_in_one 0 (sheet_at s).patterns (table_at t) → q ≡ fair_at s t
unfolding fair_at
all_fit s t e h k l =
    let so : every (is_fit (length (sheet_at s).patterns)) (table_at t) ≡ true = rw (← e) (sym h ∙ k) in
    l ∙ sym (ap (λ (b : Bool). b && each_in_one 0 (sheet_at s).patterns (table_at t)) so) ∙ fair_parts (sheet_at s).patterns (table_at t)

module _ (s t : List ℕ) where
  -- where both were judged, subscriptions and entries stand
  pub sheet-table-stand : {y : ℕ} {v : Subscriptions} {w : Entries} → sheet_table_place s t ≡ Ok y → v ≡ subscriptions_of s
      → w ≡ table_entries t → SubscriptionsStand s v × EntriesStand t w
  unfolding sheet_table_place
  sheet-table-stand {y} {v} {w} h e f =
      let a = passed_on (sheet_place s) _ y h in
      let sound = sheet-stands s a.0 a.1 in
      (subscriptions_stand s v sound e, entries-stand s t y a.2 w f)

  -- the bytes of both first, 12 last
  last : fair_place s t ≡ and_then (sheet_table_place s t) (λ x. pick (fair_at s t) (Ok x) (Err NotFair))
  unfolding fair_place fair_table_section sheet_table_place and_then
  last = go (sheet_place s)
    where
      go : (c : Place) → and_then c (λ x. and_then (table_place s t) (λ y. pick (fair_at s t) (Ok y) (Err NotFair)))
          ≡ and_then (and_then c (λ x. table_place s t)) (λ y. pick (fair_at s t) (Ok y) (Err NotFair))
      go (Ok x) = refl
      go (Err n) = refl

  -- the table is fair
  pub place-fair : {y : ℕ} {r : Bool} → sheet_table_place s t ≡ Ok y → r ≡ fair_at s t → r ≡ true → Ok y ≡ fair_place s t
  unfolding and_then pick
  place-fair h e k = sym (last ∙ rw (h, ← e, k))

  -- it is not
  pub place-not_fair : {y : ℕ} {r : Bool} → sheet_table_place s t ≡ Ok y → r ≡ fair_at s t → r ≡ false → Err NotFair ≡ fair_place s t
  unfolding and_then pick
  place-not_fair h e k = sym (last ∙ rw (h, ← e, k))

  -- the bytes are refused
  pub place-refused : {m : Refusal} → sheet_table_place s t ≡ Err m → Err m ≡ fair_place s t
  unfolding and_then
  place-refused h = sym (last ∙ rw h)

  -- where the table check was passed, the table is fair
  pub was_fair : {y : ℕ} → fair_place s t ≡ Ok y → fair_at s t ≡ true
  was_fair {y} h = (passed (fair_at s t) _ NotFair y (passed_on (sheet_table_place s t) _ y (sym last ∙ h)).2).0

  -- and subscriptions and entries stand
  pub fair-stand : {y : ℕ} {v : Subscriptions} {w : Entries} → fair_place s t ≡ Ok y → v ≡ subscriptions_of s → w ≡ table_entries t
      → SubscriptionsStand s v × EntriesStand t w
  fair-stand {y} h e f =
      let a = passed_on (sheet_table_place s t) _ y (sym last ∙ h) in
      sheet-table-stand a.1 e f
