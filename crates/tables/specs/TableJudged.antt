-- The entries of a table that was judged beside a sheet, by their places: how many there are, and each by value.
use Rattle.std.specs.Prelude.{ℕ, ◌+◌, ◌-◌, ◌≤◌, ◌<◌, ◌≡◌, true, List, leb, ltb, length, take, Ok, refl}
use Rattle.std.specs.Coded.{Coded, code_by, coded_ℕ, coded×}
use Rattle.std.proofs.Math.Path.{sym}
use Rattle.std.proofs.Common.{ap, ◌∙◌, arith, length-take-le}
use Rattle.std.proofs.lemmas.List.{get_or-take}
use borrow.Author.Tests.{leb-true}
use Rattle.std.proofs.Math.ListN.{get_or}
use Rattle.base.specs.Choice.{pick}
use Rattle.base.specs.Loops.{run}
use Rattle.base.specs.Standing.{place_after, length-standing, get_or-standing, run_at}
use Rattle.meaning.specs.Numbers.{most_entries}
use Rattle.meaning.specs.Forest.{Forest}
use Rattle.meaning.specs.Sections.{Entry}
use Rattle.meaning.specs.Building.{no_entry}
use Rattle.shapes.specs.Shapes.{entry_of, WellFormed}
use Rattle.shapes.specs.declared.Entry as shapes
use Rattle.places.specs.Answer.{passed, passed_on}
use Rattle.places.specs.NumberRead.{number_in}
use Rattle.subscriptions.specs.Subscribed.{forest_coded}
use Rattle.subscriptions.specs.Taken.{itself}
use Rattle.subscriptions.specs.TakenRead.{taken-sound}
use Rattle.tables.specs.declared.Entries.{Entries}
use Rattle.tables.specs.TableSection.{after_entry, entry_in, entry_taken, table_at, entry_places, table_entries, entries_lent}
use Rattle.tables.specs.TableSection.{entry_section, table_section, table_place}
use Rattle.places.specs.InTurn.{each_place}
use Rattle.meaning.specs.declared.Refusal.TheVariants.{CountOutside, EndsEarly}

-- as many as the table has entries, at most 64, each the entry at its place, its pattern well formed
pub record EntriesStand (t : List ℕ) (v : Entries) : Type 0 where
  pub few : v.count ≤ most_entries
  pub counted : v.count ≡ length (table_at t)
  pub taken : (i : ℕ) (d : Entry) → i < v.count
      → (entry_of (entry_taken t (get_or v.places i 0)) ≡ get_or (table_at t) i d) × WellFormed (entry_taken t (get_or v.places i 0)).pattern

-- an entry of its members and pattern
abbrev made : ℕ → Forest → Entry
made ms p = record { members = ms; pattern = p }

module _ (s t : List ℕ) (y : ℕ) (h : table_place s t ≡ Ok y) where
  -- the entries were read where they stand
  record AllRead : Type 0 where
    few : leb (get_or t 0 0) most_entries ≡ true
    final : ℕ
    all_read : run (each_place (entry_section t (get_or s 0 0))) (get_or t 0 0) 0 1 ≡ Ok final

  all_read : AllRead
  unfolding table_section
  all_read =
      let a = passed (ltb 0 (length t)) _ EndsEarly y h in
      let b = passed (leb (get_or t 0 0) most_entries) _ CountOutside y a.1 in
      let e = passed_on (run (each_place (entry_section t (get_or s 0 0))) (get_or t 0 0) 0 1) _ y b.1 in
      record { few = b.0; final = e.0; all_read = e.1 }

  -- each is taken from its place as it was read, its pattern well formed
  entry_taken_lem : (i : ℕ) (d : Entry) → i < get_or t 0 0
      → (entry_of (entry_taken t (get_or (table_entries t).places i 0)) ≡ get_or (table_at t) i d)
      × WellFormed (entry_taken t (get_or (table_entries t).places i 0)).pattern
  unfolding table_entries entry_places itself table_at entry_section entry_taken entry_in entry_of
  entry_taken_lem i d b =
      let n = get_or t 0 0 in
      let few : n ≤ most_entries = leb-true n most_entries all_read.few in
      let x = place_after (after_entry t) 1 i in
      let there : get_or (table_entries t).places i 0 ≡ x = get_or-standing itself (after_entry t) 1 most_entries i 0 (omega arith) in
      let which : get_or (table_at t) i d ≡ entry_in t x = get_or-standing (entry_in t) (after_entry t) 1 n i d b in
      let each = entry_section t (get_or s 0 0) in
      let was = run_at (each_place each) (after_entry t) (λ j z. (each z).leads) n 0 1 _ i all_read.all_read b in
      let r = taken-sound t (get_or s 0 0) (x + 8) was.0 (passed (leb 8 (length t - x)) _ EndsEarly was.0 was.1).1 in
      rw (there, which) (ap (λ (p : Forest). made (number_in t x 8) p) r.0, r.1)

  -- so it is of a table that was judged beside a sheet
  pub entries-stand : (v : Entries) → v ≡ table_entries t → EntriesStand t v
  unfolding table_entries table_at pick
  entries-stand v e =
      let all : v.count ≡ get_or t 0 0 = rw all_read.few at (ap (λ (w : Entries). w.count) e) in
      record {
        few = omega (arith, all, leb-true (get_or t 0 0) most_entries all_read.few);
        counted = all ∙ sym (length-standing (entry_in t) (after_entry t) 1 (get_or t 0 0));
        taken = λ i d l. rw e (entry_taken_lem i d (omega (arith, all)));
      }

-- the entry by value at the i-th place is the i-th entry, its pattern well formed
pub entry_here : (t : List ℕ) (v : Entries) → EntriesStand t v → (i : ℕ) (e : shapes.Entry) → i < v.count
    → e ≡ entry_taken t (get_or v.places i 0)
    → (entry_of e ≡ get_or (table_at t) i no_entry) × WellFormed e.pattern
entry_here t v stand i e l h = rw h (stand.taken i no_entry l)

-- the places that are there stand as all do
pub places-stand : (t : List ℕ) (v : Entries) → EntriesStand t v → v.count ≤ length v.places
    → EntriesStand t (entries_lent (length (take v.count v.places)) (take v.count v.places))
places-stand t v stand room =
    let all : length (take v.count v.places) ≡ v.count = length-take-le v.count v.places room in
    record {
      few = omega (arith, stand.few);
      counted = rw all stand.counted;
      taken = λ i d l. let inside : i < v.count = omega (arith, all) in rw get_or-take (stand.taken i d inside);
    }

-- an entry is its members and a forest: so two proofs that entries are the same don't differ
pub entry_coded : Coded Entry
entry_coded = code_by (ℕ × Forest) (coded× coded_ℕ forest_coded) (λ e. (e.members, e.pattern)) (λ (a, b). made a b) (λ _. refl)
