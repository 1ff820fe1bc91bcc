-- A table by value with one entry more behind its entries; one entry for each of the first subscriptions.
use Rattle.std.specs.Prelude.{ℕ, suc, ◌+◌, ◌^◌, ◌≤◌, ◌<◌, ◌≡◌, ◌⊎◌, set}
use Rattle.std.proofs.Math.Path.{sym, ap, ap₂}
use Rattle.std.proofs.Common.{◌∙◌, inl, inr, ⊎_elim, arith, add-one, length-set, take-suc, take_all}
use mathlib.Core.List.Memᴰ
use mathlib.Core.List.{List, [], ◌∷◌, ◌++◌, map, map-append, Memᴰ}
use Rattle.std.proofs.Math.ListN.{length, get_or, take}
use Rattle.std.proofs.Math.Seq.{take-suc-set, length-take-le}
use Rattle.meaning.specs.Forest.{Forest, none}
use Rattle.meaning.specs.Sections
use Rattle.meaning.specs.Building.{entries_from}
use Rattle.shapes.specs.Patterns.{WellFormedAll}
use Rattle.shapes.specs.Shapes.{pattern_of, WellFormed, entry_of, entries_in, table_of, WellFormedTable, well_formed_table}
use Rattle.shapes.specs.declared.Entry.{Entry}
use Rattle.shapes.specs.declared.Table.{Table}
use Rattle.meaning.specs.Numbers.{most_entries}

-- what is in a list with one element more
last-gives : {A : Type 0} {y : A} (xs : List A) (x : A) → Memᴰ y (xs ++ (x ∷ [])) → (y ≡ x) ⊎ Memᴰ y xs
last-gives [] x (Memᴰ.head e) = inl e
last-gives {y = y} [] x (Memᴰ.tail m) = elim m [ ]
last-gives (z ∷ zs) x (Memᴰ.head e) = inr (Memᴰ.head e)
last-gives (z ∷ zs) x (Memᴰ.tail m) = ⊎_elim inl (λ k. inr (Memᴰ.tail k)) (last-gives zs x m)

module _ (t : Table) (sound : WellFormedTable t) (e : Entry) (room : t.count < most_entries) where
  -- the entries with it
  grown-entries : take (t.count + 1) (set t.entries t.count e) ≡ take t.count t.entries ++ (e ∷ [])
  grown-entries =
      ap (λ (n : ℕ). take n (set t.entries t.count e)) (add-one t.count)
      ∙ take-suc-set t.entries t.count e (omega (arith, sound.full))

  -- what the entries of the table with it stand for
  pub grown-table : (u : Table) → u.count ≡ t.count + 1 → u.entries ≡ set t.entries t.count e → table_of u ≡ table_of t ++ (entry_of e ∷ [])
  unfolding table_of entries_in
  grown-table u c es = rw (c, es) (ap (map entry_of) grown-entries ∙ map-append entry_of (entries_in t) (e ∷ []))

  module _ (sp : WellFormed e.pattern) where
    -- they are well formed where its pattern is
    pub grown_patterns : WellFormedAll (take (t.count + 1) (set t.entries t.count e))
    grown_patterns f m = ⊎_elim (λ q. rw q sp) (λ k. t.patterns f k) (last-gives (take t.count t.entries) e (rw grown-entries at m))

    -- that table
    abbrev pub grown : Table
    grown = record {
      count = t.count + 1;
      entries = set t.entries t.count e;
      few = omega (arith, room);
      full = length-set t.entries t.count e ∙ t.full;
      patterns = grown_patterns;
    }

    -- is well formed
    pub grown-sound : WellFormedTable grown
    grown-sound = well_formed_table grown

-- one subscription more has one entry more
entries-last : (k : ℕ) (ps : List Forest) (p : Forest)
    → entries_from k (ps ++ (p ∷ [])) ≡ entries_from k ps ++ (record { members = 2 ^ (k + length ps); pattern = p } ∷ [])
unfolding entries_from
entries-last k [] p = ap (λ (n : ℕ). record { members = 2 ^ n; pattern = p } ∷ []) (omega arith)
entries-last k (q ∷ qs) p =
    let later : entries_from (suc k) (qs ++ (p ∷ [])) ≡ entries_from (suc k) qs ++ (record { members = 2 ^ (k + length (q ∷ qs)); pattern = p } ∷ []) =
    entries-last (suc k) qs p ∙ ap (λ (n : ℕ). entries_from (suc k) qs ++ (record { members = 2 ^ n; pattern = p } ∷ [])) (omega arith) in
    ap (λ (l : List Sections.Entry). record { members = 2 ^ k; pattern = q } ∷ l) later

module _ (ps : List Forest) where
  -- a table of one entry for each of the first i subscriptions
  pub record FirstOnes (i : ℕ) (t : Table) : Type 0 where
    pub within : i ≤ length ps
    pub counted : t.count ≡ i
    pub are : table_of t ≡ entries_from 0 (take i ps)
    pub sound : WellFormedTable t

  -- without any
  pub first_none : (t : Table) → t.count ≡ 0 → length t.entries ≡ most_entries → FirstOnes 0 t
  unfolding table_of entries_in entries_from
  first_none t e full = record { within = omega arith; counted = e; are = rw e; sound = record { few = omega arith; full = full; patterns = none_there } }
    where
      none_there : (f : Entry) → Memᴰ f (entries_in t) → WellFormed f.pattern
      none_there f m = absurd (Memᴰ.not-nil (rw e at m))

  -- and one more
  pub first_more : (i : ℕ) (t u : Table) (e : Entry) → i < length ps → FirstOnes i t
      → table_of u ≡ table_of t ++ (entry_of e ∷ []) → u.count ≡ t.count + 1 → WellFormedTable u → e.members ≡ 2 ^ i
      → pattern_of e.pattern ≡ get_or ps i none → FirstOnes (i + 1) u
  unfolding entry_of
  first_more i t u e h z grew counted sound one is =
      let long : length (take i ps) ≡ i = length-take-le i ps (omega arith) in
      let last : Sections.Entry = record { members = 2 ^ (0 + length (take i ps)); pattern = get_or ps i none } in
      let which : entry_of e ≡ last =
      ap₂ (λ (n : ℕ) (p : Forest). record { members = n; pattern = p }) (one ∙ ap (λ (n : ℕ). 2 ^ n) (omega arith)) is in
      let more : entries_from 0 (take (i + 1) ps) ≡ entries_from 0 (take i ps) ++ (last ∷ []) =
      ap (λ (n : ℕ). entries_from 0 (take n ps)) (add-one i) ∙ ap (entries_from 0) (take-suc ps i none h) ∙ entries-last 0 (take i ps) (get_or ps i none) in
      record {
        within = omega arith;
        counted = omega (arith, z.counted);
        are = grew ∙ ap₂ (λ (l : List Sections.Entry) (x : Sections.Entry). l ++ (x ∷ [])) z.are which ∙ sym more;
        sound = sound;
      }

  -- all of them
  pub first_all : (i : ℕ) (t : Table) → length ps ≤ i → FirstOnes i t → table_of t ≡ entries_from 0 ps
  first_all i t h z = z.are ∙ ap (entries_from 0) (take_all i ps h)
