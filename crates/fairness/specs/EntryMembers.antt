-- The members of every entry of a table, taken out of its bytes once.
use Rattle.std.specs.Prelude.{ℕ, ◌+◌, ◌<◌, ◌≡◌, ◌⊎◌, true, false, List, eqb, length, set}
use Rattle.std.proofs.Common.{◌∙◌, inl, inr, arith, get_or-set_same}
use Rattle.std.proofs.Math.ListN.{get_or, length-set}
use Rattle.std.proofs.Math.Seq.{get_or-set_other}
use borrow.Author.Tests.{eqb-true, eqb-false}
use Rattle.base.specs.Bools.{true_or_false}
use Rattle.places.specs.NumberRead.{number_in}
use Rattle.tables.specs.declared.Entries.{Entries}
use Rattle.tables.specs.TableSection.{entry_taken}
use Rattle.meaning.specs.Numbers.{most_entries}

module _ (t : List ℕ) (v : Entries) where
  -- those of the first n entries
  pub record FirstMembers (n : ℕ) (members : List ℕ) : Type 0 where
    pub full : length members ≡ most_entries
    pub each : (j : ℕ) → j < n → get_or members j 0 ≡ (entry_taken t (get_or v.places j 0)).members

  -- those of all
  abbrev pub MembersStand : List ℕ → Type 0
  MembersStand = FirstMembers v.count

  -- of no entry
  pub no_members : (members : List ℕ) → length members ≡ most_entries → FirstMembers 0 members
  no_members members full = record { full = full; each = λ j h. absurd (omega arith) }

  -- and of one more
  pub one_more : (n : ℕ) (members : List ℕ) (m : ℕ) → n < most_entries → FirstMembers n members → m ≡ number_in t (get_or v.places n 0) 8
      → FirstMembers (n + 1) (set members n m)
  unfolding entry_taken
  one_more n members m h z e = record { full = length-set members n m ∙ z.full; each = each }
    where
      each : (j : ℕ) → j < n + 1 → get_or (set members n m) j 0 ≡ number_in t (get_or v.places j 0) 8
      each j l = go (true_or_false (eqb j n))
        where
          go : (eqb j n ≡ true) ⊎ (eqb j n ≡ false) → get_or (set members n m) j 0 ≡ number_in t (get_or v.places j 0) 8
          go (inl q) =
              let same : j ≡ n = eqb-true j n q in
              rw same (get_or-set_same members n m 0 (omega (arith, z.full)) ∙ e)
          go (inr q) =
              let other : j ≡ n → ⊥ = eqb-false j n q in
              get_or-set_other members n j m 0 other ∙ z.each j (omega (arith, other))
