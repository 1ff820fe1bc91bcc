-- An entry is removed: the later ones are moved down, one after another, or all by one copy.
use Prim.Native.Nat.{ℕ, zero, suc, ◌+◌, ◌-◌, ◌≤◌, ◌<◌}
use Rattle.std.specs.Prelude.{◌≡◌, length, get_or, set, take, drop}
use Rattle.std.specs.List.{copy_within}
use Rattle.std.proofs.Math.Seq.{paste, paste-suc}
use Rattle.std.proofs.Math.Path.{refl, sym, ap}
use Rattle.std.proofs.Common.{◌∙◌, arith, add-zero, add-one, length-set, length-drop, take-suc, take-suc-set, drop-set-lt, drop-drop, get_or-drop, take-append-drop}
use mathlib.Core.List.{List, [], ◌∷◌, ◌++◌, map, append-nil}
use Rattle.base.specs.Lists.{without}
use Rattle.base.specs.Replacing.{length_without, without-gives}
use Rattle.base.specs.Mapping.{without-after, without-take, map-without}
use Rattle.shapes.specs.Patterns.{WellFormedAll}
use Rattle.shapes.specs.Shapes.{entry_of, entries_in, table_of, WellFormedTable, well_formed_table}
use Rattle.shapes.specs.declared.Entry.{Entry}
use Rattle.shapes.specs.declared.Table.{Table}

-- from place j on the elements of l are moved down, up to place k; the others still stand where they stood
pub record Moved {A : Type 0} (l : List A) (j k : ℕ) (m : List A) : Type 0 where
  pub from : j ≤ k
  pub long : length m ≡ length l
  pub moved : take k m ≡ take k (without j l)
  pub rest : drop k m ≡ drop k l

module _ {A : Type 0} where
  -- before place j a removal changes nothing
  before-removed : (j : ℕ) (l : List A) → take j l ≡ take j (without j l)
  unfolding without
  before-removed j [] = refl
  before-removed zero (x ∷ xs) = refl
  before-removed (suc j) (x ∷ xs) = ap (λ (l : List A). x ∷ l) (before-removed j xs)

  -- at place j nothing is moved yet
  pub moved_starts : (l : List A) (j : ℕ) → Moved l j j l
  moved_starts l j = record { from = omega arith; long = refl; moved = before-removed j l; rest = refl }

  -- one more is moved down
  pub moved-goes_on : (l m : List A) (j k : ℕ) (d : A) → k + 1 < length l → Moved l j k m → Moved l j (k + 1) (set m k (get_or m (k + 1) d))
  moved-goes_on l m j k d h z =
      let a = get_or m (suc k) d in
      rw (add-one k) (record { from = omega (arith, z.from); long = length-set m k a ∙ z.long; moved = moved a next; rest = rest a })
    where
      next : get_or m (suc k) d ≡ get_or l (suc k) d
      next = rw (add-one k) at (sym (get_or-drop k m 1 d) ∙ ap (λ (xs : List A). get_or xs 1 d) z.rest ∙ get_or-drop k l 1 d)

      moved : (a : A) → a ≡ get_or l (suc k) d → take (suc k) (set m k a) ≡ take (suc k) (without j l)
      moved a e =
          take-suc-set m k a (omega (arith, z.long))
          ∙ (λ i. z.moved i ++ ((e ∙ sym (without-after j k l d z.from)) i ∷ []))
          ∙ sym (take-suc (without j l) k d (omega (arith, length_without j l (omega (arith, z.from)))))

      rest : (a : A) → drop (suc k) (set m k a) ≡ drop (suc k) l
      rest a =
          drop-set-lt (suc k) m k a (omega arith)
          ∙ (rw (add-one k) at (sym (drop-drop 1 k m) ∙ ap (drop 1) z.rest ∙ drop-drop 1 k l))

  -- so many are moved down by a copy of them
  down : (l : List A) (j n : ℕ) (d : A) → j + n < length l → Moved l j (j + n) (paste l j (drop (suc j) l) n)
  down l j zero d h = rw (add-zero j, append-nil (take j l), take-append-drop j l) (moved_starts l j)
  down l j (suc n) d h =
      let m = paste l j (drop (suc j) l) n in
      let z = down l j n d (omega arith) in
      let value : get_or m (j + n + 1) d ≡ get_or (drop (suc j) l) n d =
      sym (get_or-drop (j + n) m 1 d) ∙ ap (λ (xs : List A). get_or xs 1 d) z.rest ∙ get_or-drop (j + n) l 1 d
      ∙ ap (λ (i : ℕ). get_or l i d) (omega arith) ∙ sym (get_or-drop (suc j) l n d) in
      let more : j + n + 1 ≡ j + suc n = omega arith in
      rw (value, paste-suc l j (drop (suc j) l) n d (omega arith) (omega (arith, length-drop (suc j) l)), more) at (moved-goes_on l m j (j + n) d (omega arith) z)

  -- all up to the n-th are, where these are copied one place down
  pub moved_down : (l : List A) (j n : ℕ) (d : A) (m : List A) → j < n → n ≤ length l → m ≡ copy_within l (j + 1) n j → Moved l j (n - 1) m
  moved_down l j n d m h k e =
      let many : j + (n - suc j) ≡ n - 1 = omega arith in
      rw (e, add-one j, ← many) (down l j (n - suc j) d (omega arith))

-- the table whose entries are so moved, one less
module _ (t : Table) (s : WellFormedTable t) (j k : ℕ) (m : List Entry) (h : j < t.count) (e : suc k ≡ t.count) (z : Moved t.entries j k m) where
  -- the entries that are then there
  moved_entries : take k m ≡ without j (take t.count t.entries)
  moved_entries = z.moved ∙ sym (without-take j k t.entries z.from) ∙ ap (λ (n : ℕ). without j (take n t.entries)) e

  -- they are well formed
  pub patterns-removed : WellFormedAll (take k m)
  patterns-removed f p = t.patterns f (without-gives j (take t.count t.entries) (rw moved_entries at p))

  -- the table that they are
  abbrev pub removed : Table
  removed = record { count = k; entries = m; few = omega (arith, t.few); full = z.long ∙ t.full; patterns = patterns-removed }

  -- what its entries stand for
  pub table-removed : table_of removed ≡ without j (table_of t)
  unfolding table_of entries_in
  table-removed = ap (map entry_of) moved_entries ∙ map-without entry_of j (entries_in t)

  -- it is well formed
  pub sound-removed : WellFormedTable removed
  sound-removed = well_formed_table removed
