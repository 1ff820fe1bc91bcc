-- One entry takes another's members, and the other is removed: what becomes of the entries, their number and their sums.
use Rattle.std.specs.Prelude.{ℕ, suc, ◌+◌, ◌<◌, ◌≡◌, ◌⊎◌, Bool, true, not, eqb, length, set}
use Rattle.std.proofs.Common.{sym, ◌∙◌, ap, inl, inr, arith}
use mathlib.Core.List.Memᴰ
use mathlib.Core.List.{List, [], ◌∷◌, map, Memᴰ}
use Rattle.std.proofs.lemmas.Bool.{eqb-false, not-true}
use Rattle.std.specs.Int.Bits.{bit_or}
use Rattle.std.proofs.Math.ListN.{length-set}
use Rattle.base.specs.Bools.{and_first, and_second}
use Rattle.base.specs.Lists.{total, numbers_from}
use Rattle.base.specs.ListLaws.{keep-gives, numbers_from-gives}
use Rattle.base.specs.Replacing.{set_gives, without-gives, length_without, total_join}
use Rattle.meaning.specs.Forest.{Forest}
use Rattle.meaning.specs.Sections.{Entry}
use Rattle.meaning.specs.Covering.{covers}
use Rattle.meaning.specs.Building.{Pair, pair, pairs_of, pairs_below, no_entry, entry_at, entry_steps, steps_together, join_at, covers_other, covering}

-- two entries, by their numbers
pub record Apart (es : List Entry) (ij : Pair) : Type 0 where
  pub first : ij.fst < length es
  pub second : ij.snd < length es
  pub apart : ij.snd ≡ ij.fst → ⊥

-- ---- pairs of numbers

-- pairs with one first number have it, and a second number of the list
pairs_of_one : (i : ℕ) (js : List ℕ) {ij : Pair} → Memᴰ ij (map (pair i) js) → (ij.fst ≡ i) × Memᴰ ij.snd js
unfolding pair
pairs_of_one i [] m = elim m [ ]
pairs_of_one i (j ∷ js) {ij} m = go (pairs_of_one i js) (Memᴰ.cases_cons m)
  where
    go : (Memᴰ ij (map (pair i) js) → (ij.fst ≡ i) × Memᴰ ij.snd js) → (ij ≡ pair i j) ⊎ Memᴰ ij (map (pair i) js)
        → (ij.fst ≡ i) × Memᴰ ij.snd (j ∷ js)
    go later (inl e) = (ap (λ (k : Pair). k.fst) e, Memᴰ.head (ap (λ (k : Pair). k.snd) e))
    go later (inr t) = let r = later t in (r.0, Memᴰ.tail r.1)

-- so of pairs with each first number of a list
pairs_of_lem : (is js : List ℕ) {ij : Pair} → Memᴰ ij (pairs_of is js) → Memᴰ ij.fst is × Memᴰ ij.snd js
unfolding pairs_of
pairs_of_lem [] js m = elim m [ ]
pairs_of_lem (i ∷ is) js {ij} m = go (pairs_of_lem is js) (Memᴰ.append_cases (map (pair i) js) m)
  where
    go : (Memᴰ ij (pairs_of is js) → Memᴰ ij.fst is × Memᴰ ij.snd js) → Memᴰ ij (map (pair i) js) ⊎ Memᴰ ij (pairs_of is js)
        → Memᴰ ij.fst (i ∷ is) × Memᴰ ij.snd js
    go later (inl t) = let r = pairs_of_one i js t in (Memᴰ.head r.0, r.1)
    go later (inr t) = let r = later t in (Memᴰ.tail r.0, r.1)

-- both numbers of a pair below n are below n
pub pairs_below_lem : (n : ℕ) {ij : Pair} → Memᴰ ij (pairs_below n) → (ij.fst < n) × (ij.snd < n)
unfolding pairs_below
pairs_below_lem n {ij} m =
    let r = pairs_of_lem (numbers_from 0 n) (numbers_from 0 n) m in
    let f = numbers_from-gives 0 n r.0 in
    let s = numbers_from-gives 0 n r.1 in
    (omega arith, omega arith)

-- a pair at which settling may remove: two entries, of which the first covers the second
pub covering-gives : (es : List Entry) {ij : Pair} → Memᴰ ij (covering es)
    → Apart es ij × (covers (entry_at es ij.fst).pattern (entry_at es ij.snd).pattern ≡ true)
unfolding covering covers_other
covering-gives es {ij} m =
    let r = keep-gives (covers_other es) (pairs_below (length es)) m in
    let b = pairs_below_lem (length es) r.0 in
    let other : Bool = not (eqb ij.fst ij.snd) in
    let cover : Bool = covers (entry_at es ij.fst).pattern (entry_at es ij.snd).pattern in
    let differ = eqb-false ij.fst ij.snd (not-true (eqb ij.fst ij.snd) (and_first other cover r.1)) in
    (record { first = b.0; second = b.1; apart = λ e. differ (sym e) }, and_second other cover r.1)

-- ---- the entries after it

-- what then stands at the first place
unfoldable pub union : Forest → Pair → List Entry → Entry
union p ij es = record { members = bit_or (entry_at es ij.fst).members (entry_at es ij.snd).members; pattern = p }

module _ (p : Forest) (ij : Pair) (es : List Entry) where
  -- each is the union, or was there
  pub join_gives : {e : Entry} → Memᴰ e (join_at p ij es) → (e ≡ union p ij es) ⊎ Memᴰ e es
  unfolding join_at union
  join_gives m = set_gives es ij.fst (union p ij es) (without-gives ij.snd (set es ij.fst (union p ij es)) m)

  -- one less
  pub length_join : Apart es ij → suc (length (join_at p ij es)) ≡ length es
  unfolding join_at union
  length_join a =
      let l = length-set es ij.fst (union p ij es) in
      length_without ij.snd (set es ij.fst (union p ij es)) (omega (arith, a.second)) ∙ l

  -- of any sum over the entries, the two numbers go and that of the union comes
  pub total-join_at : (f : Entry → ℕ) → Apart es ij
      → total f (join_at p ij es) + (f (entry_at es ij.fst) + f (entry_at es ij.snd)) ≡ total f es + f (union p ij es)
  unfolding join_at union entry_at
  total-join_at f a = total_join f es ij.fst ij.snd (union p ij es) no_entry a.first a.second a.apart

  -- so of the steps together
  pub steps_join : Apart es ij
      → steps_together (join_at p ij es) + (entry_steps (entry_at es ij.fst) + entry_steps (entry_at es ij.snd)) ≡ steps_together es + entry_steps (union p ij es)
  unfolding steps_together
  steps_join a = total-join_at entry_steps a
