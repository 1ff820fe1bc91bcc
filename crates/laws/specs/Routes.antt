-- The table route is the plain route, for any fair table and any document; a table that passes the check is fair; and what is
-- delivered, bit by bit.
use Prim.Native.Nat.{ℕ, zero, suc, ◌+◌, ◌<◌}
use Rattle.std.specs.Prelude.{◌≡◌, ◌⊎◌, ◌↔◌, true, false, ◌&&◌, ltb, length, get_or}
use Rattle.std.proofs.Math.Path.{refl, ap, ap₂}
use Rattle.std.proofs.Common.{sym, ◌∙◌, inl, inr, add-zero, zero-add, ltb-true, ltb-false}
use Rattle.std.proofs.Math.Bool.{Bool}
use Rattle.std.proofs.lemmas.Bool.{false≢true}
use native.Mathlib.Omega.{arith}
use Rattle.std.proofs.lemmas.List.{length-map}
use Rattle.std.proofs.Math.ListN.{get_or-eq_default}
use mathlib.Core.List.{List, [], ◌∷◌, map, Memᴰ}
use Rattle.base.specs.Bools.{and_first, and_second, and_both, both_ways, not_both, true_or_false}
use Rattle.base.specs.Lists.{some}
use Rattle.base.specs.ListLaws.{some_of, keep-gives}
use Rattle.meaning.specs.Reader.{read}
use Rattle.base.specs.Mapping.{get_or-map_there}
use Rattle.meaning.specs.Forest.{Forest, none}
use Rattle.meaning.specs.Sections.{Sheet, Node, Entry, table}
use Rattle.meaning.specs.Satisfying.{satisfies, parents_of}
use Rattle.meaning.specs.Covering.{covers}
use Rattle.meaning.specs.Fair.{is_member, has_member, entries_of, one_that_covers, each_in_one, fair}
use Rattle.meaning.specs.Routing.{delivery_set, plain_route, matches_for, delivered_from, table_route}
use Rattle.meaning.specs.Calls.{fair_table}
use Rattle.laws.specs.Rising.{Rising}
use Rattle.laws.specs.Documents.{covering_loses_none}
use Rattle.laws.specs.Readers.{give-read, bind_read, test_read}
use Rattle.laws.specs.MemberBits.{member_delivery}
use Rattle.laws.specs.InOneEntry.{fair-gives}
use Rattle.meaning.specs.declared.Refusal.TheVariants.{NotFair}

-- the entry in which a subscription stands
pub entry_of : (p : Forest) (ks : List Entry) → one_that_covers p ks ≡ true → (e : Entry) × Memᴰ e ks × (covers e.pattern p ≡ true)
unfolding one_that_covers
entry_of p [] h = absurd (false≢true h)
entry_of p (k ∷ []) h = (k, Memᴰ.head refl, h)
entry_of p (k ∷ f ∷ more) h = absurd (false≢true h)

module _ (ns : List Node) (es : List Entry) (up : Rising (parents_of ns)) where
  -- where a subscription matches, the entry that has it as a member matches
  entry-matches : (i : ℕ) (p : Forest) → one_that_covers p (entries_of i es) ≡ true → satisfies ns p ≡ true → some (matches_for ns i) es ≡ true
  unfolding entries_of matches_for
  entry-matches i p h s =
      let r = entry_of p (entries_of i es) h in
      let k = keep-gives (has_member i) es r.1 in
      some_of (matches_for ns i) k.0
      (and_both (has_member i r.0) (satisfies ns r.0.pattern) k.1 (covering_loses_none ns r.0.pattern p up r.2 s))

  -- so every subscription has its own answer
  same-answers : (i : ℕ) (ps : List Forest) → each_in_one i ps es ≡ true → delivered_from ns es i ps ≡ map (satisfies ns) ps
  unfolding each_in_one delivered_from
  same-answers i [] h = refl
  same-answers i (p ∷ ps) h =
      let here = and_first (one_that_covers p (entries_of i es)) (each_in_one (suc i) ps es) h in
      let later = and_second (one_that_covers p (entries_of i es)) (each_in_one (suc i) ps es) h in
      let asked : Bool = some (matches_for ns i) es in
      let own : Bool = satisfies ns p in
      ap₂ (λ (b : Bool) (bs : List Bool). b ∷ bs)
      (both_ways (asked && own) own (and_second asked own) (λ s. and_both asked own (entry-matches i p here s) s)) (same-answers (suc i) ps later)

-- the table route is the plain route
pub table_is_plain : (ns : List Node) (ps : List Forest) (es : List Entry) → Rising (parents_of ns) → fair ps es ≡ true → table_route ns es ps ≡ plain_route ns ps
unfolding table_route plain_route
table_is_plain ns ps es up h = ap delivery_set (same-answers ns es up 0 ps (fair-gives ps es h).each)

-- ---- the answers of the table route

module _ (ns : List Node) (es : List Entry) where
  -- as many as subscriptions
  pub delivered-long : (i : ℕ) (qs : List Forest) → length (delivered_from ns es i qs) ≡ length qs
  unfolding delivered_from
  delivered-long i [] = refl
  delivered-long i (q ∷ qs) = ap suc (delivered-long (suc i) qs)

  -- that of subscription i + j, from number i on
  delivered_from_lem : (i j : ℕ) (qs : List Forest) → j < length qs
      → get_or (delivered_from ns es i qs) j false ≡ (some (matches_for ns (i + j)) es && satisfies ns (get_or qs j none))
  unfolding delivered_from
  delivered_from_lem i j [] h = absurd (omega arith)
  delivered_from_lem i zero (q ∷ qs) h = rw (add-zero i)
  delivered_from_lem i (suc j) (q ∷ qs) h =
      let n : suc i + j ≡ i + suc j = omega arith in
      rw n at (delivered_from_lem (suc i) j qs (omega arith))

  -- that of subscription j
  pub delivered_at : (ps : List Forest) (j : ℕ) → j < length ps
      → get_or (delivered_from ns es 0 ps) j false ≡ (some (matches_for ns j) es && satisfies ns (get_or ps j none))
  delivered_at ps j h = rw (zero-add j) at (delivered_from_lem 0 j ps h)

-- ---- on bytes

-- a table that passes the check is fair
pub fair_table-fair : (sh : Sheet) (t left : List ℕ) (es : List Entry) → fair_table sh t ≡ read es left → fair sh.patterns es ≡ true
unfolding fair_table
fair_table-fair sh t left es h =
    let r = bind_read (table sh) _ t es left h in
    let judge = test_read NotFair (fair sh.patterns r.value) _ r.middle r.after in
    ap (fair sh.patterns) (sym (give-read r.value r.middle judge.1).0) ∙ judge.0

-- bit i of the plain route is set exactly if there is a pattern i, and the document satisfies it
pub delivered-bit : (ns : List Node) (ps : List Forest) (i : ℕ)
    → (is_member (plain_route ns ps) i ≡ true) ↔ ((ltb i (length ps) ≡ true) × (satisfies ns (get_or ps i none) ≡ true))
unfolding plain_route
delivered-bit ns ps i = (λ h. to h (true_or_false (ltb i (length ps))), λ (there, h). said there ∙ h)
  where
    bit : is_member (delivery_set (map (satisfies ns) ps)) i ≡ get_or (map (satisfies ns) ps) i false
    bit = member_delivery (map (satisfies ns) ps) i

    said : ltb i (length ps) ≡ true → is_member (delivery_set (map (satisfies ns) ps)) i ≡ satisfies ns (get_or ps i none)
    said there = bit ∙ get_or-map_there (satisfies ns) ps i none false (ltb-true i (length ps) there)

    past : ltb i (length ps) ≡ false → is_member (delivery_set (map (satisfies ns) ps)) i ≡ false
    past e = bit ∙ get_or-eq_default (map (satisfies ns) ps) false (omega (arith, length-map ps (satisfies ns), ltb-false i (length ps) e))

    to : is_member (delivery_set (map (satisfies ns) ps)) i ≡ true → (ltb i (length ps) ≡ true) ⊎ (ltb i (length ps) ≡ false)
        → (ltb i (length ps) ≡ true) × (satisfies ns (get_or ps i none) ≡ true)
    to h (inl e) = (e, sym (said e) ∙ h)
    to h (inr e) = absurd (not_both _ h (past e))
