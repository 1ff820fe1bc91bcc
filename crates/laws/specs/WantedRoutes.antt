-- Does anyone want it: asking until the answer comes tells whether the route by the table is 0, for any table, and so whether the
-- plain route is, for a fair one. It takes no more tries than the route.
use Prim.Native.Nat.{ℕ, zero, suc, ◌+◌, ◌*◌, ◌≤◌, ◌<◌}
use Rattle.std.specs.Prelude.{◌≡◌, ◌↔◌, Bool, ◌||◌, eqb, get_or, Result, Ok, Err}
use Rattle.std.proofs.Math.Path.{refl, sym, ap}
use Rattle.std.proofs.Common.{◌∙◌, true≢false, arith, ne_eqb}
use Rattle.std.proofs.Math.Bool.{true, false, not}
use Rattle.std.proofs.lemmas.Bool.{false≢true}
use mathlib.Core.List.{List, [], ◌∷◌, map, flat_map}
use Rattle.std.proofs.Math.ListN.{length, length-map, length-append}
use Rattle.base.specs.Bools.{and_first, and_second, and_both, both_ways}
use Rattle.base.specs.Choice.{pick}
use Rattle.base.specs.Lists.{some, total, numbers_from}
use Rattle.base.specs.Mapping.{get_or-map_there}
use Rattle.base.specs.ListLaws.{some-gives, some_of, some-append, keep-gives, keep_of, numbers_from-gives, numbers_from_of}
use Rattle.meaning.specs.Forest.{Forest, none}
use Rattle.meaning.specs.Sections.{Node, Entry}
use Rattle.meaning.specs.Satisfying.{satisfies, parents_of}
use Rattle.meaning.specs.Fair.{is_member, has_member, fair}
use Rattle.meaning.specs.Routing.{delivery_set, plain_route, members_of, matches_for, delivered_from, table_route, tried_for, tried}
use Rattle.meaning.specs.Routing.{wanted, members_say, answer_comes, until_yes, tried_until_wanted}
use Rattle.meaning.specs.Calls.{table_answer, wanted_answer}
use Rattle.meaning.specs.declared.Tabled.{Tabled}
use Rattle.laws.specs.Rising.{Rising}
use Rattle.laws.specs.Routes.{table_is_plain, delivered-long, delivered_at}
use Rattle.laws.specs.ThreeParts.{three_map}
use Rattle.meaning.specs.declared.Refusal.{Refusal}

-- ---- at least one says yes

unfoldable pub any_yes : List Bool → Bool
any_yes answers = some (λ said. said) answers

-- where at least one says yes, the place of one
any_gives : (bs : List Bool) → any_yes bs ≡ true → (j : ℕ) × (j < length bs) × (get_or bs j false ≡ true)
unfolding any_yes some
any_gives [] h = absurd (false≢true h)
any_gives (true ∷ bs) h = (0, omega arith, refl)
any_gives (false ∷ bs) h = let (j, l, e) = any_gives bs h in (suc j, omega arith, e)

any_of : (bs : List Bool) (j : ℕ) → get_or bs j false ≡ true → any_yes bs ≡ true
unfolding any_yes some
any_of [] j h = absurd (false≢true h)
any_of (true ∷ bs) j h = refl
any_of (false ∷ bs) zero h = absurd (false≢true h)
any_of (false ∷ bs) (suc j) h = any_of bs j h

-- among answers to a question
any_map : {A : Type 0} (f : A → Bool) (xs : List A) → any_yes (map f xs) ≡ some f xs
unfolding any_yes some
any_map f [] = refl
any_map f (x ∷ xs) = ap (λ (b : Bool). f x || b) (any_map f xs)

-- among those of several in turn
any_flat : {A : Type 0} (f : A → List Bool) (xs : List A) → any_yes (flat_map f xs) ≡ some (λ x. any_yes (f x)) xs
unfolding any_yes some flat_map
any_flat f [] = refl
any_flat f (x ∷ xs) = some-append (λ b. b) (f x) (flat_map f xs) ∙ ap (λ (b : Bool). some (λ b. b) (f x) || b) (any_flat f xs)

-- a delivery set is not 0 exactly if one says yes
pub set_not_0 : (bs : List Bool) → not (eqb (delivery_set bs) 0) ≡ any_yes bs
unfolding delivery_set any_yes some pick
set_not_0 [] = refl
set_not_0 (true ∷ bs) = ap not (ne_eqb (1 + 2 * delivery_set bs) 0 (λ e. omega arith))
set_not_0 (false ∷ bs) = twice (delivery_set bs) ∙ set_not_0 bs
  where
    twice : (n : ℕ) → not (eqb (0 + 2 * n) 0) ≡ not (eqb n 0)
    twice zero = refl
    twice (suc n) = ap not (ne_eqb (0 + 2 * suc n) 0 (λ e. omega arith) ∙ sym (ne_eqb (suc n) 0 (λ e. omega arith)))

-- asking ends at the last
pub until_few : (bs : List Bool) → until_yes bs ≤ length bs
unfolding until_yes pick
until_few [] = omega arith
until_few (true ∷ bs) = omega arith
until_few (false ∷ bs) = omega (arith, until_few bs)

-- and not before where none says yes
until_all : (bs : List Bool) → any_yes bs ≡ false → until_yes bs ≡ length bs
unfolding until_yes any_yes some pick
until_all [] h = refl
until_all (true ∷ bs) h = absurd (true≢false h)
until_all (false ∷ bs) h = ap suc (until_all bs h)

-- ---- the answer comes by a table

module _ (ns : List Node) (ps : List Forest) where
  abbrev own : ℕ → Bool
  own i = satisfies ns (get_or ps i none)

  -- at an entry if it matches, and one of its members does
  comes_gives : (e : Entry) → any_yes (answer_comes ns ps e) ≡ true → (i : ℕ) × (i < length ps) × (matches_for ns i e ≡ true) × (own i ≡ true)
  unfolding answer_comes members_say any_yes some matches_for has_member members_of pick
  comes_gives e h = go (satisfies ns e.pattern) refl h
    where
      go : (b : Bool) → satisfies ns e.pattern ≡ b → any_yes (pick b (map own (members_of (length ps) e.members)) []) ≡ true
          → (i : ℕ) × (i < length ps) × (matches_for ns i e ≡ true) × (own i ≡ true)
      go true s k =
          let (i, m, yes') = some-gives own (members_of (length ps) e.members) (sym (any_map own (members_of (length ps) e.members)) ∙ k) in
          let kept = keep-gives (is_member e.members) (numbers_from 0 (length ps)) m in
          (i, omega (arith, (numbers_from-gives 0 (length ps) kept.0).1), and_both (is_member e.members i) (satisfies ns e.pattern) kept.1 s, yes')
      go false s k = absurd (false≢true k)

  comes_of : (e : Entry) (i : ℕ) → i < length ps → matches_for ns i e ≡ true → own i ≡ true → any_yes (answer_comes ns ps e) ≡ true
  unfolding answer_comes members_say any_yes some matches_for has_member members_of pick
  comes_of e i l h yes' =
      let is_member_lem = and_first (is_member e.members i) (satisfies ns e.pattern) h in
      let member = keep_of (is_member e.members) (numbers_from_of 0 (length ps) i (omega arith) (omega arith)) is_member_lem in
      rw (and_second (is_member e.members i) (satisfies ns e.pattern) h) (any_map own (members_of (length ps) e.members) ∙ some_of own member yes')

  -- at one of them exactly if the route by the table is not 0, whether it is fair or not
  pub answer-routed : (es : List Entry) → any_yes (flat_map (answer_comes ns ps) es) ≡ not (eqb (table_route ns es ps) 0)
  unfolding table_route
  answer-routed es = any_flat (answer_comes ns ps) es ∙ both_ways _ _ there here ∙ sym (set_not_0 (delivered_from ns es 0 ps))
    where
      there : some (λ e. any_yes (answer_comes ns ps e)) es ≡ true → any_yes (delivered_from ns es 0 ps) ≡ true
      there h =
          let (e, m, k) = some-gives (λ x. any_yes (answer_comes ns ps x)) es h in
          let (i, l, matches, yes') = comes_gives e k in
          any_of (delivered_from ns es 0 ps) i
          (delivered_at ns es ps i l ∙ and_both (some (matches_for ns i) es) (own i) (some_of (matches_for ns i) m matches) yes')

      here : any_yes (delivered_from ns es 0 ps) ≡ true → some (λ e. any_yes (answer_comes ns ps e)) es ≡ true
      here h =
          let (i, long, k) = any_gives (delivered_from ns es 0 ps) h in
          let l : i < length ps = omega (arith, delivered-long ns es 0 ps) in
          let both = sym (delivered_at ns es ps i l) ∙ k in
          let (e, m, matches) = some-gives (matches_for ns i) es (and_first (some (matches_for ns i) es) (own i) both) in
          some_of (λ x. any_yes (answer_comes ns ps x)) m (comes_of e i l matches (and_second (some (matches_for ns i) es) (own i) both))

  module _ (es : List Entry) (up : Rising (parents_of ns)) (just : fair ps es ≡ true) where
    -- by a fair table the document is wanted exactly if its route is not 0
    pub wanted-routed : wanted ns ps ≡ not (eqb (table_route ns es ps) 0)
    unfolding wanted
    wanted-routed = ap (λ (set : ℕ). not (eqb set 0)) (sym (table_is_plain ns ps es up just))

    -- and that is whether the answer comes
    pub answer-wanted : any_yes (flat_map (answer_comes ns ps) es) ≡ wanted ns ps
    answer-wanted = answer-routed es ∙ sym wanted-routed

  -- the document is wanted exactly if there is a subscription that it satisfies
  pub wanted_by : (wanted ns ps ≡ true) ↔ ((i : ℕ) × (i < length ps) × (own i ≡ true))
  unfolding wanted plain_route
  wanted_by = (λ h. there (any_gives (map (satisfies ns) ps) (sym (set_not_0 (map (satisfies ns) ps)) ∙ h)), λ (i, l, h). here i l h)
    where
      there : (j : ℕ) × (j < length (map (satisfies ns) ps)) × (get_or (map (satisfies ns) ps) j false ≡ true) → (i : ℕ) × (i < length ps) × (own i ≡ true)
      there (j, long, k) =
          let l : j < length ps = omega (arith, length-map ps (satisfies ns)) in
          (j, l, sym (get_or-map_there (satisfies ns) ps j none false l) ∙ k)

      here : (i : ℕ) → i < length ps → own i ≡ true → not (eqb (delivery_set (map (satisfies ns) ps)) 0) ≡ true
      here i l h = set_not_0 (map (satisfies ns) ps) ∙ any_of (map (satisfies ns) ps) i (get_or-map_there (satisfies ns) ps i none false l ∙ h)

  -- ---- how many are tried

  -- for an entry
  pub comes_long : (e : Entry) → length (answer_comes ns ps e) ≡ 1 + tried_for ns (length ps) e
  unfolding answer_comes members_say tried_for pick
  comes_long e = go (satisfies ns e.pattern)
    where
      go : (b : Bool) → suc (length (pick b (map own (members_of (length ps) e.members)) [])) ≡ 1 + pick b (length (members_of (length ps) e.members)) 0
      go true = omega (arith, length-map (members_of (length ps) e.members) own)
      go false = refl

  -- for all: those that the route tries
  all_long : (es : List Entry) → length (flat_map (answer_comes ns ps) es) ≡ tried ns es ps
  unfolding tried total flat_map
  all_long [] = refl
  all_long (e ∷ es) = length-append (answer_comes ns ps e) (flat_map (answer_comes ns ps) es) ∙ omega (arith, comes_long e, all_long es)

  -- no more than by the route
  pub tried_no_more : (es : List Entry) → tried_until_wanted ns es ps ≤ tried ns es ps
  unfolding tried_until_wanted
  tried_no_more es = omega (arith, all_long es, until_few (flat_map (answer_comes ns ps) es))

  -- and where the answer doesn't come as many
  pub tried_all : (es : List Entry) → any_yes (flat_map (answer_comes ns ps) es) ≡ false → tried_until_wanted ns es ps ≡ tried ns es ps
  unfolding tried_until_wanted
  tried_all es h = until_all (flat_map (answer_comes ns ps) es) h ∙ all_long es

-- ---- on bytes

-- whether the route by a table is not 0; refused where it is
unfoldable pub route_not_zero : Result Tabled Refusal → Result Bool Refusal
route_not_zero (Err n) = Err n
route_not_zero (Ok t) = Ok (not (eqb t.set 0))

-- what is answered is that, for any bytes at all
pub wanted_by-table : (s t d : List ℕ) → wanted_answer s t d ≡ route_not_zero (table_answer s t d)
unfolding wanted_answer table_answer route_not_zero
wanted_by-table s t d =
    sym (three_map route_not_zero (λ n. refl) (λ sh es dc just up. ap Ok (sym (wanted-routed dc.nodes sh.patterns es up just))) s t d)
