-- Asking until a member matches, entry by entry and member by member: whether the answer comes, and how many patterns were tried.
use Prim.Native.Nat.{ℕ, suc, ◌+◌, ◌-◌, ◌*◌, ◌≤◌, ◌<◌}
use Rattle.std.specs.Prelude.{◌≡◌, Bool, true, false, not, eqb, length, get_or, drop}
use Rattle.std.proofs.Math.Path.{refl, sym, ap}
use Rattle.std.proofs.Common.{◌∙◌, true≢false, arith, add-zero, zero-add, drop_of_length-le, drop-cons}
use Rattle.std.proofs.lemmas.Bool.{false≢true}
use mathlib.Core.List.{List, [], ◌∷◌, ◌++◌, map, flat_map}
use Rattle.std.proofs.Math.Numerals.{add-one}
use Rattle.base.specs.Choice.{pick}
use Rattle.base.specs.Lists.{some, keep, numbers_from}
use Rattle.base.specs.Loops.{split, none_left}
use Rattle.meaning.specs.Forest.{Forest, none}
use Rattle.meaning.specs.Numbers.{most_patterns}
use Rattle.meaning.specs.Sections.{Node, Entry}
use Rattle.meaning.specs.Building.{no_entry}
use Rattle.meaning.specs.Satisfying.{satisfies}
use Rattle.meaning.specs.Fair.{is_member}
use Rattle.meaning.specs.Routing.{members_of, table_route, members_say, answer_comes, until_yes, tried_until_wanted}
use Rattle.laws.specs.WantedRoutes.{any_yes, answer-routed, until_few, comes_long}
use Rattle.matching.specs.declared.Tried.{Tried}
use Rattle.routing.specs.Tabling.{try_if, member_try, tried_for_few}

-- asking in turn, after n tries, until one says yes
unfoldable pub ask_in_turn : List Bool → ℕ → Tried
ask_in_turn answers n = record { yes = any_yes answers; tried = n + until_yes answers }

-- nothing is left to ask
none_asked : (n : ℕ) → ask_in_turn [] n ≡ record { yes = false; tried = n }
unfolding ask_in_turn any_yes until_yes some
none_asked n = ap (λ (m : ℕ). record { yes = false; tried = m }) (add-zero n)

-- one says yes: nothing is asked afterwards
yes_asked : (answers : List Bool) (n : ℕ) → ask_in_turn (true ∷ answers) n ≡ record { yes = true; tried = n + 1 }
unfolding ask_in_turn any_yes until_yes some pick
yes_asked answers n = refl

-- one says no
no_asked : (answers : List Bool) (n : ℕ) → ask_in_turn (false ∷ answers) n ≡ ask_in_turn answers (n + 1)
unfolding ask_in_turn any_yes until_yes some pick
no_asked answers n = ap (λ (m : ℕ). record { yes = any_yes answers; tried = m }) (omega arith)

-- the answer comes among the first
first-asked : (answers more : List Bool) (n : ℕ) → (ask_in_turn answers n).yes ≡ true → ask_in_turn (answers ++ more) n ≡ ask_in_turn answers n
unfolding ask_in_turn any_yes some
first-asked [] more n h = absurd (false≢true h)
first-asked (true ∷ answers) more n h = yes_asked (answers ++ more) n ∙ sym (yes_asked answers n)
first-asked (false ∷ answers) more n h = no_asked (answers ++ more) n ∙ first-asked answers more (n + 1) h ∙ sym (no_asked answers n)

-- it doesn't, and the others follow
then_asked : (answers more : List Bool) (n : ℕ) → (ask_in_turn answers n).yes ≡ false → ask_in_turn (answers ++ more) n ≡ ask_in_turn more (ask_in_turn answers n).tried
unfolding ask_in_turn any_yes some
then_asked [] more n h = ap (ask_in_turn more) (ap (λ (q : Tried). q.tried) (sym (none_asked n)))
then_asked (true ∷ answers) more n h = absurd (true≢false h)
then_asked (false ∷ answers) more n h =
    no_asked (answers ++ more) n ∙ then_asked answers more (n + 1) h ∙ ap (λ (q : Tried). ask_in_turn more q.tried) (sym (no_asked answers n))

-- ---- one try in turn, where there is one

-- it says yes
try_yes : (b said : Bool) (more : List Bool) (n : ℕ) → (try_if b said n).yes ≡ true → try_if b said n ≡ ask_in_turn (pick b (said ∷ more) more) n
unfolding try_if pick
try_yes true true more n h = sym (yes_asked more n)
try_yes true false more n h = absurd (false≢true h)
try_yes false said more n h = absurd (false≢true h)

-- it says no, or isn't asked
try_no : (b said : Bool) (more : List Bool) (n : ℕ) → (try_if b said n).yes ≡ false
    → ask_in_turn (pick b (said ∷ more) more) n ≡ ask_in_turn more (try_if b said n).tried
unfolding try_if pick
try_no true true more n h = absurd (true≢false h)
try_no true false more n h = no_asked more n
try_no false said more n h = refl

try_few : (b said : Bool) (n : ℕ) → (try_if b said n).tried ≤ n + 1
unfolding try_if pick
try_few true said n = omega arith
try_few false said n = omega arith

module _ (ns : List Node) (ps : List Forest) where
  abbrev own : ℕ → Bool
  own i = satisfies ns (get_or ps i none)

  -- ---- the members of an entry

  -- what those from i on say
  unfoldable pub members_say_from : ℕ → ℕ → List Bool
  members_say_from members i = map own (keep (is_member members) (numbers_from i (length ps - i)))

  -- the members from i on give what all give; at most one try for each so far
  pub record SeekingMembers (members n₀ i n : ℕ) : Type 0 where
    pub few : n ≤ n₀ + i
    pub left : ask_in_turn (members_say_from members i) n ≡ ask_in_turn (members_say ns ps members) n₀

  -- the first of them is left out where it is no member
  members-split : (members i : ℕ) → i < length ps
      → members_say_from members i ≡ pick (is_member members i) (own i ∷ members_say_from members (i + 1)) (members_say_from members (i + 1))
  unfolding members_say_from numbers_from keep pick
  members-split members i h = rw (split (length ps) i h, add-one i) (go (is_member members i))
    where
      later : List ℕ
      later = keep (is_member members) (numbers_from (suc i) (length ps - suc i))

      go : (b : Bool) → map own (pick b (i ∷ later) later) ≡ pick b (own i ∷ map own later) (map own later)
      go true = refl
      go false = refl

module _ {ns : List Node} {ps : List Forest} {members n₀ : ℕ} where
  -- no member is tried
  pub seeking_starts : SeekingMembers ns ps members n₀ 0 n₀
  unfolding members_say_from members_say members_of
  seeking_starts = record { few = omega arith; left = ap (λ (k : ℕ). ask_in_turn (map (own ns ps) (keep (is_member members) (numbers_from 0 k))) n₀) (omega arith) }

  module _ {i n : ℕ} (turn : SeekingMembers ns ps members n₀ i n) where
    module _ {said : Bool} {q : Tried} (here : i < length ps) (is : said ≡ satisfies ns (get_or ps i none)) (tried : q ≡ member_try members i said n) where
      -- a member matches
      pub seeking_stops : q.yes ≡ true → q ≡ ask_in_turn (members_say ns ps members) n₀
      unfolding member_try
      seeking_stops h =
          tried ∙ try_yes (is_member members i) said (members_say_from ns ps members (i + 1)) n (ap (λ (r : Tried). r.yes) (sym tried) ∙ h)
          ∙ rw (is) (ap (λ (l : List Bool). ask_in_turn l n) (sym (members-split ns ps members i here)) ∙ turn.left)

      -- one member more
      pub seeking_goes_on : q.yes ≡ false → SeekingMembers ns ps members n₀ (i + 1) q.tried
      unfolding member_try
      seeking_goes_on h =
          let no = try_no (is_member members i) said (members_say_from ns ps members (i + 1)) n (ap (λ (r : Tried). r.yes) (sym tried) ∙ h) in
          let few : q.tried ≤ n + 1 = rw tried (try_few (is_member members i) said n) in
          record {
            few = omega (arith, turn.few);
            left =
                rw tried (sym no ∙ rw is (ap (λ (l : List Bool). ask_in_turn l n) (sym (members-split ns ps members i here)) ∙ turn.left));
          }

    -- none matches
    pub seeking_ends : length ps ≤ i → ◌≡◌ {A = Tried} (record { yes = false; tried = n }) (ask_in_turn (members_say ns ps members) n₀)
    unfolding members_say_from numbers_from keep
    seeking_ends h = sym (none_asked n) ∙ sym (rw (none_left (length ps) i h)) ∙ turn.left

-- ---- an entry

module _ (ns : List Node) (ps : List Forest) (e : Entry) (n : ℕ) {q : Tried} (said : q.yes ≡ satisfies ns e.pattern) (one : q.tried ≡ n + 1) where
  -- it matches, and its members follow
  pub entry_then : {r : Tried} → q.yes ≡ true → r ≡ ask_in_turn (members_say ns ps e.members) q.tried → r ≡ ask_in_turn (answer_comes ns ps e) n
  unfolding answer_comes members_say pick
  entry_then h k = k ∙ rw (← said, h, one) (sym (no_asked (members_say ns ps e.members) n))

  -- it doesn't, and nothing follows
  pub entry_none : q.yes ≡ false → q ≡ ask_in_turn (answer_comes ns ps e) n
  unfolding answer_comes pick
  entry_none h = (λ j. record { yes = h j; tried = one j }) ∙ rw (← said, h) (sym (no_asked [] n ∙ none_asked (n + 1)))

-- ---- all entries

module _ (ns : List Node) (ps : List Forest) where
  -- what is asked for those from j on
  unfoldable pub entries_say_from : List Entry → ℕ → List Bool
  entries_say_from es j = flat_map (answer_comes ns ps) (drop j es)

  -- the entries from j on give what all give; at most 65 tries for each so far
  pub record SeekingEntries (es : List Entry) (j n : ℕ) : Type 0 where
    pub few : n ≤ 65 * j
    pub left : ask_in_turn (entries_say_from es j) n ≡ ask_in_turn (flat_map (answer_comes ns ps) es) 0

  -- at most one and as many as there are subscriptions
  entry_few : (e : Entry) (n : ℕ) → (ask_in_turn (answer_comes ns ps e) n).tried ≤ n + 1 + length ps
  unfolding ask_in_turn
  entry_few e n = omega (arith, until_few (answer_comes ns ps e), comes_long ns ps e, tried_for_few ns (length ps) e)

  entries-split : (es : List Entry) (j : ℕ) → j < length es → entries_say_from es j ≡ answer_comes ns ps (get_or es j no_entry) ++ entries_say_from es (j + 1)
  unfolding entries_say_from flat_map
  entries-split es j h = rw (add-one j) (ap (flat_map (answer_comes ns ps)) (drop-cons es j no_entry h))

module _ {ns : List Node} {ps : List Forest} {es : List Entry} where
  -- no entry is tried
  pub seeking_entries_starts : SeekingEntries ns ps es 0 0
  unfolding entries_say_from
  seeking_entries_starts = record { few = omega arith; left = refl }

  module _ {j n : ℕ} (turn : SeekingEntries ns ps es j n) where
    module _ {e : Entry} {q : Tried} (here : j < length es) (is : e ≡ get_or es j no_entry) (tried : q ≡ ask_in_turn (answer_comes ns ps e) n) where
      -- this entry and the later ones
      together : ask_in_turn (answer_comes ns ps e ++ entries_say_from ns ps es (j + 1)) n ≡ ask_in_turn (flat_map (answer_comes ns ps) es) 0
      together = rw is (ap (λ (l : List Bool). ask_in_turn l n) (sym (entries-split ns ps es j here)) ∙ turn.left)

      -- the answer comes
      pub seeking_entries-stops : q.yes ≡ true → q ≡ ask_in_turn (flat_map (answer_comes ns ps) es) 0
      seeking_entries-stops h =
          tried ∙ sym (first-asked (answer_comes ns ps e) (entries_say_from ns ps es (j + 1)) n (ap (λ (r : Tried). r.yes) (sym tried) ∙ h)) ∙ together

      -- one entry more
      pub seeking_entries-goes_on : length ps ≤ most_patterns → q.yes ≡ false → SeekingEntries ns ps es (j + 1) q.tried
      seeking_entries-goes_on most h =
          let few : q.tried ≤ n + 1 + length ps = rw tried (entry_few ns ps e n) in
          let next = then_asked (answer_comes ns ps e) (entries_say_from ns ps es (j + 1)) n (ap (λ (r : Tried). r.yes) (sym tried) ∙ h) in
          record { few = omega (arith, turn.few); left = rw tried (sym next ∙ together) }

    -- it doesn't come
    pub seeking_entries-ends : length es ≤ j → ◌≡◌ {A = Tried} (record { yes = false; tried = n }) (ask_in_turn (flat_map (answer_comes ns ps) es) 0)
    unfolding entries_say_from flat_map
    seeking_entries-ends h = sym (none_asked n) ∙ sym (rw (drop_of_length-le es h)) ∙ turn.left

-- so it is known whether the route by the table is not 0, and how many were tried for it
pub all_asked : (ns : List Node) (ps : List Forest) (es : List Entry) {q : Tried} → q ≡ ask_in_turn (flat_map (answer_comes ns ps) es) 0
    → (q.yes ≡ not (eqb (table_route ns es ps) 0)) × (q.tried ≡ tried_until_wanted ns es ps)
unfolding ask_in_turn tried_until_wanted
all_asked ns ps es h = (ap (λ (q : Tried). q.yes) h ∙ answer-routed ns ps es, ap (λ (q : Tried). q.tried) h ∙ zero-add _)
