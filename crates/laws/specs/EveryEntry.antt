-- What holds of every entry of a build: any property of patterns that merges and cuts keep, among these few steps, known
-- labels and one near root step; and no more entries than subscriptions.
use Rattle.std.specs.Prelude.{ℕ, suc, ◌^◌, ◌≤◌, ◌<◌, ◌≡◌, refl, ◌⊎◌, length, get_or, set}
use Rattle.std.proofs.Common.{sym, ap, inl, inr, arith, ltb-true, length-set}
use Rattle.std.proofs.Math.Path.{subst}
use Rattle.std.proofs.Math.Logic.{⊎_elim}
use mathlib.Core.List.Memᴰ
use mathlib.Core.List.{List, [], ◌∷◌, Memᴰ}
use Rattle.base.specs.ListLaws.{every-gives}
use Rattle.base.specs.Replacing.{place_in, set_gives}
use Rattle.meaning.specs.Numbers.{most_steps}
use Rattle.meaning.specs.Forest.{near, far, Forest, none, step, size}
use Rattle.meaning.specs.Sections.{Entry}
use Rattle.meaning.specs.Merging.{merge}
use Rattle.meaning.specs.Building.{Pair, no_entry, entry_at, entries_from, join_at, cut, build}
use Rattle.meaning.specs.Fair.{is_within}
use Rattle.laws.specs.Cutting.{size-cut}
use Rattle.laws.specs.MergeSize.{merge-size}
use Rattle.laws.specs.MergeLabels.{LabelsWithin, merge-labels}
use Rattle.laws.specs.MergeNears.{nears, merge-nears}
use Rattle.laws.specs.Unions.{union, join_gives, length_join}
use Rattle.laws.specs.Rounds.{merged, cut_entry, Kept, table_keeps}
use Rattle.laws.specs.InOneEntry.{fair-gives}
use Rattle.laws.specs.Fairness.{build-fair}

-- P holds of every entry's pattern
unfoldable pub EachPattern : (Forest → Type 0) → List Entry → Type 0
EachPattern P es = (e : Entry) → Memᴰ e es → P e.pattern

-- merges and cuts keep P
pub record Lasting (P : Forest → Type 0) : Type 0 where
  pub merges : (p q : Forest) → P p → P q → P (merge p q).pattern
  pub cuts : (p : Forest) → P p → P (cut p)

module _ (P : Forest → Type 0) (k : Lasting P) where
  -- P holds at a place
  at_place : (es : List Entry) (i : ℕ) → i < length es → EachPattern P es → P (entry_at es i).pattern
  unfolding EachPattern entry_at
  at_place es i l h = h (get_or es i no_entry) (place_in es i no_entry l)

  -- P holds after a join, where it holds of the pattern that then stands
  after_join : (q : Forest) (ij : Pair) (es : List Entry) → P q → EachPattern P es → EachPattern P (join_at q ij es)
  unfolding EachPattern union
  after_join q ij es new h e m = ⊎_elim (λ u. subst (λ (f : Entry). P f.pattern) (sym u) new) (h e) (join_gives q ij es m)

  -- P holds after a cut
  after-cut : (es : List Entry) (i : ℕ) → i < length es → EachPattern P es → EachPattern P (set es i (cut_entry (entry_at es i)))
  unfolding EachPattern cut_entry
  after-cut es i l h e m =
      ⊎_elim (λ u. subst (λ (f : Entry). P f.pattern) (sym u) (k.cuts (entry_at es i).pattern (at_place es i l h))) (h e)
      (set_gives es i (cut_entry (entry_at es i)) m)

  -- settling, rounds and builds keep P in every entry
  pub each_kept : Kept (EachPattern P)
  unfolding merged
  each_kept = record {
    settles = record { takes = λ es ij a c h. after_join (entry_at es ij.fst).pattern ij es (at_place es ij.fst a.first h) h };
    merges = λ es ij s h. after_join (merged es ij) ij es
        (k.merges (entry_at es ij.fst).pattern (entry_at es ij.snd).pattern (at_place es ij.fst s.entries.first h)
        (at_place es ij.snd s.entries.second h)) h;
    cuts = after-cut;
  }

  -- P holds at first
  start_each : (i : ℕ) (ps : List Forest) → ((p : Forest) → Memᴰ p ps → P p) → EachPattern P (entries_from i ps)
  unfolding EachPattern entries_from
  start_each i [] h e m = elim m [ ]
  start_each i (p ∷ ps) h e m = go (start_each (suc i) ps (λ q t. h q (Memᴰ.tail t)) e) (Memᴰ.cases_cons m)
    where
      go : (Memᴰ e (entries_from (suc i) ps) → P e.pattern)
          → (e ≡ record { members = 2 ^ i; pattern = p }) ⊎ Memᴰ e (entries_from (suc i) ps) → P e.pattern
      go later (inl u) = subst (λ (f : Entry). P f.pattern) (sym u) (h p (Memᴰ.head refl))
      go later (inr t) = later t

  -- what every subscription has, and merges and cuts keep, every entry of the build has
  pub build_keeps : (limit : ℕ) (ps : List Forest) → ((p : Forest) → Memᴰ p ps → P p) → EachPattern P (build limit ps).entries
  build_keeps limit ps h = table_keeps (EachPattern P) each_kept limit ps (start_each 0 ps h)

-- ---- few steps

-- a cut has no more steps
size-cut_le : (p : Forest) → size (cut p) ≤ size p
unfolding cut size
size-cut_le none = omega arith
size-cut_le (step x l kids later) = let less = size-cut (step x l kids later) (omega arith) in omega arith

-- at most 16 steps
pub steps-last : Lasting (λ p. size p ≤ most_steps)
unfolding merge
steps-last = record { merges = merge-size most_steps; cuts = λ p h. omega (arith, size-cut_le p) }

-- so has every entry of a build
pub build_steps : (limit : ℕ) (ps : List Forest) → ((p : Forest) → Memᴰ p ps → size p ≤ most_steps)
    → EachPattern (λ p. size p ≤ most_steps) (build limit ps).entries
build_steps = build_keeps (λ p. size p ≤ most_steps) steps-last

-- ---- known labels

-- a cut has no other labels
cut-labels : (n : ℕ) (p : Forest) → LabelsWithin n p → LabelsWithin n (cut p)
unfolding LabelsWithin cut
cut-labels n none h = tt
cut-labels n (step x l none none) h = tt
cut-labels n (step x l (step y m kids more) none) h = (h.0, cut-labels n (step y m kids more) h.1, tt)
cut-labels n (step x l kids (step y m ks later)) h = (h.0, h.1, cut-labels n (step y m ks later) h.2)

-- every label at most n
pub labels-last : (n : ℕ) → Lasting (LabelsWithin n)
unfolding merge
labels-last n = record { merges = merge-labels most_steps n; cuts = cut-labels n }

-- so has every entry of a build
pub build-labels : (n limit : ℕ) (ps : List Forest) → ((p : Forest) → Memᴰ p ps → LabelsWithin n p)
    → EachPattern (LabelsWithin n) (build limit ps).entries
build-labels n = build_keeps (LabelsWithin n) (labels-last n)

-- ---- one near root step

-- a cut has no more near root steps
cut-nears : (p : Forest) → nears (cut p) ≤ nears p
unfolding nears cut
cut-nears none = omega arith
cut-nears (step x l none none) = omega arith
cut-nears (step near l (step y m kids more) none) = omega arith
cut-nears (step far l (step y m kids more) none) = omega arith
cut-nears (step near l kids (step y m ks later)) = omega (arith, cut-nears (step y m ks later))
cut-nears (step far l kids (step y m ks later)) = cut-nears (step y m ks later)

-- at most one near root step
pub nears-last : Lasting (λ p. nears p ≤ 1)
unfolding merge
nears-last = record { merges = merge-nears most_steps; cuts = λ p h. omega (arith, cut-nears p) }

-- so has every entry of a build
pub build-nears : (limit : ℕ) (ps : List Forest) → ((p : Forest) → Memᴰ p ps → nears p ≤ 1) → EachPattern (λ p. nears p ≤ 1) (build limit ps).entries
build-nears = build_keeps (λ p. nears p ≤ 1) nears-last

-- ---- few entries

-- no change adds an entry
length-kept : (n : ℕ) → Kept (λ es. length es ≤ n)
length-kept n = record {
  settles = record { takes = λ es ij a c h. omega (arith, length_join (entry_at es ij.fst).pattern ij es a) };
  merges = λ es ij s h. omega (arith, length_join (merged es ij) ij es s.entries);
  cuts = λ es i l h. omega (arith, length-set es i (cut_entry (entry_at es i)));
}

-- at first there are as many entries as subscriptions
start-length : (i : ℕ) (ps : List Forest) → length (entries_from i ps) ≡ length ps
unfolding entries_from
start-length i [] = refl
start-length i (p ∷ ps) = ap suc (start-length (suc i) ps)

-- at most as many entries as subscriptions
pub build-length : (limit : ℕ) (ps : List Forest) → length (build limit ps).entries ≤ length ps
build-length limit ps = table_keeps (λ es. length es ≤ length ps) (length-kept (length ps)) limit ps (omega (arith, start-length 0 ps))

-- the members of every entry are subscriptions
pub build-members : (limit : ℕ) (ps : List Forest) (e : Entry) → Memᴰ e (build limit ps).entries → e.members < 2 ^ length ps
unfolding is_within
build-members limit ps e m =
    ltb-true e.members (2 ^ length ps) (every-gives (is_within (length ps)) (fair-gives ps (build limit ps).entries (build-fair limit ps)).within m)
