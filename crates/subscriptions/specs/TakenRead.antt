-- A pattern by value is the pattern that was read at its place, and the subscriptions of a sheet are taken from their places.
use Rattle.std.specs.Prelude.{ℕ, ◌+◌, ◌*◌, ◌-◌, ◌≤◌, ◌<◌, ◌≡◌, List, leb, ltb, take, drop, Ok}
use Rattle.std.proofs.Math.Path.{sym, ap}
use Rattle.std.proofs.Common.{◌∙◌, length-take-le, arith}
use Rattle.std.proofs.Math.ListN.{length, get_or}
use Rattle.std.proofs.Math.Seq.{length_front, take_at}
use borrow.Author.Tests.{ltb-true, leb-true, le-leb, le-ltb}
use Rattle.base.specs.Choice.{pick}
use Rattle.base.specs.Standing.{place_after, length-standing, get_or-standing, run_at}
use Rattle.meaning.specs.Numbers.{most_steps, most_patterns}
use Rattle.meaning.specs.Reader.{read}
use Rattle.meaning.specs.Forest.{Forest, none, forest, steps_of}
use Rattle.meaning.specs.Sections.{Sheet, sheet, pattern}
use Rattle.shapes.specs.Shapes.{steps_in, pattern_of, WellFormed, no_steps}
use Rattle.laws.specs.JudgingGives.{steps-written}
use Rattle.reading.specs.SheetPlaces.{step_at_place, after_step, steps_at, forest_at, after_pattern, forests_at, pattern_count_at, sheet_at}
use Rattle.places.specs.Section.{section-read, section_is}
use Rattle.reading.specs.SheetSection.{pattern_section, sheet_section, pattern_place, patterns-stand}
use Rattle.reading.specs.StepSection.{steps_section}
use Rattle.places.specs.Answer.{passed}
use Rattle.subscriptions.specs.Taken.{steps_filled, pattern_at, itself, pattern_places, subscription_count, subscriptions_of}
use Rattle.places.specs.InTurn.{each_place}
use Rattle.meaning.specs.declared.Refusal.TheVariants.{CountOutside, EndsEarly}

module _ (s : List ℕ) (known x : ℕ) where
  -- a pattern that was judged at x is taken whole
  taken-whole : (y : ℕ) → pattern_place s known x ≡ Ok y → pattern_at s x ≡ record { count = get_or s x 0; steps = steps_filled s (x + 1) (get_or s x 0) }
  unfolding pattern_section pattern_at after_pattern pick
  taken-whole y h =
      let a = passed (ltb x (length s)) _ EndsEarly y h in
      let b = passed (leb (get_or s x 0) most_steps) _ CountOutside y a.1 in
      let inside : x < length s = ltb-true x (length s) a.0 in
      let far : y ≡ x + 1 + 3 * get_or s x 0 = (pattern_section s known x).leads y h in
      let within : y ≤ length s = (pattern_section s known x).within y (omega arith) h in
      rw (a.0, b.0, le-leb (3 * get_or s x 0) (length s - (x + 1)) (omega arith))

  -- as many steps stand there as were asked for
  steps-counted : (n : ℕ) → length (steps_at s (x + 1) n) ≡ n
  unfolding steps_at
  steps-counted n = length-standing (step_at_place s) after_step (x + 1) n

  -- its steps that are there are those of the pattern
  steps_there : (n : ℕ) → take n (steps_filled s (x + 1) n) ≡ steps_at s (x + 1) n
  unfolding steps_filled
  steps_there n = take_at (steps_at s (x + 1) n) (drop n no_steps.steps) n (steps-counted n)

  -- there is room for sixteen
  steps-full : (n : ℕ) → n ≤ most_steps → length (steps_filled s (x + 1) n) ≡ most_steps
  unfolding steps_filled no_steps
  steps-full n h = length_front no_steps.steps (steps_at s (x + 1) n) n (steps-counted n ∙ sym (length-take-le n no_steps.steps h))

  -- and it is the one that stands there, well formed
  pub taken-sound : (y : ℕ) → pattern_place s known x ≡ Ok y → (pattern_of (pattern_at s x) ≡ forest_at s x) × WellFormed (pattern_at s x)
  unfolding pattern_of steps_in forest_at pattern_section
  taken-sound y h =
      let n = get_or s x 0 in
      let a = passed (ltb x (length s)) _ EndsEarly y h in
      let b = passed (leb n most_steps) _ CountOutside y a.1 in
      let few : n ≤ most_steps = leb-true n most_steps b.0 in
      let were = section-read (steps_section s known (x + 1) n) y b.1 in
      let written : steps_of (forest (steps_at s (x + 1) n)) ≡ steps_at s (x + 1) n =
      steps-written known n (drop (x + 1) s) (drop y s) (steps_at s (x + 1) n) were in
      rw (taken-whole y h) (
        ap forest (steps_there n),
        record { few = few; full = steps-full n few; written = rw (steps_there n) written },
      )

-- the pattern by value at a place where a pattern was read is that pattern, well formed
pub pattern-taken : (s : List ℕ) (known x : ℕ) (f : Forest) (left : List ℕ) → pattern known (drop x s) ≡ read f left
    → (pattern_of (pattern_at s x) ≡ f) × WellFormed (pattern_at s x)
unfolding pattern_section
pattern-taken s known x f left h =
    let is = section_is (pattern_section s known x) f left h in
    let r = taken-sound s known x is.1.0 is.1.1 in
    (r.0 ∙ sym is.0, r.1)

-- ---- the subscriptions of a sheet that was read
module _ (s : List ℕ) (sh : Sheet) (left : List ℕ) (h : sheet s ≡ read sh left) where
  -- the sheet is what stands there
  sheet_is : sh ≡ sheet_at s
  unfolding sheet_section
  sheet_is = (section_is (sheet_section s) sh left h).0

  -- there are as many as the sheet has patterns
  pub subscriptions_counted : (subscriptions_of s).count ≡ length sh.patterns
  unfolding subscriptions_of subscription_count sheet_at forests_at pick
  subscriptions_counted =
      rw (sheet_is, (patterns-stand s sh left h).few)
      (sym (length-standing (forest_at s) (after_pattern s) (pattern_count_at s + 1) (get_or s (pattern_count_at s) 0)))

  -- each is taken from its place as it was read, well formed
  pub subscription-taken : (i : ℕ) → i < length sh.patterns
      → (pattern_of (pattern_at s (get_or (subscriptions_of s).places i 0)) ≡ get_or sh.patterns i none)
      × WellFormed (pattern_at s (get_or (subscriptions_of s).places i 0))
  unfolding subscriptions_of pattern_places itself pattern_section sheet_at forests_at
  subscription-taken i l =
      let start = pattern_count_at s + 1 in
      let n = get_or s (pattern_count_at s) 0 in
      let stand = patterns-stand s sh left h in
      let all : length sh.patterns ≡ n =
      ap (λ (t : Sheet). length t.patterns) sheet_is ∙ length-standing (forest_at s) (after_pattern s) start n in
      let few : n ≤ most_patterns = leb-true n most_patterns stand.few in
      let there : get_or (subscriptions_of s).places i 0 ≡ place_after (after_pattern s) start i =
      get_or-standing itself (after_pattern s) start most_patterns i 0 (omega arith) in
      let which : get_or sh.patterns i none ≡ forest_at s (place_after (after_pattern s) start i) =
      ap (λ (t : Sheet). get_or t.patterns i none) sheet_is ∙ get_or-standing (forest_at s) (after_pattern s) start n i none (omega arith) in
      let each = pattern_section s (get_or s 0 0) in
      let was = run_at (each_place each) (after_pattern s) (λ j x. (each x).leads) n 0 start _ i stand.all_read (omega arith) in
      rw (there, which) (taken-sound s (get_or s 0 0) (place_after (after_pattern s) start i) was.0 was.1)

-- past the end no pattern has steps
pub pattern-past : (s : List ℕ) (x y : ℕ) → length s ≤ x → length s ≤ y → pattern_at s x ≡ pattern_at s y
unfolding pattern_at pick
pattern-past s x y h k = rw (le-ltb x (length s) h, le-ltb y (length s) k)
