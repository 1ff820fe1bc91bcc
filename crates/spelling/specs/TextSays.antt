-- What the calls say beside a sheet that was judged; and each answer, from the places where judging ended.
use Rattle.std.specs.Prelude.{ℕ, ◌≤◌, ◌<◌, ◌≡◌, true, false, List, length, get_or, Ok, Err}
use Rattle.std.proofs.Math.Path.{refl, sym, ap}
use Rattle.std.proofs.Common.{◌∙◌}
use Rattle.base.specs.Choice.{pick, pick_true, pick_false}
use Rattle.meaning.specs.Forest.{Forest}
use Rattle.meaning.specs.Sections.{Sheet}
use Rattle.meaning.specs.Calls.{judged, is_subscription, subscription, Writing, refuses}
use Rattle.meaning.specs.LineCalls.{text_writing, only_pattern, pattern_writing, subscription_writing}
use Rattle.shapes.specs.Shapes.{pattern_of}
use Rattle.shapes.specs.declared.Pattern.{Pattern}
use Rattle.places.specs.Reached.{reached, section-judged, was_reached, was_refused}
use Rattle.reading.specs.SheetPlaces.{sheet_at, forest_at, labels-counted}
use Rattle.reading.specs.SheetSection.{sheet_place}
use Rattle.reading.specs.SheetJudged.{sheet-said, sheet-refused}
use Rattle.subscriptions.specs.Taken.{pattern_at}
use Rattle.subscriptions.specs.Subscribed.{SubscriptionsStand, number_subscribed, number_unsubscribed}
use Rattle.subscriptions.specs.declared.Subscriptions.{Subscriptions}
use Rattle.spelling.specs.OnlyPattern.{only_section, only_place, only_taken}
use Rattle.meaning.specs.declared.Refusal.TheVariants.{NotThere}
use Rattle.meaning.specs.declared.Refusal.{Refusal}

-- of a pattern's bytes
unfoldable pub pattern_says : Sheet → List ℕ → Writing (Unit {0})
pattern_says sh p = judged (only_pattern (length sh.labels) p) refuses (λ f. text_writing sh.labels f)

-- of a subscription
unfoldable pub subscription_says : Sheet → ℕ → Writing (Unit {0})
subscription_says sh i = pick (is_subscription sh i) (text_writing sh.labels (subscription sh i)) (refuses NotThere)

-- ---- a pattern's bytes, from the place where judging them ended

module _ (s p : List ℕ) (known : ℕ) (counted : known ≡ get_or s 0 0) where
  by_place : pattern_says (sheet_at s) p ≡ reached (only_place p known) refuses (text_writing (sheet_at s).labels (forest_at p 0))
  unfolding pattern_says only_section
  by_place =
      ap (λ (n : ℕ). judged (only_pattern n p) refuses (λ f. text_writing (sheet_at s).labels f)) (labels-counted s ∙ sym counted)
      ∙ section-judged (only_section p known) refuses (λ f. text_writing (sheet_at s).labels f)

  -- where they are sound, the pattern by value
  pub bytes-said : (y : ℕ) → only_place p known ≡ Ok y → (q : Pattern) → q ≡ pattern_at p 0
      → text_writing (sheet_at s).labels (pattern_of q) ≡ pattern_says (sheet_at s) p
  bytes-said y h q e =
      ap (text_writing (sheet_at s).labels) (ap pattern_of e ∙ (only_taken p known y h).0)
      ∙ sym (by_place ∙ was_reached (only_place p known) y refuses _ h)

  -- where they are refused
  pub bytes-refused : (n : Refusal) → only_place p known ≡ Err n → refuses n ≡ pattern_says (sheet_at s) p
  bytes-refused n h = sym (by_place ∙ was_refused (only_place p known) n refuses _ h)

-- ---- a subscription

module _ (sh : Sheet) (i : ℕ) where
  -- it is there
  pub asked_there : is_subscription sh i ≡ true → (f : Forest) → f ≡ subscription sh i → text_writing sh.labels f ≡ subscription_says sh i
  unfolding subscription_says
  asked_there h f e = pick_true _ _ _ _ h (ap (text_writing sh.labels) e)

  -- it is not
  pub asked-not_there : is_subscription sh i ≡ false → refuses NotThere ≡ subscription_says sh i
  unfolding subscription_says
  asked-not_there h = pick_false _ _ _ _ h refl

module _ {s : List ℕ} {v : Subscriptions} (stand : SubscriptionsStand s v) (i : ℕ) where
  -- below the count it is there
  pub number_there : i < v.count → (f : Forest) → f ≡ subscription (sheet_at s) i → text_writing (sheet_at s).labels f ≡ subscription_says (sheet_at s) i
  number_there h = asked_there _ i (number_subscribed stand i h)

  -- from the count on it is not
  pub number-not_there : v.count ≤ i → refuses NotThere ≡ subscription_says (sheet_at s) i
  number-not_there h = asked-not_there _ i (number_unsubscribed stand i h)

-- ---- each call, from the place where judging the sheet ended

module _ (s p : List ℕ) where
  pub pattern_said_lem : (y : ℕ) → sheet_place s ≡ Ok y → pattern_says (sheet_at s) p ≡ pattern_writing s p
  unfolding pattern_says pattern_writing
  pattern_said_lem = sheet-said s refuses (λ sh. pattern_says sh p)

  pub pattern-refused : (n : Refusal) → sheet_place s ≡ Err n → refuses n ≡ pattern_writing s p
  unfolding pattern_says pattern_writing
  pattern-refused = sheet-refused s refuses (λ sh. pattern_says sh p)

module _ (s : List ℕ) (i : ℕ) where
  pub subscription-said : (y : ℕ) → sheet_place s ≡ Ok y → subscription_says (sheet_at s) i ≡ subscription_writing s i
  unfolding subscription_says subscription_writing
  subscription-said = sheet-said s refuses (λ sh. subscription_says sh i)

  pub subscription-refused : (n : Refusal) → sheet_place s ≡ Err n → refuses n ≡ subscription_writing s i
  unfolding subscription_says subscription_writing
  subscription-refused = sheet-refused s refuses (λ sh. subscription_says sh i)
