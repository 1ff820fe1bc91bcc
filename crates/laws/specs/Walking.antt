-- The walk of a merge over all pairs of steps below a pair: what each pair keeps, the whole walk keeps.
use Rattle.std.specs.Prelude.{ℕ, ◌≡◌, Bool, ◌&&◌}
use Rattle.std.proofs.Math.Bool.{true, false}
use Rattle.std.proofs.lemmas.Bool.{false≢true}
use Rattle.meaning.specs.Forest.{Axis, near, far, is_near, Forest, none, step}
use Rattle.meaning.specs.Merging.{Building, nothing, body_of, meet, meet_at, across, through}
use Rattle.laws.specs.StepPlaces.{Place, after, below}

-- the steps of a forest stand below the place whose child steps are `whole`: `child` says that they are among those
pub data Under (whole : Forest) : Bool → Forest → Type 0 where
  itself : Under whole true whole
  next : {child : Bool} {y : Axis} {m : ℕ} {ws later : Forest} → Under whole child (step y m ws later) → Under whole child later
  down : {child : Bool} {y : Axis} {m : ℕ} {ws later : Forest} → Under whole child (step y m ws later) → Under whole false ws

-- a place in them is a place for a far step in the whole
pub place_under : {whole part : Forest} {child : Bool} {y : Axis} {m : ℕ} {k : Forest} → Under whole child part → Place far part y m k → Place far whole y m k
place_under itself p = p
place_under (next u) p = place_under u (after p)
place_under (down u) p = place_under u (below p)

-- and for a near step, where it is a place for one among them, and they are child steps
pub place_among : {whole part : Forest} {child : Bool} {y : Axis} {m : ℕ} {k : Forest} → child ≡ true → Under whole child part
    → Place near part y m k → Place near whole y m k
place_among e itself p = p
place_among e (next u) p = place_among e u (after p)
place_among e (down u) p = absurd (false≢true e)

-- what each step of a forest and below it keeps, going across keeps
pub across_keeps :
    (Keeps : Building → Type 0) (pair : Bool → ℕ → Forest → Building → Building) (w : Forest)
    (each : (child : Bool) (y : Axis) (m : ℕ) (ws later : Forest) → Under w child (step y m ws later) →
    (b : Building) → Keeps b → Keeps (pair (child && is_near y) m ws b))
    (part : Forest) (child : Bool) → Under w child part → (b : Building) → Keeps b → Keeps (across pair child part b)
unfolding across
across_keeps Keeps pair w each none child u b h = h
across_keeps Keeps pair w each (step y m ws later) child u b h =
    across_keeps Keeps pair w each later child (next u) _
    (across_keeps Keeps pair w each ws false (down u) _ (each child y m ws later u b h))

-- every pair (v', w') below a pair (v, w) keeps it, if it holds of what is built at (v', w')
abbrev pub EachPair : ℕ → (ℕ → Forest → Forest → Building → Type 0) → Type 0
EachPair limit Keeps =
    (own : ℕ) (v w : Forest)
    (child : Bool) (x : Axis) (l : ℕ) (vs later : Forest) → Under v child (step x l vs later)
    → (child₂ : Bool) (y : Axis) (m : ℕ) (ws later₂ : Forest) → Under w child₂ (step y m ws later₂)
    → (built : Building) → Keeps 1 vs ws built
    → (b : Building) → Keeps own v w b
    → Keeps own v w (meet limit own ((child && is_near x) && (child₂ && is_near y)) (body_of l vs m ws built) b)

-- what holds of nothing and what every pair keeps, the whole walk keeps
module _ (limit : ℕ) (Keeps : ℕ → Forest → Forest → Building → Type 0)
    (start : (v w : Forest) → Keeps 1 v w nothing) (each : EachPair limit Keeps) where
  pub through_keeps :
      (part : Forest) (child : Bool) (own : ℕ) (v w : Forest)
      → Under v child part
      → (b : Building)
      → Keeps own v w b
      → Keeps own v w (through limit part child own w b)
  unfolding through meet_at
  through_keeps none child own v w u b h = h
  through_keeps (step x l vs later) child own v w u b h =
      through_keeps later child own v w (next u) _
      (through_keeps vs false own v w (down u) _
      (across_keeps (Keeps own v w) _ w
      (λ child₂ y m ws later₂ u₂. each own v w child x l vs later u child₂ y m ws later₂ u₂ _ (through_keeps vs true 1 vs ws itself nothing (start vs ws)))
      w true itself b h))
