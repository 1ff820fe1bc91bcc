-- The turns of the two loops over pairs: what is left of the walk from here on builds what all of it builds.
use Rattle.std.specs.Prelude.{ℕ, ◌+◌, ◌≤◌, ◌<◌, ◌≡◌, Bool, ◌&&◌, List}
use Rattle.std.proofs.Math.Path.{sym, ap}
use Rattle.std.proofs.Common.{◌∙◌, arith}
use Rattle.std.proofs.Math.Bool.{true, false}
use Rattle.meaning.specs.Forest.{Forest, none}
use Rattle.meaning.specs.Covering.{step_at}
use Rattle.meaning.specs.Merging.{Building, nothing, meet, meet_at, through}
use Rattle.meaning.specs.declared.Step.{Step}
use Rattle.shapes.specs.Shapes.{pattern_of, steps_in, WellFormed}
use Rattle.shapes.specs.declared.Pattern.{Pattern}
use Rattle.shapes.specs.Steps.{step_in}
use Rattle.shapes.specs.Holding.{holds_none}
use Rattle.laws.specs.Children.{children_of}
use Rattle.offering.specs.declared.Marked.{Marked}
use Rattle.offering.specs.Branches.{branches_of, building_at}
use Rattle.offering.specs.Offers.{building_of, Built, body_in, IsBody}
use Rattle.offering.specs.Candidates.{body_in_lem}
use Rattle.merging.specs.PairWalk.{Meeting, near_child, meet_all, through-across, rest_walks, step_makes, walk_starts, walk_step, walk_ends, walk_done}
use Rattle.merging.specs.Bodies.{body_for}
use Rattle.meaning.specs.Numbers.{most_steps}

-- what step v, near child or not, makes with a step w'
unfoldable pub pair_of : ℕ → Bool → List Step → ℕ → Meeting
pair_of own direct a v = meet_at most_steps own direct (step_at a v).label (children_of a v) (λ ws. through most_steps (children_of a v) true 1 ws nothing)

-- what it makes with all below w
unfoldable pub across_of : ℕ → Bool → List Step → ℕ → Forest → Building → Building
across_of own direct a v w b = meet_all own w direct (step_at a v).label (children_of a v) b

-- a loop over the steps below v has come to place k with b built: what is left builds what all of it builds
pub record Walking (p : Pattern) (pair : Meeting) (v k own : ℕ) (b : Marked) (whole : Building) : Type 0 where
  pub from : v ≤ k
  pub upto : k ≤ p.count
  pub sound : WellFormed b.pattern
  pub few : own + b.pattern.count ≤ most_steps
  pub rest : rest_walks pair (steps_in p) v k (building_of b) ≡ whole

-- ---- one law for each way through such a loop
module _ {p : Pattern} {pair : Meeting} {v k own : ℕ} {b : Marked} {whole : Building} (sound : WellFormed p) (i : Walking p pair v k own b whole) where
  -- a step below v
  pub walks_on : k < p.count → v ≤ (step_in p k).parent → (r : Marked) → Built own r (step_makes pair p v k (building_of b)) → Walking p pair v (k + 1) own r whole
  walks_on h l r built = record {
    from = omega arith;
    upto = omega arith;
    sound = built.sound;
    few = built.few;
    rest = ap (rest_walks pair (steps_in p) v (k + 1)) built.is ∙ walk_step p sound pair v k (building_of b) whole h l i.rest;
  }

  -- a step that is not below v
  pub walks_out : k < p.count → (step_in p k).parent < v → Built own b whole
  walks_out h l = record { sound = i.sound; few = i.few; is = walk_ends p sound pair v k (building_of b) whole h l i.rest }

  -- no step is left
  pub walks_through : p.count ≤ k → Built own b whole
  walks_through h = record { sound = i.sound; few = i.few; is = walk_done p sound pair v k (building_of b) whole h i.rest }

-- ---- step v with the steps below w
module _ (q : Pattern) (own : ℕ) (direct : Bool) (a : List Step) (v w : ℕ) where
  pub across_starts : WellFormed q → (b : Marked) → WellFormed b.pattern → own + b.pattern.count ≤ most_steps → w ≤ q.count
      → Walking q (pair_of own direct a v) w w own b (across_of own direct a v (children_of (steps_in q) w) (building_of b))
  unfolding pair_of across_of meet_all
  across_starts sound b built few h = record {
    from = omega arith;
    upto = h;
    sound = built;
    few = few;
    rest = walk_starts q sound (pair_of own direct a v) w (building_of b) h;
  }

  -- the body of the pair, offered, is what the step at place u makes
  pub across-step : (u : ℕ) (b body r : Marked) (near_w both : Bool) → IsBody body (body_for a (steps_in q) v (u + 1))
      → near_w ≡ near_child w (step_in q u) → both ≡ (direct && near_w) → Built own r (meet most_steps own both (body_in body) (building_of b))
      → Built own r (step_makes (pair_of own direct a v) q w u (building_of b))
  unfolding pair_of meet_at body_for
  across-step u b body r near_w both is n e built = rw (e, n, body_in_lem body _ is) at built

-- ---- the steps below v, each with all below w
module _ (p : Pattern) (own : ℕ) (w : Forest) (v : ℕ) where
  pub through_starts : WellFormed p → (r : Pattern) → (pattern_of r ≡ none) × WellFormed r → own ≤ 1 → v ≤ p.count
      → Walking p (meet_all own w) v v own (record { pattern = r; clipped = false }) (through most_steps (children_of (steps_in p) v) true own w nothing)
  unfolding building_of building_at branches_of nothing
  through_starts sound r h l k =
      let empty : building_of (record { pattern = r; clipped = false }) ≡ nothing = ap (λ (f : Forest). building_at f false) h.0 in
      record {
        from = omega arith;
        upto = k;
        sound = h.1;
        few = omega (arith, (holds_none r h).0);
        rest = ap (rest_walks (meet_all own w) (steps_in p) v v) empty
            ∙ walk_starts p sound (meet_all own w) v nothing k
            ∙ sym (through-across own w (children_of (steps_in p) v) true nothing);
      }

  -- step v of p across all below w is what the step at place k makes
  pub through-step : (k : ℕ) (b r : Marked) (direct : Bool) → direct ≡ near_child v (step_in p k)
      → Built own r (across_of own direct (steps_in p) (k + 1) w (building_of b))
      → Built own r (step_makes (meet_all own w) p v k (building_of b))
  unfolding across_of
  through-step k b r direct e built = rw e at built
