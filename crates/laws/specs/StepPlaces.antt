-- Where a step looks in a forest for its place, and what is found there.
use Rattle.std.specs.Prelude.{ℕ, ◌≡◌, refl, Bool, true, ◌||◌}
use Rattle.std.proofs.Common.{⊎_elim}
use Rattle.std.proofs.lemmas.Bool.{false≢true}
use Rattle.base.specs.Bools.{or_cases, or_first, or_second}
use Rattle.meaning.specs.Forest.{Axis, near, far, Forest, none, step}
use Rattle.meaning.specs.Covering.{finds}

-- where a step of that axis looks in a forest: a root step, or if far any step; with its axis, label and child steps
pub data Place : Axis → Forest → Axis → ℕ → Forest → Type 0 where
  here : {x y : Axis} {m : ℕ} {kids later : Forest} → Place x (step y m kids later) y m kids
  after : {x y z : Axis} {m n : ℕ} {k kids later : Forest} → Place x later y m k → Place x (step z n kids later) y m k
  below : {y z : Axis} {m n : ℕ} {k kids later : Forest} → Place far kids y m k → Place far (step z n kids later) y m k

-- a place that passes
pub record Found (x : Axis) (passes : Axis → ℕ → Forest → Bool) (f : Forest) : Type 0 where
  pub axis : Axis
  pub label : ℕ
  pub kids : Forest
  pub place : Place x f axis label kids
  pub passed : passes axis label kids ≡ true

-- ---- finding

-- a place that passes is found
pub finds_of : {x y : Axis} {m : ℕ} {k f : Forest} (passes : Axis → ℕ → Forest → Bool) → Place x f y m k → passes y m k ≡ true → finds x passes f ≡ true
unfolding finds
finds_of {x = near} {y} {m} {k} passes (here {later}) h = or_first (passes y m k) (finds near passes later) h
finds_of {x = far} {y} {m} {k} passes (here {later}) h = or_first (passes y m k) (finds far passes k || finds far passes later) h
finds_of {x = near} passes (after {z} {n} {kids} {later} p) h = or_second (passes z n kids) (finds near passes later) (finds_of passes p h)
finds_of {x = far} passes (after {z} {n} {kids} {later} p) h =
    or_second (passes z n kids) (finds far passes kids || finds far passes later)
    (or_second (finds far passes kids) (finds far passes later) (finds_of passes p h))
finds_of passes (below {z} {n} {kids} {later} p) h =
    or_second (passes z n kids) (finds far passes kids || finds far passes later)
    (or_first (finds far passes kids) (finds far passes later) (finds_of passes p h))

-- what is found is a place that passes
pub finds-gives : (x : Axis) (passes : Axis → ℕ → Forest → Bool) (f : Forest) → finds x passes f ≡ true → Found x passes f
unfolding finds
finds-gives x passes none h = absurd (false≢true h)
finds-gives near passes (step y m kids later) h =
    ⊎_elim at_here (λ e. found_after (finds-gives near passes later e)) (or_cases (passes y m kids) (finds near passes later) h)
  where
    at_here : passes y m kids ≡ true → Found near passes (step y m kids later)
    at_here e = record { axis = y; label = m; kids = kids; place = here; passed = e }

    found_after : Found near passes later → Found near passes (step y m kids later)
    found_after r = record { axis = r.axis; label = r.label; kids = r.kids; place = after r.place; passed = r.passed }
finds-gives far passes (step y m kids later) h =
    ⊎_elim
    at_here
    (λ e. ⊎_elim (λ b. found_below (finds-gives far passes kids b)) (λ l. found_after (finds-gives far passes later l))
    (or_cases (finds far passes kids) (finds far passes later) e))
    (or_cases (passes y m kids) (finds far passes kids || finds far passes later) h)
  where
    at_here : passes y m kids ≡ true → Found far passes (step y m kids later)
    at_here e = record { axis = y; label = m; kids = kids; place = here; passed = e }

    found_below : Found far passes kids → Found far passes (step y m kids later)
    found_below r = record { axis = r.axis; label = r.label; kids = r.kids; place = below r.place; passed = r.passed }

    found_after : Found far passes later → Found far passes (step y m kids later)
    found_after r = record { axis = r.axis; label = r.label; kids = r.kids; place = after r.place; passed = r.passed }

-- ---- places

-- where a near step looks, a far one looks too
pub place-far : {x y : Axis} {m : ℕ} {k f : Forest} → Place x f y m k → Place far f y m k
place-far here = here
place-far (after p) = after (place-far p)
place-far (below p) = below p

-- below a place are places
pub place-below : {x y z : Axis} {m n : ℕ} {j k f : Forest} → Place x f y m k → Place far k z n j → Place far f z n j
place-below here q = below q
place-below (after p) q = after (place-below p q)
place-below (below p) q = below (place-below p q)

-- where there is a place there is a root step
pub some-root : {x y : Axis} {m : ℕ} {k f : Forest} → Place x f y m k → Found near (λ y m k. true) f
some-root (here {y} {m} {kids}) = record { axis = y; label = m; kids = kids; place = here; passed = refl }
some-root (after {z} {n} {kids} p) = record { axis = z; label = n; kids = kids; place = here; passed = refl }
some-root (below {z} {n} {kids} p) = record { axis = z; label = n; kids = kids; place = here; passed = refl }
