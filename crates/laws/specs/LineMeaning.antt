-- A line has one meaning: whatever derivation it has, it draws the same steps, and the same sketch.
use Rattle.std.specs.Prelude.{ℕ, suc, ◌+◌, ◌<◌, ◌≡◌, refl, List, [], ◌∷◌, ◌++◌}
use Rattle.std.proofs.Common.{sym, ap, append_assoc, arith}
use Rattle.meaning.specs.Notation.{Sketch, blank, draw, Line, Drawn, drawn_size, drawn_from, steps_drawn}
use Rattle.laws.specs.LineComplete.{line_read}

-- any two derivations of a line draw the same steps
one_meaning : (s : List ℕ) (t u : Sketch) → Line s t → Line s u → steps_drawn t ≡ steps_drawn u
one_meaning s t u x y = cc (line_read s t x, line_read s u y)

-- ---- the steps determine the sketch

-- the first step, if there is any, hangs on one before p
abbrev Above : ℕ → List Drawn → Type 0
Above p xs = (d : Drawn) (ds : List Drawn) → xs ≡ d ∷ ds → d.parent < p

-- so it is where branches below a step before p come first
still-above : (q p k : ℕ) (t : Sketch) (xs : List Drawn) → q < p → Above q xs → Above p (drawn_from q k t ++ xs)
unfolding drawn_from
still-above q p k blank xs h f = λ d ds e. omega (arith, f d ds e)
still-above q p k (draw a n kids later) xs h f = λ d ds e. let same : d.parent ≡ q = cc in omega arith

-- the steps of the branches below p determine them, and where they end
same-drawn : (p k : ℕ) (t u : Sketch) (xs ys : List Drawn) → p < k → Above p xs → Above p ys
    → drawn_from p k t ++ xs ≡ drawn_from p k u ++ ys → (t ≡ u) × (xs ≡ ys)
unfolding drawn_from
same-drawn p k blank blank xs ys low f g e = (refl, e)
same-drawn p k blank (draw a n kids later) xs ys low f g e = absurd (omega (arith, f _ _ e))
same-drawn p k (draw a n kids later) blank xs ys low f g e = absurd (omega (arith, g _ _ (sym e)))
same-drawn p k (draw a n kids later) (draw b m children others) xs ys low f g e =
    let head : ◌≡◌ {A = Drawn} (record { parent = p; axis = a; name = n }) (record { parent = p; axis = b; name = m }) = cc in
    let i = suc k + drawn_size kids in
    let j = suc k + drawn_size children in
    let tails : drawn_from k (suc k) kids ++ (drawn_from p i later ++ xs) ≡ drawn_from k (suc k) children ++ (drawn_from p j others ++ ys) =
    cc (append_assoc (drawn_from k (suc k) kids) (drawn_from p i later) xs, append_assoc (drawn_from k (suc k) children) (drawn_from p j others) ys) in
    let own = same-drawn k (suc k) kids children (drawn_from p i later ++ xs) (drawn_from p j others ++ ys) (omega arith)
    (still-above p k i later xs low f) (still-above p k j others ys low g) tails in
    let after = same-drawn p i later others xs ys (omega arith) f g (cc) in
    (cc (ap (λ (d : Drawn). d.axis) head, ap (λ (d : Drawn). d.name) head), after.1)

-- any two derivations of a line draw the same sketch
pub one_sketch : (s : List ℕ) (t u : Sketch) → Line s t → Line s u → t ≡ u
unfolding steps_drawn
one_sketch s t u x y =
    let nothing : Above 0 [] = λ d ds e. let z : ◌≡◌ {A = ℕ} 0 1 = cc in omega arith in
    (same-drawn 0 1 t u [] [] (omega arith) nothing nothing (ap (◌++ []) (one_meaning s t u x y))).0
