-- What a round chooses: a pair whose merge saves, or the entry with most steps.
use Rattle.std.specs.Prelude.{ℕ, ◌≤◌, ◌<◌, ◌≡◌, refl, ◌⊎◌, Bool, true, false, ltb, length}
use Rattle.std.proofs.Common.{inl, inr, ⊎_elim, arith, ltb-true, ltb-false}
use mathlib.Core.List.Memᴰ
use mathlib.Core.List.{List, [], ◌∷◌, Memᴰ}
use Rattle.base.specs.Choice.{pick}
use Rattle.base.specs.Lists.{keep, numbers_from}
use Rattle.base.specs.ListLaws.{keep-gives, numbers_from_of}
use Rattle.base.specs.Replacing.{total_pos}
use Rattle.meaning.specs.Sections.{Entry}
use Rattle.meaning.specs.Building.{Pair, pairs_below, no_entry, entry_at, entry_steps, steps_together, Best, no_pair}
use Rattle.meaning.specs.Building.{best, better, best_of, best_pair, saves, ascends, largest}
use Rattle.laws.specs.Unions.{Apart, pairs_below_lem}

-- a pair whose merge has fewer steps than both together
pub record Saves (es : List Entry) (ij : Pair) : Type 0 where
  pub entries : Apart es ij
  pub some : 0 < saves es ij

-- ---- the best pair

-- nothing, or a pair that saves so many
unfoldable pub Right : List Entry → Best → Type 0
Right es no_pair = Unit {0}
Right es (best n ij) = Saves es ij × (n ≡ saves es ij)

-- the better of a pair and what was found
better-right : (es : List Entry) (ij : Pair) (b : Best) → Apart es ij → Right es b → Right es (better (saves es ij) ij b)
unfolding better pick Right
better-right es ij no_pair a r = go (ltb 0 (saves es ij)) refl
  where
    go : (t : Bool) → ltb 0 (saves es ij) ≡ t → Right es (pick t (best (saves es ij) ij) no_pair)
    go true e = (record { entries = a; some = ltb-true 0 (saves es ij) e }, refl)
    go false e = tt
better-right es ij (best m kl) a r = go (ltb m (saves es ij)) refl
  where
    go : (t : Bool) → ltb m (saves es ij) ≡ t → Right es (pick t (best (saves es ij) ij) (best m kl))
    go true e = let l = ltb-true m (saves es ij) e in (record { entries = a; some = omega arith }, refl)
    go false e = r

-- so of all pairs
best-right : (es : List Entry) (ps : List Pair) (b : Best) → ((ij : Pair) → Memᴰ ij ps → Apart es ij) → Right es b → Right es (best_of es ps b)
unfolding best_of
best-right es [] b h r = r
best-right es (ij ∷ more) b h r =
    best-right es more (better (saves es ij) ij b) (λ kl m. h kl (Memᴰ.tail m)) (better-right es ij b (h ij (Memᴰ.head refl)) r)

-- the best pair is two entries whose merge saves
pub best_pair-right : (es : List Entry) → Right es (best_pair es)
unfolding best_pair Right ascends
best_pair-right es = best-right es (keep ascends (pairs_below (length es))) no_pair apart tt
  where
    apart : (ij : Pair) → Memᴰ ij (keep ascends (pairs_below (length es))) → Apart es ij
    apart ij m =
        let r = keep-gives ascends (pairs_below (length es)) m in
        let b = pairs_below_lem (length es) r.0 in
        let l = ltb-true ij.fst ij.snd r.1 in
        record { first = b.0; second = b.1; apart = λ e. omega arith }

-- ---- the entry with most steps

-- it is one of those asked
pub largest_there : (es : List Entry) (js : List ℕ) (i : ℕ) → i < length es → ((j : ℕ) → Memᴰ j js → j < length es) → largest es js i < length es
unfolding largest pick
largest_there es [] i h k = h
largest_there es (j ∷ js) i h k =
    go (ltb (entry_steps (entry_at es i)) (entry_steps (entry_at es j))) (λ m g. largest_there es js m g (λ n t. k n (Memᴰ.tail t)))
  where
    go : (t : Bool) → ((m : ℕ) → m < length es → largest es js m < length es) → largest es js (pick t j i) < length es
    go true later = later j (k j (Memᴰ.head refl))
    go false later = later i h

-- and has at least as many as each of them
pub largest_most : (es : List Entry) (js : List ℕ) (i k : ℕ) → (k ≡ i) ⊎ Memᴰ k js → entry_steps (entry_at es k) ≤ entry_steps (entry_at es (largest es js i))
unfolding largest pick
largest_most es [] i k (inl e) = rw e (omega arith)
largest_most es [] i k (inr m) = elim m [ ]
largest_most es (j ∷ js) i k asked = go (ltb (entry_steps (entry_at es i)) (entry_steps (entry_at es j))) refl (λ m. largest_most es js m) asked
  where
    go : (t : Bool) → ltb (entry_steps (entry_at es i)) (entry_steps (entry_at es j)) ≡ t
        → ((m n : ℕ) → (n ≡ m) ⊎ Memᴰ n js → entry_steps (entry_at es n) ≤ entry_steps (entry_at es (largest es js m)))
        → (k ≡ i) ⊎ Memᴰ k (j ∷ js) → entry_steps (entry_at es k) ≤ entry_steps (entry_at es (largest es js (pick t j i)))
    go true e later (inl q) =
        let l = ltb-true (entry_steps (entry_at es i)) (entry_steps (entry_at es j)) e in
        rw q (omega (arith, later j j (inl refl)))
    go false e later (inl q) = later i k (inl q)
    go true e later (inr m) = later j k (Memᴰ.cases_cons m)
    go false e later (inr m) =
        let l = ltb-false (entry_steps (entry_at es i)) (entry_steps (entry_at es j)) e in
        ⊎_elim (λ q. rw q (omega (arith, later i i (inl refl)))) (λ t. later i k (inr t)) (Memᴰ.cases_cons m)

-- where there are steps, the entry with most steps has some
pub largest-has-steps : (es : List Entry) → 0 < steps_together es → 0 < entry_steps (entry_at es (largest es (numbers_from 0 (length es)) 0))
unfolding steps_together entry_at
largest-has-steps es h =
    let r = total_pos entry_steps es no_entry h in
    let m = largest_most es (numbers_from 0 (length es)) 0 r.0 (inr (numbers_from_of 0 (length es) r.0 (omega arith) (omega arith))) in
    omega arith
