-- How far the code has read a line, as a stand of the definition from which the rest gives what the whole line gives; and what
-- each turn does to it.
use Prim.Native.Nat.{ℕ, zero, suc, ◌+◌, ◌-◌, ◌≤◌, ◌<◌}
use Rattle.std.specs.Prelude.{◌≡◌, Bool, ◌&&◌, ◌||◌, leb, set, Result}
use Rattle.std.proofs.Math.Path.{refl, sym, ap}
use Rattle.std.proofs.Common.{◌∙◌, subst, drop_of_length-le}
use Rattle.std.proofs.Math.Bool.{true, false, not, and-true}
use Rattle.std.proofs.lemmas.Bool.{false≢true}
use mathlib.Core.List.{List, [], ◌∷◌, ◌++◌, map, map-append}
use native.Mathlib.Omega.{arith}
use Rattle.std.proofs.Math.Numerals.{add-one}
use borrow.Author.Tests.{eqb-true, leb-true, not-true}
use Rattle.std.proofs.Math.Dec.{eqb}
use Rattle.std.proofs.Math.ListN.{length, get_or, take, drop, length-set, length-append}
use Rattle.std.proofs.Math.Seq.{drop-cons, drop-drop, take-suc-set}
use Rattle.base.specs.Choice.{pick}
use Rattle.base.specs.Bools.{and_first, and_second, not_both}
use Rattle.base.specs.Lists.{some, every}
use Rattle.meaning.specs.PatternText.{ascii}
use Rattle.base.specs.ListLaws.{every_append}
use Rattle.meaning.specs.Numbers.{most_steps}
use Rattle.meaning.specs.Forest.{axis_of}
use Rattle.meaning.specs.Notation.{barred, unbarred, any, called, Drawn}
use Rattle.meaning.specs.Notation
use Rattle.meaning.specs.Lines.{ended, in_label, Stand, start, stuck, to, moved, step_found, opens_here, closes, name_or, next_in, next}
use Rattle.meaning.specs.Lines.{off_at, draws, followed, may_end, read_from, read_any}
use Rattle.meaning.specs.LineCalls.{number_from, name_number, is_known, known_drawn, numbered_step}
use Rattle.meaning.specs.declared.Step.{Step}
use Rattle.laws.specs.Bridge.{axis-read}
use Rattle.turns.specs.declared.Mode.{Mode}
use Rattle.turns.specs.declared.Turn.{Turn}
use Rattle.turns.specs.declared.Turn.TheVariants as turn
use Rattle.turns.specs.declared.names.Name.{Name}
use Rattle.turns.specs.declared.course.Course.{Course}
use Rattle.turns.specs.Turns.{turn_at, mode_of, act, turn-next}
use Rattle.turns.specs.FittingTurns.{branching, fitting, turn-fits}
use Rattle.turns.specs.Names.{label_long, label_end, text_from, name_at, label-read}
use Rattle.turns.specs.Courses.{first_course, moved_course, opened_course, closed_course, counted, named_course}
use Rattle.lines.specs.Found.{count_of, StepsAre, off_line, sound_line, FoundIs}
use Rattle.lines.specs.Ends.{may_end_at, may_end_lem}
use Rattle.lines.specs.declared.steps.Found.{Found}
use Rattle.shapes.specs.Shapes.{steps_in}
use Rattle.lines.specs.Kept.{stacked, stack-put, count_more, count_few, known-number}

module _ (ls : List (List ℕ)) (line : List ℕ) where
  -- what is kept, while there are at most 16 steps
  pub record Whole (w : Stand) (c : Course) (opens : List ℕ) (steps : List Step) : Type 0 where
    pub hangs : c.here ≡ w.here
    pub stack : stacked opens c.depth ≡ w.opens
    pub so_far : take (length w.found) steps ≡ map (numbered_step ls) w.found

  pub record Reached (c : Course) (opens : List ℕ) (steps : List Step) : Type 0 where
    pub stand : Stand
    pub left : read_from c.at stand (drop c.at line) ≡ read_any line
    pub same-mode : stand.mode ≡ mode_of c.mode
    pub deep : length stand.opens ≡ c.depth
    pub low : c.depth ≤ c.at
    pub within : c.at ≤ length line
    -- each bracket but the last has a step in it; where a branch may stand, the last has one too
    pub shallow : c.depth ≤ suc (length stand.found)
    pub branched : branching c.mode ≡ true → c.depth ≤ length stand.found
    pub counts : c.count ≡ count_of (length stand.found)
    pub knows : c.known ≡ every (known_drawn ls) stand.found
    pub places : length opens ≡ suc most_steps
    pub room : length steps ≡ most_steps
    pub whole : length stand.found ≤ most_steps → Whole stand c opens steps

  -- before the first byte
  pub reached-first : (opens : List ℕ) (steps : List Step) → length opens ≡ suc most_steps → length steps ≡ most_steps → Reached first_course opens steps
  unfolding first_course start read_any mode_of count_of pick every stacked
  reached-first opens steps h k =
      record {
        stand = start;
        left = refl;
        same-mode = refl;
        deep = refl;
        low = omega arith;
        within = omega arith;
        shallow = omega arith;
        branched = λ e. omega arith;
        counts = refl;
        knows = refl;
        places = h;
        room = k;
        whole = λ l. record { hangs = refl; stack = refl; so_far = refl };
      }

  module _ {c : Course} {opens : List ℕ} {steps : List Step} (r : Reached c opens steps) (inside : c.at < length line) where
    -- the next byte
    abbrev here : ℕ
    here = get_or line c.at 0

    -- what the definition does with it
    onward : (x : Turn) → turn_at c.mode here ≡ x → next here r.stand ≡ act x here r.stand
    unfolding next
    onward x e =
        ap (λ m. next_in m here r.stand) r.same-mode ∙ turn-next here r.stand c.mode ∙ ap (λ (y : Turn). act y here r.stand) e

    one_byte : read_any line ≡ followed (next here r.stand) (off_at c.at) (λ d. read_from (suc c.at) d (drop (suc c.at) line))
    unfolding read_from
    one_byte = sym r.left ∙ ap (read_from c.at r.stand) (drop-cons line c.at 0 inside)

    -- it leads on
    leads : (x : Turn) (d : Stand) → turn_at c.mode here ≡ x → act x here r.stand ≡ to d
        → read_from (c.at + 1) d (drop (c.at + 1) line) ≡ read_any line
    unfolding followed
    leads x d e f =
        let taken = ap (λ n. followed n (off_at c.at) (λ w. read_from (suc c.at) w (drop (suc c.at) line))) (onward x e ∙ f) in
        rw (add-one c.at) (sym (one_byte ∙ taken))

    -- no line goes on so
    stops : (x : Turn) → turn_at c.mode here ≡ x → act x here r.stand ≡ stuck → read_any line ≡ off_at c.at
    unfolding followed
    stops x e f = one_byte ∙ ap (λ n. followed n (off_at c.at) (λ w. read_from (suc c.at) w (drop (suc c.at) line))) (onward x e ∙ f)

    pub reached-stuck : turn_at c.mode here ≡ turn.Stuck → read_any line ≡ off_at c.at
    unfolding act
    reached-stuck e = stops turn.Stuck e refl

    -- what the turn tells
    fits : (x : Turn) → turn_at c.mode here ≡ x → fitting c.mode here x ≡ true
    fits x e = ap (fitting c.mode here) (sym e) ∙ turn-fits c.mode here

    pub reached_moves : (m : Mode) → turn_at c.mode here ≡ turn.Moves m → Reached (moved_course c m) opens steps
    unfolding moved_course act moved fitting
    reached_moves m e =
        record {
          stand = moved (mode_of m) r.stand;
          left = leads (turn.Moves m) (moved (mode_of m) r.stand) e refl;
          same-mode = refl;
          deep = r.deep;
          low = omega (arith, r.low);
          within = omega arith;
          shallow = r.shallow;
          branched = λ f. absurd (not_both (branching m) f (not-true (branching m) (fits (turn.Moves m) e)));
          counts = r.counts;
          knows = r.knows;
          places = r.places;
          room = r.room;
          whole = λ l. let w = r.whole l in record { hangs = w.hangs; stack = w.stack; so_far = w.so_far };
        }

    pub reached-opens : turn_at c.mode here ≡ turn.Opens → Reached (opened_course c) (set opens c.depth c.here) steps
    unfolding opened_course act opens_here fitting mode_of branching
    reached-opens e =
        let low-enough : c.depth ≤ length r.stand.found = r.branched (fits turn.Opens e) in
        record {
          stand = opens_here r.stand;
          left = leads turn.Opens (opens_here r.stand) e refl;
          same-mode = refl;
          deep = omega (arith, r.deep);
          low = omega (arith, r.low);
          within = omega arith;
          shallow = omega arith;
          branched = λ f. absurd (false≢true f);
          counts = r.counts;
          knows = r.knows;
          places = length-set opens c.depth c.here ∙ r.places;
          room = r.room;
          whole =
              λ l.
              let w = r.whole l in
              record {
                hangs = w.hangs;
                stack = stack-put opens c.depth c.here (omega (arith, r.places)) ∙ (λ i. w.hangs i ∷ w.stack i);
                so_far = w.so_far;
              };
        }

    -- no bracket is open
    pub reached_unopened : turn_at c.mode here ≡ turn.Closes → c.depth ≡ 0 → read_any line ≡ off_at c.at
    unfolding act closes
    reached_unopened e h = stops turn.Closes e (go r.stand.opens r.deep)
      where
        go : (hs : List ℕ) → length hs ≡ c.depth → closes hs r.stand ≡ stuck
        go [] d = refl
        go (x ∷ hs) d = absurd (omega arith)

    pub reached-closes : turn_at c.mode here ≡ turn.Closes → 0 < c.depth → Reached (closed_course c opens) opens steps
    unfolding closed_course act closes mode_of stacked
    reached-closes e h = go r.stand.opens refl c.depth refl
      where
        go : (hs : List ℕ) → r.stand.opens ≡ hs → (d : ℕ) → c.depth ≡ d → Reached (closed_course c opens) opens steps
        go [] f d k = absurd (omega (arith, r.deep, ap length f))
        go (x ∷ hs) f zero k = absurd (omega arith)
        go (x ∷ hs) f (suc d) k =
            let less : c.depth - 1 ≡ d = omega arith in
            let after : Stand = record { mode = ended; here = x; opens = hs; found = r.stand.found } in
            record {
              stand = after;
              left = leads turn.Closes after e (ap (λ os. closes os r.stand) f);
              same-mode = refl;
              deep = omega (arith, r.deep, ap length f);
              low = omega (arith, r.low);
              within = omega arith;
              shallow = omega (arith, r.shallow);
              branched = λ q. omega (arith, r.shallow);
              counts = r.counts;
              knows = r.knows;
              places = r.places;
              room = r.room;
              whole =
                  λ l.
                  let w = r.whole l in
                  let top : get_or opens d 0 ∷ stacked opens d ≡ x ∷ hs = ap (stacked opens) (sym k) ∙ w.stack ∙ f in
                  record {
                    hangs = rw less (ap (λ os. get_or os 0 0) top);
                    stack = rw less (ap (drop 1) top);
                    so_far = w.so_far;
                  };
            }

    -- ---- a name

    -- what is read of it, as the definition has it
    record NameRead (axis : ℕ) (n : Name) : Type 0 where
      name : Notation.Name
      rest : read_from n.end (step_found ended (axis_of axis) name r.stand) (drop n.end line) ≡ read_any line
      number : n.label ≡ name_number ls name
      known : n.known ≡ is_known ls name
      further : c.at < n.end

    star-found : (axis : ℕ) → here ≡ 42 → act (turn.Names axis) here r.stand ≡ to (step_found ended (axis_of axis) any r.stand)
    unfolding act name_or barred some ascii pick
    star-found axis e = rw e refl

    label-found : (axis : ℕ) → barred here ≡ false
        → act (turn.Names axis) here r.stand ≡ to (step_found in_label (axis_of axis) (called (here ∷ [])) r.stand)
    unfolding act name_or pick
    label-found axis e = rw e refl

    text_is : text_from line c.at ≡ here ∷ take (label_long (drop (c.at + 1) line)) (drop (c.at + 1) line)
    unfolding text_from label_end
    text_is =
        let n : ℕ = label_long (drop (c.at + 1) line) in
        let long : c.at + 1 + n - c.at ≡ suc n = omega arith in
        rw (long, drop-cons line c.at 0 inside, add-one c.at) refl

    -- *
    star-read : (axis : ℕ) → turn_at c.mode here ≡ turn.Names axis → here ≡ 42 → NameRead axis (record { end = c.at + 1; label = 0; known = true })
    unfolding name_number is_known
    star-read axis e f =
        record {
          name = any;
          rest = leads (turn.Names axis) (step_found ended (axis_of axis) any r.stand) e (star-found axis f);
          number = refl;
          known = refl;
          further = omega arith;
        }

    -- a label
    label-whole : (axis : ℕ) → turn_at c.mode here ≡ turn.Names axis → barred here ≡ false
        → (number : ℕ) → number ≡ number_from 1 ls (text_from line c.at)
        → NameRead axis (record { end = label_end line c.at; label = number; known = not (eqb number 0) })
    unfolding name_number is_known label_end
    label-whole axis e f number m =
        let bs : List ℕ = drop (c.at + 1) line in
        let first = leads (turn.Names axis) (step_found in_label (axis_of axis) (called (here ∷ [])) r.stand) e (label-found axis f) in
        let further-on = sym (label-read (axis_of axis) r.stand bs (here ∷ []) (c.at + 1)) ∙ first in
        record {
          name = called (text_from line c.at);
          rest = rw (text_is, ← drop-drop (label_long bs) (c.at + 1) line) further-on;
          number = m;
          known = rw m (known-number ls (text_from line c.at) 1 (omega arith));
          further = omega arith;
        }

    name-read : (axis : ℕ) → turn_at c.mode here ≡ turn.Names axis → NameRead axis (name_at ls line c.at)
    unfolding name_at pick fitting unbarred
    name-read axis e = go (eqb here 42) refl
      where
        go : (t : Bool) → eqb here 42 ≡ t
            → NameRead axis (pick t (record { end = c.at + 1; label = 0; known = true })
            (record {
              end = label_end line c.at;
              label = number_from 1 ls (text_from line c.at);
              known = not (eqb (number_from 1 ls (text_from line c.at)) 0);
            }))
        go true f = star-read axis e (eqb-true here 42 f)
        go false f =
            let begins = and_first (eqb here 42 || not (barred here)) (leb axis 1) (fits (turn.Names axis) e) in
            label-whole axis e (not-true (barred here) (rw f at begins)) _ refl

    -- the step is the last of those drawn
    named : (axis : ℕ) (n : Name) → axis ≤ 1 → NameRead axis n → n.end ≤ length line
        → Reached (named_course c n) opens (set steps c.count (record { parent = c.here; axis = axis; label = n.label }))
    unfolding named_course step_found mode_of known_drawn every numbered_step
    named axis n near-far q h =
        let w : Stand = r.stand in
        let d : Drawn = record { parent = w.here; axis = axis_of axis; name = q.name } in
        let x : Step = record { parent = c.here; axis = axis; label = n.label } in
        let one_more : suc (length w.found) ≡ length (w.found ++ (d ∷ [])) = omega (arith, length-append w.found (d ∷ [])) in
        let counts-more : counted c.count ≡ count_of (length (w.found ++ (d ∷ []))) =
        ap counted r.counts ∙ sym (count_more (length w.found)) ∙ ap count_of one_more in
        record {
          stand = step_found ended (axis_of axis) q.name w;
          left = q.rest;
          same-mode = refl;
          deep = r.deep;
          low = omega (arith, r.low, q.further);
          within = h;
          shallow = omega (arith, r.shallow);
          branched = λ z. omega (arith, r.shallow);
          counts = counts-more;
          knows =
              (λ i. r.knows i && q.known i)
              ∙ ap (λ (t : Bool). every (known_drawn ls) w.found && t) (sym (and-true (is_known ls q.name)))
              ∙ sym (every_append (known_drawn ls) w.found (d ∷ []));
          places = r.places;
          room = length-set steps c.count x ∙ r.room;
          whole =
              λ l.
              let k = r.whole (omega arith) in
              let here-now : c.count ≡ length w.found = r.counts ∙ count_few (length w.found) (omega arith) in
              let same_step : x ≡ numbered_step ls d = λ i. record { parent = k.hangs i; axis = sym (axis-read axis near-far) i; label = q.number i } in
              let stored : take (suc (length w.found)) (set steps (length w.found) x) ≡ take (length w.found) steps ++ (x ∷ []) =
              take-suc-set steps (length w.found) x (omega (arith, r.room)) in
              record {
                hangs = counts-more ∙ count_few (length (w.found ++ (d ∷ []))) l ∙ sym one_more;
                stack = k.stack;
                so_far =
                    rw (← one_more, here-now)
                    (stored ∙ (λ i. k.so_far i ++ (same_step i ∷ [])) ∙ sym (map-append (numbered_step ls) w.found (d ∷ [])));
              };
        }

    pub reached_names : (axis : ℕ) (n : Name) → turn_at c.mode here ≡ turn.Names axis → n ≡ name_at ls line c.at → n.end ≤ length line
        → Reached (named_course c n) opens (set steps c.count (record { parent = c.here; axis = axis; label = n.label }))
    unfolding fitting
    reached_names axis n e f h =
        let near-far = leb-true axis 1 (and_second (eqb here 42 || unbarred here) (leb axis 1) (fits (turn.Names axis) e)) in
        named axis n near-far (subst (NameRead axis) (sym f) (name-read axis e)) h

  -- ---- the end

  module _ {c : Course} {opens : List ℕ} {steps : List Step} (r : Reached c opens steps) where
    ended_there : length line ≤ c.at → read_any line ≡ pick (may_end_at c.mode c.depth) (draws r.stand.found) (off_at c.at)
    unfolding read_from
    ended_there h =
        let ends = ap (λ m. may_end m r.stand.opens) r.same-mode ∙ may_end_lem c.mode r.stand.opens ∙ ap (may_end_at c.mode) r.deep in
        sym r.left ∙ ap (read_from c.at r.stand) (drop_of_length-le line {i = c.at} h)
        ∙ ap (λ (t : Bool). pick t (draws r.stand.found) (off_at c.at)) ends

    -- the steps that are drawn
    steps_are : StepsAre ls r.stand.found c.known (record { count = c.count; steps = steps })
    unfolding steps_in
    steps_are =
        record {
          all_known = r.knows;
          counted = r.counts;
          full = r.room;
          whole = λ l. rw (r.counts, count_few (length r.stand.found) l) (r.whole l).so_far;
        }

    pub reached-end : length line ≤ c.at → FoundIs ls (read_any line) (pick (may_end_at c.mode c.depth) (sound_line c steps) (off_line c.at))
    unfolding sound_line off_line pick
    reached-end h = rw (ended_there h) (go (may_end_at c.mode c.depth))
      where
        go : (t : Bool) → FoundIs ls (pick t (draws r.stand.found) (off_at c.at)) (pick t (sound_line c steps) (off_line c.at))
        go true = steps_are
        go false = refl

  -- a fault
  pub reached_off : (i : ℕ) (f : Result Found ℕ) → read_any line ≡ off_at i → f ≡ off_line i → FoundIs ls (read_any line) f
  unfolding off_line
  reached_off i f e h = rw (e, h) refl
