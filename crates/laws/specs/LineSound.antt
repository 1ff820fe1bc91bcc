-- What is read as steps is a line: from every stand of the reader on, the bytes that it reads to the end are what the grammar of
-- lines lets follow there.
use Rattle.std.specs.Prelude.{ℕ, suc, ◌≡◌, Bool, eqb}
use Prim.Native.Char.{code}
use Rattle.std.proofs.Math.Path.{refl}
use Rattle.std.proofs.Common.{sym, ap, ap₂, ◌∙◌, subst, arith, eqb-true}
use Rattle.std.proofs.Math.Bool.{true, false}
use Rattle.std.proofs.lemmas.Bool.{false≢true}
use mathlib.Core.List.{List, [], ◌∷◌, ◌++◌, append_assoc, append-nil}
use Rattle.base.specs.Bools.{and_both, not-true}
use Rattle.base.specs.Choice.{pick}
use Rattle.base.specs.Lists.{every}
use Rattle.meaning.specs.Forest.{Axis, near, far}
use Rattle.meaning.specs.PatternText.{ascii, axis_text}
use Rattle.meaning.specs.Notation.{barred, unbarred, writable, Name, Named, starred, labelled, Sketch, Branches, bare, last, more}
use Rattle.meaning.specs.Notation.{Bracketed, whole, near_short, far_short, Branch, along, Rest, leaf, over, Line, dot, branches, Drawn}
use Rattle.meaning.specs.Lines.{Mode, at_start, at_dot, at_slash, at_slashes, opened, opened_dot, opened_dot_slash, ended, in_label, Stand, start}
use Rattle.meaning.specs.Lines.{Next, stuck, to, moved, step_found, longer, opens_here, closes, name_or, slash_or, branch_or, after_name, next_in, next}
use Rattle.meaning.specs.Lines.{off_at, draws, followed, all_closed, may_end, read_from, read_any}

-- ---- bytes in two parts

-- a first part of one kind, and then others of another
record Then (P Q : List ℕ → Type 0) (s : List ℕ) : Type 0 where
  first : List ℕ
  others : List ℕ
  joined : first ++ others ≡ s
  first_is : P first
  others_are : Q others

module _ {P Q : List ℕ → Type 0} {s : List ℕ} where
  -- the two together
  together : (R : List ℕ → Type 0) → ((x y : List ℕ) → P x → Q y → R (x ++ y)) → Then P Q s → R s
  together R f p = subst R p.joined (f p.first p.others p.first_is p.others_are)

  module _ {R : List ℕ → Type 0} where
    -- the first part is of another kind too
    recast : ((x : List ℕ) → P x → R x) → Then P Q s → Then R Q s
    recast f p = record { first = p.first; others = p.others; joined = p.joined; first_is = f p.first p.first_is; others_are = p.others_are }

    -- with one byte before it the first part is of another kind
    behind : {b k : ℕ} → b ≡ k → ((x : List ℕ) → P x → R (k ∷ x)) → Then P Q s → Then R Q (b ∷ s)
    behind {k = k} e f p =
        record {
          first = k ∷ p.first;
          others = p.others;
          joined = ap₂ ◌∷◌ (sym e) p.joined;
          first_is = f p.first p.first_is;
          others_are = p.others_are;
        }

    -- the second of three parts joins the first
    regroup : {S : List ℕ → Type 0} → ((x y : List ℕ) → P x → R y → S (x ++ y)) → Then P (Then R Q) s → Then S Q s
    regroup f p =
        let q = p.others_are in
        record {
          first = p.first ++ q.first;
          others = q.others;
          joined = append_assoc p.first q.first q.others ∙ ap (λ (u : List ℕ). p.first ++ u) q.joined ∙ p.joined;
          first_is = f p.first q.first p.first_is q.first_is;
          others_are = q.others_are;
        }

-- ---- what the grammar lets follow, up to the end or to the bracket that closes next

-- from the start
abbrev SomeLine : List ℕ → Type 0
SomeLine x = (t : Sketch) × Line x t

-- where branches must follow
abbrev SomeBranches : List ℕ → Type 0
SomeBranches x = (t : Sketch) × Branches x t

-- after an axis
abbrev SomeRest : List ℕ → Type 0
SomeRest x = (n : Name) × (kids : Sketch) × Rest x n kids

-- after the slash that begins an axis
abbrev AfterSlash : List ℕ → Type 0
AfterSlash x = (a : Axis) × (n : Name) × (kids : Sketch) × Branch (code "/" ∷ x) a n kids

-- after a bracket that opens, with the one that closes
abbrev Boxed : List ℕ → Type 0
Boxed x = (a : Axis) × (n : Name) × (kids : Sketch) × Bracketed (code "[" ∷ x) a n kids

-- and without it
abbrev Inside : List ℕ → Type 0
Inside x = Boxed (x ++ (code "]" ∷ []))

-- after a name or a closed bracket: nothing, or branches
data Follows : List ℕ → Type 0 where
  nothing : Follows []
  branching : {x : List ℕ} → SomeBranches x → Follows x

-- after a byte of a label: more of the label, and then as after a name
abbrev InLabel : List ℕ → Type 0
InLabel = Then (λ w. writable w ≡ true) Follows

-- a name, and what follows it
named-rest : {w : List ℕ} {n : Name} → Named w n → (y : List ℕ) → Follows y → SomeRest (w ++ y)
named-rest m [] nothing = rw append-nil (_, _, leaf m)
named-rest m y (branching k) = (_, _, over m k.1)

-- a branch in brackets, and what follows it
boxed_branches : (x y : List ℕ) → Boxed x → Follows y → SomeBranches (code "[" ∷ x ++ y)
boxed_branches x y k nothing = rw append-nil (_, last k.3)
boxed_branches x y k (branching r) = (_, more k.3 r.1)

-- * and what follows it
star-rest : (x : List ℕ) → Follows x → SomeRest (code "*" ∷ x)
unfolding ascii
star-rest x f = named-rest starred x f

-- nothing more of the label
label-ends : (x : List ℕ) → Follows x → InLabel x
unfolding writable every
label-ends x f = record { first = []; others = x; joined = refl; first_is = refl; others_are = f }

-- one byte more of the label
label-longer : (b : ℕ) → barred b ≡ false → (w : List ℕ) → writable w ≡ true → writable (b ∷ w) ≡ true
unfolding writable unbarred every
label-longer b free w = and_both (unbarred b) (writable w) (not-true (barred b) free)

-- a label's first byte, and what follows it
label-rest : (b : ℕ) → barred b ≡ false → (x : List ℕ) → InLabel x → SomeRest (b ∷ x)
label-rest b free x = together (λ y. SomeRest (b ∷ y)) (λ w y h. named-rest (labelled b w (label-longer b free w h)) y)

-- the axis is /
near-branch : (x : List ℕ) → SomeRest x → AfterSlash x
unfolding axis_text ascii
near-branch x r = (_, _, _, along near r.2)

-- the axis is //
far-branch : (x : List ℕ) → SomeRest x → AfterSlash (code "/" ∷ x)
unfolding axis_text ascii
far-branch x r = (_, _, _, along far r.2)

-- a branch in brackets, with its axis
branch-inside : (x : List ℕ) → AfterSlash x → Inside (code "/" ∷ x)
unfolding ascii
branch-inside x r = (_, _, _, whole r.3)

-- with the axis / left out
near-inside : (x : List ℕ) → SomeRest x → Inside x
unfolding ascii
near-inside x r = (_, _, _, near_short r.2)

-- with the axis // after a dot
far-inside : (x : List ℕ) → SomeRest x → Inside (code "." ∷ code "/" ∷ code "/" ∷ x)
unfolding ascii
far-inside x r = (_, _, _, far_short r.2)

-- ---- what may follow at a stand

-- the end, or the bracket that closes next and what may follow it
Closing : List ℕ → List ℕ → Type 0
Closing [] = λ u. u ≡ []
Closing (h ∷ hs) = Then (λ u. u ≡ code "]" ∷ []) (Then Follows (Closing hs))

-- after what has just been read, with the open brackets given
MayFollow : Mode → List ℕ → List ℕ → Type 0
MayFollow at_start hs = λ s. hs ≡ [] → SomeLine s
MayFollow at_dot hs = λ s. s ≡ []
MayFollow at_slash hs = Then AfterSlash (Closing hs)
MayFollow at_slashes hs = Then SomeRest (Closing hs)
MayFollow opened hs = Then Inside (Closing hs)
MayFollow opened_dot hs = Then (λ x. Inside (code "." ∷ x)) (Closing hs)
MayFollow opened_dot_slash hs = Then (λ x. Inside (code "." ∷ code "/" ∷ x)) (Closing hs)
MayFollow ended hs = Then Follows (Closing hs)
MayFollow in_label hs = Then InLabel (Closing hs)

-- branches are a line where no bracket is open
whole-line : {s : List ℕ} (hs : List ℕ) → hs ≡ [] → Then SomeBranches (Closing hs) s → SomeLine s
unfolding Closing
whole-line {s} hs none p =
    together SomeLine (λ x y k e. rw e (rw append-nil (_, branches k.1))) (subst (λ (k : List ℕ). Then SomeBranches (Closing k) s) none p)

-- ---- one byte back

-- where a byte leads, these bytes may follow
Goes : Next → List ℕ → Type 0
Goes stuck s = ⊥
Goes (to c) s = MayFollow c.mode c.opens s

-- what may follow before a byte, from what may follow after it, by the choices that the reader makes
module _ (b : ℕ) (c : Stand) (s : List ℕ) where
  -- a test
  either : {R : Type 0} (t : Bool) (x y : Next) → (t ≡ true → Goes x s → R) → (t ≡ false → Goes y s → R) → Goes (pick t x y) s → R
  unfolding pick
  either true x y f g h = f refl h
  either false x y f g h = g refl h

  -- a byte, or otherwise
  byte_or : {R : Type 0} (k : ℕ) (x y : Next) → (b ≡ k → Goes x s → R) → (Goes y s → R) → Goes (pick (eqb b k) x y) s → R
  byte_or k x y f g = either (eqb b k) x y (λ e. f (eqb-true b k e)) (λ e. g)

  -- * or a label's first byte, or otherwise
  name_or_lem : {R : Type 0} (a : Axis) (y : Next) → (Then SomeRest (Closing c.opens) (b ∷ s) → R) → (Goes y s → R) → Goes (name_or a b c y) s → R
  unfolding name_or step_found Goes MayFollow
  name_or_lem a y f g =
      either (barred b) _ _ (λ t. byte_or (code "*") _ y (λ e h. f (behind e star-rest h)) g) (λ free h. f (behind refl (label-rest b free) h))

  -- a slash, or otherwise
  slash_or_lem : {R : Type 0} (m : Mode) (y : Next) → (b ≡ code "/" → MayFollow m c.opens s → R) → (Goes y s → R) → Goes (slash_or m b c y) s → R
  unfolding slash_or moved Goes
  slash_or_lem m y = byte_or (code "/") _ y

  -- a bracket opens
  bracket : b ≡ code "[" → Goes (to (opens_here c)) s → Then SomeBranches (Closing c.opens) (b ∷ s)
  unfolding opens_here Goes MayFollow Closing
  bracket e p = behind e (λ x k. k) (regroup boxed_branches (regroup (λ x y i z. rw z i) p))

  -- a branch begins, or otherwise
  branch_or_lem : {R : Type 0} (y : Next) → (Then SomeBranches (Closing c.opens) (b ∷ s) → R) → (Goes y s → R) → Goes (branch_or b c y) s → R
  unfolding branch_or MayFollow
  branch_or_lem y f g = slash_or_lem at_slash _ (λ e h. f (behind e (λ x r. (_, bare r.3)) h)) (byte_or (code "[") _ y (λ e h. f (bracket e h)) g)

  -- the innermost bracket closes
  closing : (hs : List ℕ) → b ≡ code "]" → Goes (closes hs c) s → Then Follows (Closing hs) (b ∷ s)
  unfolding closes Goes MayFollow Closing
  closing [] e g = absurd g
  closing (h ∷ hs) e g =
      record {
        first = [];
        others = b ∷ s;
        joined = refl;
        first_is = nothing;
        others_are = record { first = b ∷ []; others = s; joined = refl; first_is = rw e; others_are = g };
      }

  -- after a name or a closed bracket
  after_name_lem : Goes (after_name b c) s → Then Follows (Closing c.opens) (b ∷ s)
  unfolding after_name Goes
  after_name_lem = branch_or_lem _ (recast (λ x k. branching k)) (byte_or (code "]") _ _ (closing c.opens) absurd)

  -- after whatever has just been read
  back : (m : Mode) → Goes (next_in m b c) s → MayFollow m c.opens (b ∷ s)
  unfolding next_in moved longer Goes MayFollow ascii
  back at_start g =
      λ none. branch_or_lem _ (whole-line c.opens none) (byte_or (code ".") _ _ (λ k e. rw k (rw e (_, dot))) absurd) g
  back at_dot g = absurd g
  back at_slash g = name_or_lem near _ (recast near-branch) (slash_or_lem at_slashes _ (λ e. behind e far-branch) absurd) g
  back at_slashes g = name_or_lem far _ (λ p. p) absurd g
  back opened g =
      name_or_lem near _ (recast near-inside)
      (slash_or_lem at_slash _ (λ e. behind e branch-inside) (byte_or (code ".") _ _ (λ e. behind e (λ x i. i)) absurd)) g
  back opened_dot g = slash_or_lem opened_dot_slash _ (λ e. behind e (λ x i. i)) absurd g
  back opened_dot_slash g = slash_or_lem at_slashes _ (λ e. behind e far-inside) absurd g
  back ended g = after_name_lem g
  back in_label g =
      either (barred b) _ _ (λ t h. recast label-ends (after_name_lem h)) (λ free. behind refl (λ x. behind refl (label-longer b free))) g

-- ---- all bytes

-- where all brackets are closed, nothing may follow a name
closed : (hs : List ℕ) → all_closed hs ≡ true → Then Follows (Closing hs) []
unfolding all_closed Closing
closed [] e = record { first = []; others = []; joined = refl; first_is = nothing; others_are = refl }
closed (h ∷ hs) e = absurd (false≢true e)

-- where a line may end, nothing may follow
ends : (m : Mode) (hs : List ℕ) → may_end m hs ≡ true → MayFollow m hs []
unfolding may_end MayFollow
ends at_start hs e = absurd (false≢true e)
ends at_dot hs e = refl
ends at_slash hs e = absurd (false≢true e)
ends at_slashes hs e = absurd (false≢true e)
ends opened hs e = absurd (false≢true e)
ends opened_dot hs e = absurd (false≢true e)
ends opened_dot_slash hs e = absurd (false≢true e)
ends ended hs e = closed hs e
ends in_label hs e = recast label-ends (closed hs e)

-- a fault draws no steps
pub fault-no_steps : {i : ℕ} {ds : List Drawn} → off_at i ≡ draws ds → ⊥
fault-no_steps e = let z : ◌≡◌ {A = ℕ} 0 1 = cc in omega arith

-- what is read as steps from a stand on may follow there
reads : (i : ℕ) (c : Stand) (s : List ℕ) (ds : List Drawn) → read_from i c s ≡ draws ds → MayFollow c.mode c.opens s
unfolding read_from next followed pick Goes
reads i c [] ds h = ends c.mode c.opens (go (may_end c.mode c.opens) h)
  where
    go : (t : Bool) → pick t (draws c.found) (off_at i) ≡ draws ds → t ≡ true
    go true e = refl
    go false e = absurd (fault-no_steps e)
reads i c (b ∷ s) ds h = back b c s c.mode (go (next b c) h (λ d. reads (suc i) d s ds))
  where
    go : (n : Next) → followed n (off_at i) (λ d. read_from (suc i) d s) ≡ draws ds
        → ((d : Stand) → read_from (suc i) d s ≡ draws ds → MayFollow d.mode d.opens s) → Goes n s
    go stuck e later = fault-no_steps e
    go (to d) e later = later d e

-- what is read as steps is a line
pub read_line_lem : (s : List ℕ) (ds : List Drawn) → read_any s ≡ draws ds → (t : Sketch) × Line s t
unfolding read_any start MayFollow
read_line_lem s ds h = reads 0 start s ds h refl
