-- Sheet, document, table: their sections, each after its count, and how each field is judged.
use Rattle.std.specs.Prelude.{ℕ, zero, suc, ◌+◌, Bool, true, false, not, ◌&&◌, List, [], ◌∷◌, ◌++◌, eqb, leb, ltb, length}
use Rattle.base.specs.Choice.{pick}
use Rattle.base.specs.Lists.{some}
use Rattle.meaning.specs.Numbers.{longest_label, most_labels, most_patterns, most_steps, most_nodes, most_entries}
use Rattle.meaning.specs.Reader.{Reader, ◌>>=◌, ◌>>◌, give, unless, byte, bytes, number, repeat, end}
use Rattle.meaning.specs.Forest.{Forest, forest}
use Rattle.meaning.specs.declared.Step.{Step}
use Rattle.meaning.specs.declared.Refusal.TheVariants.{LabelLength, LabelTwice, CountOutside, ParentRule, AxisUnknown, LabelOutside, SecondNear}

-- ---- labels

-- labels are bytes, equal only if every byte is
unfoldable pub same_label : List ℕ → List ℕ → Bool
same_label [] [] = true
same_label [] (y ∷ ys) = false
same_label (x ∷ xs) [] = false
same_label (x ∷ xs) (y ∷ ys) = eqb x y && same_label xs ys

-- a label, judged beside those before it: a length from 1 to 60, and that many bytes that have not occurred before
unfoldable pub label : List (List ℕ) → Reader (List ℕ)
label before = do
  long ← byte
  unless LabelLength (leb 1 long && leb long longest_label)
  text ← bytes long
  unless LabelTwice (not (some (same_label text) before))
  give text

-- n labels after those before them
unfoldable pub labels : ℕ → List (List ℕ) → Reader (List (List ℕ))
labels zero before = give []
labels (suc n) before = do
  text ← label before
  later ← labels n (before ++ (text ∷ []))
  give (text ∷ later)

-- ---- steps

-- of a path upwards, what stands from number p on
unfoldable pub up_from : ℕ → List ℕ → List ℕ
up_from p [] = []
up_from p (k ∷ path) = let higher = up_from p path in pick (eqb k p) (k ∷ path) higher

-- the path upwards from the last of the steps, which are numbered from k on: that step, those above it, and the root, which is 0
unfoldable pub path_after : ℕ → List ℕ → List Step → List ℕ
path_after k path [] = path
path_after k path (s ∷ ss) = path_after (suc k) (k ∷ up_from s.parent path) ss

-- parent 0 is the pattern's root; otherwise it is the step just before, or one above that
unfoldable pub may_hang : List Step → ℕ → Bool
may_hang before p = some (eqb p) (path_after 1 (0 ∷ []) before)

-- a near step with parent 0
unfoldable pub near_root : ℕ → ℕ → Bool
near_root parent axis = eqb parent 0 && eqb axis 0

unfoldable pub is_near_root : Step → Bool
is_near_root s = near_root s.parent s.axis

-- a step, judged beside those before it, with so many labels
unfoldable pub a_step : ℕ → List Step → Reader Step
a_step known before = do
  parent ← byte
  unless ParentRule (may_hang before parent)
  axis ← byte
  unless AxisUnknown (leb axis 1)
  unless SecondNear (not (near_root parent axis && some is_near_root before))
  label ← byte
  unless LabelOutside (leb label known)
  give (record { parent = parent; axis = axis; label = label })

-- n steps after those before them
unfoldable pub steps : ℕ → ℕ → List Step → Reader (List Step)
steps known zero before = give []
steps known (suc n) before = do
  s ← a_step known before
  later ← steps known n (before ++ (s ∷ []))
  give (s ∷ later)

-- a pattern: a step count (0 to 16) and the steps
unfoldable pub pattern : ℕ → Reader Forest
pattern known = do
  n ← byte
  unless CountOutside (leb n most_steps)
  ss ← steps known n []
  give (forest ss)

-- ---- sheet

-- labels are numbered from 1, subscriptions from 0
pub record Sheet : Type 0 where
  pub labels : List (List ℕ)
  pub patterns : List Forest

unfoldable pub sheet : Reader Sheet
sheet = do
  n ← byte
  ls ← labels n []
  m ← byte
  unless CountOutside (leb m most_patterns)
  ps ← repeat m (pattern (length ls))
  end
  give (record { labels = ls; patterns = ps })

-- ---- document

pub record Node : Type 0 where
  pub parent : ℕ
  pub label : ℕ

-- its labels carry the numbers after the sheet's
pub record Document : Type 0 where
  pub labels : List (List ℕ)
  pub nodes : List Node

-- node 1 has parent 0, every other a parent from 1 to its own number less 1
unfoldable pub node_parent : ℕ → ℕ → Bool
node_parent k p = pick (eqb k 1) (eqb p 0) (leb 1 p && ltb p k)

-- node k, with so many labels in sheet and document
unfoldable pub a_node : ℕ → ℕ → Reader Node
a_node known k = do
  parent ← number 2
  unless ParentRule (node_parent k parent)
  label ← byte
  unless LabelOutside (leb 1 label && leb label known)
  give (record { parent = parent; label = label })

-- n nodes, from number k on
unfoldable pub nodes : ℕ → ℕ → ℕ → Reader (List Node)
nodes known zero k = give []
nodes known (suc n) k = do
  d ← a_node known k
  later ← nodes known n (suc k)
  give (d ∷ later)

-- read beside a sheet: S + D at most 255, and no label in both
unfoldable pub document : Sheet → Reader Document
document sh = do
  n ← byte
  unless CountOutside (leb (length sh.labels + n) most_labels)
  ls ← labels n sh.labels
  m ← number 2
  unless CountOutside (leb 1 m && leb m most_nodes)
  ds ← nodes (length sh.labels + n) m 1
  end
  give (record { labels = ls; nodes = ds })

-- ---- table

-- members: bit i for subscription i
pub record Entry : Type 0 where
  pub members : ℕ
  pub pattern : Forest

unfoldable pub entry : ℕ → Reader Entry
entry known = do
  ms ← number 8
  p ← pattern known
  give (record { members = ms; pattern = p })

-- the bytes of a table, beside a sheet; whether it is fair is judged last
unfoldable pub table : Sheet → Reader (List Entry)
table sh = do
  n ← byte
  unless CountOutside (leb n most_entries)
  es ← repeat n (entry (length sh.labels))
  end
  give es
