-- What the code gives for a line: the place of its first fault, or the steps that it draws with a sheet's labels.
use Rattle.std.specs.Prelude.{ℕ, suc, ◌≤◌, ◌≡◌, Bool, List, map, leb, length, Result, Ok, Err}
use Rattle.base.specs.Choice.{pick}
use Rattle.base.specs.Lists.{every}
use Rattle.meaning.specs.Numbers.{most_steps}
use Rattle.meaning.specs.Notation.{Drawn}
use Rattle.meaning.specs.Lines.{LineRead, off_at, draws}
use Rattle.meaning.specs.LineCalls.{known_drawn, numbered_step}
use Rattle.shapes.specs.Shapes.{steps_in}
use Rattle.shapes.specs.declared.Pattern.{Pattern}
use Rattle.meaning.specs.declared.Step.{Step}
use Rattle.turns.specs.declared.course.Course.{Course}
use Rattle.lines.specs.declared.steps.Found.{Found}

-- how many steps are counted: 17 stands for all that are more than 16
unfoldable pub count_of : ℕ → ℕ
count_of n = pick (leb n most_steps) n (suc most_steps)

-- the steps are whole where there are at most 16
pub record StepsAre (ls : List (List ℕ)) (ds : List Drawn) (known : Bool) (p : Pattern) : Type 0 where
  pub all_known : known ≡ every (known_drawn ls) ds
  pub counted : p.count ≡ count_of (length ds)
  pub full : length p.steps ≡ most_steps
  pub whole : length ds ≤ most_steps → steps_in p ≡ map (numbered_step ls) ds

unfoldable pub off_line : ℕ → Result Found ℕ
off_line i = Err i

unfoldable pub sound_line : Course → List Step → Result Found ℕ
sound_line c steps = Ok (record { known = c.known; pattern = record { count = c.count; steps = steps } })

abbrev pub FoundIs : List (List ℕ) → LineRead → Result Found ℕ → Type 0
FoundIs ls (off_at i) (Err place) = place ≡ i
FoundIs ls (draws ds) (Ok f) = StepsAre ls ds f.known f.pattern
FoundIs ls (off_at i) (Ok f) = ⊥
FoundIs ls (draws ds) (Err place) = ⊥
