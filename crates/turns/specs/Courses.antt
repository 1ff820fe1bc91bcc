-- What a bracket and a name do to how far a line has been read, as the code does it.
use Rattle.std.specs.Prelude.{ℕ, ◌+◌, ◌-◌, true, ◌&&◌, List, leb, get_or}
use Rattle.base.specs.Choice.{pick}
use Rattle.meaning.specs.Numbers.{most_steps}
use Rattle.turns.specs.declared.Mode.{Mode}
use Rattle.turns.specs.declared.Mode.TheVariants as mode
use Rattle.turns.specs.declared.names.Name.{Name}
use Rattle.turns.specs.declared.course.Course.{Course}

unfoldable pub first_course : Course
first_course = record { at = 0; mode = mode.Start; depth = 0; here = 0; count = 0; known = true }

unfoldable pub moved_course : Course → Mode → Course
moved_course c m = record { at = c.at + 1; mode = m; depth = c.depth; here = c.here; count = c.count; known = c.known }

unfoldable pub opened_course : Course → Course
opened_course c = record { at = c.at + 1; mode = mode.Opened; depth = c.depth + 1; here = c.here; count = c.count; known = c.known }

unfoldable pub closed_course : Course → List ℕ → Course
closed_course c opens =
    record { at = c.at + 1; mode = mode.Ended; depth = c.depth - 1; here = get_or opens (c.depth - 1) 0; count = c.count; known = c.known }

-- one step more; those after the seventeenth are not counted
unfoldable pub counted : ℕ → ℕ
counted n = pick (leb n most_steps) (n + 1) n

unfoldable pub named_course : Course → Name → Course
named_course c n =
    record { at = n.end; mode = mode.Ended; depth = c.depth; here = counted c.count; count = counted c.count; known = c.known && n.known }
