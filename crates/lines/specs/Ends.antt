-- Where a line may end, by the mode and the number of open brackets.
use Rattle.std.specs.Prelude.{ℕ, suc, ◌≡◌, ◌≢◌, refl, Bool, true, false, List, [], ◌∷◌, eqb, length}
use Rattle.std.proofs.Common.{sym, arith, ne_eqb}
use Rattle.meaning.specs.Lines.{all_closed, may_end}
use Rattle.turns.specs.declared.Mode.{Mode}
use Rattle.turns.specs.declared.Mode.TheVariants as mode
use Rattle.turns.specs.Turns.{mode_of}

unfoldable pub may_end_at : Mode → ℕ → Bool
may_end_at mode.Start n = false
may_end_at mode.Dot n = true
may_end_at mode.Slash n = false
may_end_at mode.Slashes n = false
may_end_at mode.Opened n = false
may_end_at mode.OpenedDot n = false
may_end_at mode.OpenedDotSlash n = false
may_end_at mode.Ended n = eqb n 0

-- after anything but a dot, a name or a bracket it may not
pub may_end_nowhere : (m : Mode) (n : ℕ) → m ≢ mode.Dot → m ≢ mode.Ended → false ≡ may_end_at m n
unfolding may_end_at
may_end_nowhere mode.Start n d e = refl
may_end_nowhere mode.Dot n d e = absurd (d refl)
may_end_nowhere mode.Slash n d e = refl
may_end_nowhere mode.Slashes n d e = refl
may_end_nowhere mode.Opened n d e = refl
may_end_nowhere mode.OpenedDot n d e = refl
may_end_nowhere mode.OpenedDotSlash n d e = refl
may_end_nowhere mode.Ended n d e = absurd (e refl)

all_closed_lem : (hs : List ℕ) → all_closed hs ≡ eqb (length hs) 0
unfolding all_closed
all_closed_lem [] = refl
all_closed_lem (h ∷ hs) = sym (ne_eqb (suc (length hs)) 0 (λ e. omega arith))

pub may_end_lem : (m : Mode) (hs : List ℕ) → may_end (mode_of m) hs ≡ may_end_at m (length hs)
unfolding may_end mode_of may_end_at
may_end_lem mode.Start hs = refl
may_end_lem mode.Dot hs = refl
may_end_lem mode.Slash hs = refl
may_end_lem mode.Slashes hs = refl
may_end_lem mode.Opened hs = refl
may_end_lem mode.OpenedDot hs = refl
may_end_lem mode.OpenedDotSlash hs = refl
may_end_lem mode.Ended hs = all_closed_lem hs
