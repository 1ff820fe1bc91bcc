-- The exit of a `?`: what is returned is the refusal that was met, as its conversion gives it.
use Rattle.std.specs.Prelude.{◌≡◌, Result, Err}
use Rattle.std.specs.Result.{IsErrAnd}
use Rattle.std.proofs.Common.{◌∙◌, ap}
use Rattle.std.proofs.lemmas.Result.{err_from_is_err_and}

pub exits : {T E : Type 0} (r : Result T E) (e : E) → IsErrAnd r (λ (x : E). x ≡ e) → r ≡ Err e
exits r e h = let p = err_from_is_err_and r h in p.1 ∙ ap Err p.2
