-- Branches joined below one parent: what they can be laid on, and how many steps they have.
use Rattle.std.specs.Prelude.{◌≡◌, refl, true, List, [], ◌∷◌}
use mathlib.Core.List.Memᴰ
use Rattle.std.proofs.Common.{arith}
use Rattle.base.specs.Bools.{and_first, and_both}
use Rattle.base.specs.Lists.{total}
use Rattle.meaning.specs.Forest.{Forest, size}
use Rattle.meaning.specs.Covering.{finds, lays}
use Rattle.meaning.specs.Merging.{Branch, alone, joined, branch_size}
use Rattle.laws.specs.Laying.{fits_with}
use Rattle.laws.specs.Offering.{AllKept}

-- joined branches can be laid where each can
pub joined-lays : (cs : List Branch) (b : Forest) → AllKept (λ c. lays (alone c) b ≡ true) cs → lays (joined cs) b ≡ true
unfolding joined alone lays AllKept
joined-lays [] b h = refl
joined-lays (c ∷ cs) b h =
    and_both _ (lays (joined cs) b) (and_first (finds c.axis (fits_with c.axis c.label c.kids) b) true (h c (Memᴰ.head refl)))
    (joined-lays cs b (λ k m. h k (Memᴰ.tail m)))

-- they have as many steps as all of them
pub joined-size : (cs : List Branch) → size (joined cs) ≡ total branch_size cs
unfolding joined size total branch_size
joined-size [] = refl
joined-size (c ∷ cs) = omega (arith, joined-size cs)
