-- Members that are there, and within a sheet.
use Rattle.std.specs.Prelude.{ℕ, ◌^◌, ◌<◌, ◌≡◌, Bool, true, false, ◌&&◌, ltb}
use Rattle.std.proofs.Common.{sym, lt-ltb}

-- some member, and all within a sheet of n subscriptions
unfoldable pub members_fit : ℕ → ℕ → Bool
members_fit n members = ltb 0 members && ltb members (2 ^ n)

-- none of them
pub fit_none : (n members : ℕ) → members ≡ 0 → false ≡ members_fit n members
unfolding members_fit
fit_none n members h = rw h

-- of 64 subscriptions, all bits are within
pub fit_all : (n members : ℕ) → n ≡ 64 → 0 < members → members < 2 ^ 64 → true ≡ members_fit n members
unfolding members_fit
fit_all n members e h k = sym (rw (e, lt-ltb 0 members h, lt-ltb members (2 ^ 64) k))

-- of fewer, those below the next
pub fit_below : (n members next : ℕ) → next ≡ 2 ^ n → 0 < members → ltb members next ≡ members_fit n members
unfolding members_fit
fit_below n members next e h = rw (e, lt-ltb 0 members h)
