-- What a turn is to the login of an address.
use Rattle.std.specs.Prelude.{ℕ, ◌≡◌, false, Option, Some, None}
use Rattle.state.specs.declared.Login.{Login}
use Rattle.state.specs.declared.Port.{Port}
use Rattle.state.specs.declared.Change.{Change}
use Rattle.state.specs.declared.Change.TheVariants.{Keep, EndAll, EndLogin, EndHost, Unprove, EndUnproven, EndExchangesOf, Reset, Clear}
use Rattle.state.specs.Changes.{has_address, has_name, login_at, changed_all}
use Rattle.state.specs.Tables.{login_of}
use Rattle.calls.specs.declared.Decision.{Decision}

-- what is stored, a login at a place or none, is of another than address a: neither the login that stood there nor the one stored is a's
abbrev pub Another : Port → ℕ → Option ℕ → Login → Type 0
Another p a (Some i) l = (has_address a (login_at p i) ≡ false) × (has_address a l ≡ false)
Another p a None l = Unit {0}

-- the changes that leave the login l of address a but for its attention and its exchanges: another's login may end, of another address and another port name
abbrev pub Leaves : ℕ → Login → Change → Type 0
Leaves a l Keep = Unit {0}
Leaves a l EndAll = ⊥
Leaves a l (EndLogin b) = a ≡ b → ⊥
Leaves a l (EndHost b n) = (a ≡ b → ⊥) × (has_name n l ≡ false)
Leaves a l Unprove = ⊥
Leaves a l EndUnproven = ⊥
Leaves a l (EndExchangesOf b) = Unit {0}
Leaves a l Reset = Unit {0}
Leaves a l (Clear b) = Unit {0}

-- a decision stores nothing of address a, once its change was made of every login: a's own may have ended by it
abbrev pub Elsewhere : Port → ℕ → Decision → Type 0
Elsewhere p a d = Another (changed_all d.change p) a d.at d.login

-- and its change leaves a's login so
abbrev pub LeavesLogin : Port → ℕ → Decision → Type 0
LeavesLogin p a d = Leaves a (login_of p a) d.change
