-- The lent port after a turn, changed where it stands: which logins a change reaches, by their keys. That this is the port after the turn, at a drive that is well formed, is `settled_answer`.
use Rattle.std.specs.Prelude.{ℕ, ◌+◌, Bool, false, cond, not, ◌||◌, List, [], ◌∷◌, map, eqb, set, Option, Some, None, Ok, Err, Result}
use Rattle.refusal.specs.declared.Refusal.{Refusal}
use Rattle.state.specs.declared.Login.{Login}
use Rattle.state.specs.declared.Port.{Port}
use Rattle.state.specs.declared.Change.{Change}
use Rattle.state.specs.declared.Change.TheVariants.{Keep, EndAll, EndLogin, EndHost, Unprove, EndUnproven, EndExchangesOf, Reset, Clear}
use Rattle.state.specs.Changes.{with_logins, changed_of}
use Rattle.formed.specs.declared.Key.{Key}
use Rattle.formed.specs.Keys.{key_named}
use Rattle.refusal.specs.declared.Refusal.TheVariants.{IllFormed}
use Rattle.calls.specs.declared.Sight.{Sight}
use Rattle.calls.specs.declared.Turn.{Turn}
use Rattle.calls.specs.Turn.{stored_at}

-- a change reaches a login of this key: none where all stay, the login of an address, that of an address or a port name, or every place that is not free
abbrev pub reaches : Change → Key → Bool
reaches Keep k = false
reaches EndAll k = not (eqb k.id 1)
reaches (EndLogin a) k = eqb k.id (2 + a)
reaches (EndHost a n) k = eqb k.id (2 + a) || key_named n k
reaches Unprove k = not (eqb k.id 1)
reaches EndUnproven k = not (eqb k.id 1)
reaches (EndExchangesOf a) k = eqb k.id (2 + a)
reaches Reset k = not (eqb k.id 1)
reaches (Clear a) k = not (eqb k.id 1)

-- the places whose logins a change reaches, by their keys
abbrev pub marks_of : Change → List Key → List Bool
marks_of c keys = map (reaches c) keys

-- the same but for a place
abbrev pub spared_marks : List Bool → Option ℕ → List Bool
spared_marks marks (Some i) = set marks i false
spared_marks marks None = marks

-- the logins, those changed whose places are marked
abbrev pub reached_by : Change → List Bool → List Login → List Login
reached_by c [] ls = ls
reached_by c (m ∷ ms) [] = []
reached_by c (m ∷ ms) (l ∷ ls) = cond m (changed_of c l) l ∷ reached_by c ms ls

-- the port with these changed
unfoldable pub reached_of : Port → List Bool → Change → Port
reached_of p marks c = with_logins p (reached_by c marks p.logins)

-- and then the turn's login at its place
unfoldable pub settled_of : Port → List Key → Turn → Port
settled_of p keys t = stored_at t.at t.login (reached_of p (spared_marks (marks_of t.change keys) t.at) t.change)

-- an event, seen so: "Event: 2", and "the state unchanged"
abbrev pub happened_said : Bool → Result ℕ Refusal
happened_said fine = cond fine (Ok 0) (Err IllFormed)

abbrev pub happened_of : Port → Sight → Change → Port
happened_of p s c = cond s.fine (reached_of p (marks_of c s.keys) c) p
