-- What a call does, told by what changes, and the port after it.
use Rattle.std.specs.Prelude.{ℕ, ◌<◌, Option, Some, None, Ok, Err}
use Rattle.refusal.specs.declared.Refusal.{Refusal}
use Rattle.state.specs.declared.Login.{Login}
use Rattle.state.specs.declared.Port.{Port}
use Rattle.state.specs.declared.Change.{Change}
use Rattle.state.specs.declared.Change.TheVariants.{Keep}
use Rattle.state.specs.Changes.{empty_login, with_login, changed_all}
use Rattle.reply.specs.declared.Reply.{Reply}
use Rattle.calls.specs.declared.Served.{Served}
use Rattle.calls.specs.declared.Decision.{Decision}
use Rattle.calls.specs.declared.Turn.{Turn}

-- a reply, and the port after it: what the definitions of record say of a request
pub record Decided : Type 0 where
  pub reply : Reply
  pub port : Port

abbrev pub decided_as : Reply → Port → Decided
decided_as r p = record { reply = r; port = p }

-- the reply, and the login after it
abbrev pub served_as : Reply → Login → Served
served_as r l = record { reply = r; login = l }

-- the login out of the table, the service, the login back
abbrev pub served_at : Port → ℕ → Served → Decided
served_at p i s = decided_as s.reply (with_login p i s.login)

-- a reply, and a change of every login
abbrev pub changes : Reply → Change → Decision
changes r c = record { reply = r; change = c; at = None; login = empty_login }

-- a reply, and nothing changes
abbrev pub answers_only : Reply → Decision
answers_only r = changes r Keep

-- a reply, and the login at a place after it; no other login changes
abbrev pub stores : Reply → ℕ → Login → Decision
stores r i l = record { reply = r; change = Keep; at = Some i; login = l }

-- a service on the login at a place
abbrev pub served_in : ℕ → Served → Decision
served_in i s = stores s.reply i s.login

-- "returns its number and the state unchanged"
abbrev pub refused_turn : Refusal → Turn
refused_turn x = record { said = Err x; change = Keep; at = None; login = empty_login }

-- the reply's length, and what changes
abbrev pub sent_turn : ℕ → Decision → Turn
sent_turn n d = record { said = Ok n; change = d.change; at = d.at; login = d.login }

-- a login stored at a place, or at none
abbrev pub stored_at : Option ℕ → Login → Port → Port
stored_at (Some i) l p = with_login p i l
stored_at None l p = p

-- the port after a turn, and after a decision: the change of every login, and then the login at its place
abbrev pub port_after : Port → Turn → Port
port_after p t = stored_at t.at t.login (changed_all t.change p)

abbrev pub decided_port : Port → Decision → Port
decided_port p d = port_after p (sent_turn 0 d)

-- the reply, and the port after it
abbrev pub decided_by : Port → Decision → Decided
decided_by p d = decided_as d.reply (decided_port p d)

-- "8 logins at most": a place that is told is one of the table's eight
abbrev pub AtBelow : Option ℕ → Type 0
AtBelow (Some i) = i < 8
AtBelow None = Unit {0}
