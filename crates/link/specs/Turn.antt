-- What a request to the link services does, told by what changes. `Link.antt` says what it makes of the whole port; that this is the same, at a port that is well formed, is `link_turn_lem` and `abts_turn_lem`.
use Rattle.std.specs.Prelude.{ℕ, ◌+◌, cond, not, List, eqb, length, get_or, Some, Result, ⊤, Ok, Err}
use Rattle.params.specs.declared.Fault.{Fault}
use Rattle.tables.specs.Lists.{on_found}
use Rattle.wire.specs.Bytes.{num, name_of}
use Rattle.frame.specs.declared.Header.{Header}
use Rattle.params.specs.declared.Params.{Params}
use Rattle.params.specs.Words.{params_of, verdict_of}
use Rattle.state.specs.declared.Login.{Login}
use Rattle.state.specs.declared.Change.{Change}
use Rattle.state.specs.declared.Change.TheVariants.{EndLogin}
use Rattle.state.specs.Changes.{ended_at}
use Rattle.state.specs.Tables.{find_exchange}
use Rattle.formed.specs.declared.Key.{Key}
use Rattle.reply.specs.declared.Reply.TheVariants as reply
use Rattle.reply.specs.declared.Accepted.TheVariants as accepted
use Rattle.calls.specs.declared.View.{View}
use Rattle.calls.specs.declared.Decision.{Decision}
use Rattle.calls.specs.View.{place_for}
use Rattle.calls.specs.Turn.{changes, answers_only, stores, served_in}
use Rattle.params.specs.declared.Reason.{Reason}
use Rattle.link.specs.Link.{size_of, new_login, ends_by, outcome_after, outcome_reply, service_of}

-- the word tests, and then the room test, once the logins of the sender and of its port name have ended
unfoldable pub outcome_in : Result ⊤ Fault → List Key → ℕ → ℕ → Result ℕ Reason
outcome_in v keys from name = outcome_after v (place_for keys from name)

-- what the PLOGI ends, ends, accepted or not; an accepted login is stored at its place
abbrev pub login_decision : Result ℕ Reason → Change → ℕ → Params → Decision
login_decision (Ok j) ends from q = record { reply = outcome_reply (Ok j); change = ends; at = Some j; login = new_login from q }
login_decision (Err w) ends from q = changes (outcome_reply (Err w)) ends

unfoldable pub plogi_turn : List Key → ℕ → Params → Decision
plogi_turn keys from q = login_decision (outcome_in (verdict_of q) keys from (name_of q.port_name)) (ends_by from q) from q

unfoldable pub logo_turn : ℕ → ℕ → Decision
logo_turn from named = cond (eqb named from) (changes (reply.Accept accepted.Short) (EndLogin from)) (answers_only (reply.Reject 0x03 0x1f))

-- the order is that of `link_of`
unfoldable pub link_turn : View → Header → List ℕ → Decision
link_turn v h f =
    let code = get_or f 24 0 in
    let from = h.s_id in
    cond (eqb (size_of code) 0) (answers_only (reply.Reject 0x0b 0x00))
    (cond (not (eqb (length f) (24 + size_of code))) (answers_only (reply.Reject 0x03 0x00))
    (cond (eqb code 0x03) (plogi_turn v.keys from (params_of f 28))
    (cond (eqb code 0x05) (logo_turn from (num 3 f 29))
    (on_found v.seat (λ i. served_in i (service_of code v.login (find_exchange v.login) from f)) (answers_only reply.Logout)))))

-- a login without its exchange of this OX_ID, if there is one
unfoldable pub aborted_login : Login → ℕ → Login
aborted_login l ox = on_found (find_exchange l ox) (λ j. ended_at l j) l

unfoldable pub abts_turn : View → Header → Decision
abts_turn v h =
    on_found v.seat (λ i. cond (eqb h.rx_id 0xffff) (stores reply.AbortAccept i (aborted_login v.login h.ox_id)) (answers_only reply.AbortReject)) (answers_only reply.Logout)
