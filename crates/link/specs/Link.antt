-- What each link service answers and what it stores (document 01, "Link services"; document 02, request 1).
use Rattle.std.specs.Prelude.{ℕ, ◌+◌, ◌/◌, ◌%◌, Bool, cond, not, ◌&&◌, ◌||◌, List, eqb, length, get_or, replicate, Option, Some, None, Ok, Err, Result, ⊤}
use Rattle.params.specs.declared.Fault.{Fault}
use Rattle.tables.specs.Lists.{on_found, same}
use Rattle.wire.specs.Bytes.{num, part, name_of}
use Rattle.frame.specs.declared.Header.{Header}
use Rattle.params.specs.declared.Params.{Params}
use Rattle.params.specs.Words.{rejection, params_of, verdict_of, reason_of}
use Rattle.state.specs.declared.Login.{Login}
use Rattle.state.specs.declared.Port.{Port}
use Rattle.state.specs.declared.Change.{Change}
use Rattle.state.specs.declared.Change.TheVariants.{EndLogin, EndHost}
use Rattle.state.specs.Standing.{Standing, Open, NoExchange, NoLogin}
use Rattle.state.specs.Changes.{empty_exchange, empty_login, login_at, with_login, with_proven, with_paired, without_exchanges, ended_at, changed_all}
use Rattle.state.specs.Tables.{find_login, free_login, lookup_of, sought_in}
use Rattle.reply.specs.declared.Reply.{Reply}
use Rattle.reply.specs.declared.Reply.TheVariants as reply
use Rattle.reply.specs.declared.Accepted.{Accepted}
use Rattle.reply.specs.declared.Accepted.TheVariants as accepted
use Rattle.calls.specs.declared.Served.{Served}
use Rattle.calls.specs.Turn.{Decided, decided_as, served_as, served_at}
use Rattle.params.specs.declared.Reason.{Reason}

-- "Codes and payload sizes: PLOGI 03h 116, LOGO 05h 16, RRQ 12h 44, PRLI 20h 20, PRLO 21h 20, PDISC 50h 116, ADISC 52h 28"; 0 for another code
unfoldable pub size_of : ℕ → ℕ
size_of code =
    cond (eqb code 0x03) 116
    (cond (eqb code 0x05) 16
    (cond (eqb code 0x12) 44
    (cond (eqb code 0x20) 20
    (cond (eqb code 0x21) 20
    (cond (eqb code 0x50) 116
    (cond (eqb code 0x52) 28
    0))))))

-- PLOGI: "keeps address, names, W18 size, W19/B1, W20/B1, proven, unpaired, attention 29h"
unfoldable pub new_login : ℕ → Params → Login
new_login from q =
    record {
      used = 1;
      proven = 1;
      paired = 0;
      attention = 0x29;
      concurrent = q.concurrent;
      sequences = q.sequences;
      size = q.size;
      address = from;
      port_name = q.port_name;
      node_name = q.node_name;
      places = replicate 8 empty_exchange;
    }

-- "a free place, else 09,29"; "the lowest free place"
abbrev pub room_for : Option ℕ → Result ℕ Reason
room_for (Some i) = Ok i
room_for None = Err (rejection 0x09 0x29)

-- the word tests, and then the room test
abbrev pub outcome_after : Result ⊤ Fault → Option ℕ → Result ℕ Reason
outcome_after (Ok tt) f = room_for f
outcome_after (Err t) f = Err (reason_of t)

unfoldable pub outcome_of : Port → Params → Result ℕ Reason
outcome_of p q = outcome_after (verdict_of q) (free_login p)

-- ACC, or LS_RJT with the reason
abbrev pub outcome_reply : Result ℕ Reason → Reply
outcome_reply (Ok i) = reply.Accept accepted.Login
outcome_reply (Err w) = reply.Reject w.reason w.explanation

-- an accepted login is stored at its place
abbrev pub outcome_port : Result ℕ Reason → Port → Login → Port
outcome_port (Ok i) p l = with_login p i l
outcome_port (Err w) p l = p

-- "Of right size, it ends the sender's login and exchanges first, accepted or not";
-- "A PLOGI whose parameters pass, with a port name logged in at another address, ends that login and its exchanges before the room test" (02, 1)
abbrev pub ends_for : Result ⊤ Fault → ℕ → ℕ → Change
ends_for (Ok tt) from name = EndHost from name
ends_for (Err t) from name = EndLogin from

-- what a PLOGI with these parameters ends
abbrev pub ends_by : ℕ → Params → Change
ends_by from q = ends_for (verdict_of q) from (name_of q.port_name)

-- PLOGI: what it ends, ends first; then the room test
unfoldable pub plogi_of : Port → ℕ → Params → Decided
plogi_of p from q =
    let ended = changed_all (ends_by from q) p in
    decided_as (outcome_reply (outcome_of ended q)) (outcome_port (outcome_of ended q) ended (new_login from q))

-- "Names differ from the login's"
unfoldable pub names_differ : Login → List ℕ → List ℕ → Bool
names_differ l port node = not (same port l.port_name) || not (same node l.node_name)

-- "ACC marks the login proven and changes nothing else"
abbrev pub proven_as : Accepted → Login → Served
proven_as a l = served_as (reply.Accept a) (with_proven l 1)

-- PDISC: "tests as PLOGI, without the room test, changing nothing on reject"; "PDISC's [ACC] is PLOGI's"
abbrev pub proven_by : Result ⊤ Fault → Login → Served
proven_by (Ok tt) l = proven_as accepted.Login l
proven_by (Err t) l = served_as (reply.Reject (reason_of t).reason (reason_of t).explanation) l

-- PDISC: "Names differ from the login's ..: drive LOGO, login ended"
unfoldable pub pdisc_of : Login → Params → Served
pdisc_of l q = cond (names_differ l q.port_name q.node_name) (served_as reply.Logout empty_login) (proven_by (verdict_of q) l)

-- ADISC: "Names differ from the login's, or ADISC W6/B1-3 from S_ID: drive LOGO, login ended"
unfoldable pub adisc_of : Login → ℕ → ℕ → List ℕ → List ℕ → Served
adisc_of l from named port node =
    cond (names_differ l port node) (served_as reply.Logout empty_login)
    (cond (eqb named from) (proven_as accepted.Address l) (served_as reply.Logout empty_login))

-- LOGO: "W1/B1-3 must equal S_ID, else 03,1F. Ends the login if any; ACC of 4 bytes."
unfoldable pub logo_of : Port → ℕ → ℕ → Decided
logo_of p from named =
    cond (eqb named from) (decided_as (reply.Accept accepted.Short) (changed_all (EndLogin from) p)) (decided_as (reply.Reject 0x03 0x1f) p)

-- "B1-3 = 10 00 14 and W1/B0 = 08h"
unfoldable pub page_fine : ℕ → ℕ → Bool
page_fine page protocol = eqb page 0x100014 && eqb protocol 0x08

-- bit n of a byte, where b is 2 to the n
abbrev pub bit_set : ℕ → ℕ → Bool
bit_set b byte = eqb (byte / b % 2) 1

-- PRLI "also needs W1/B2 bit 5 and, in W4, bits 5 and 1"
unfoldable pub pair_fine : ℕ → ℕ → ℕ → ℕ → Bool
pair_fine page protocol flags roles = page_fine page protocol && bit_set 32 flags && bit_set 32 roles && bit_set 2 roles

-- PRLI: "else 09,00; it marks the login paired and ends nothing"
unfoldable pub prli_of : Login → ℕ → ℕ → ℕ → ℕ → Served
prli_of l page protocol flags roles =
    cond (pair_fine page protocol flags roles) (served_as (reply.Accept accepted.Pair) (with_paired l 1)) (served_as (reply.Reject 0x09 0x00) l)

-- PRLO: "else 09,00"; "ends the pairing and its exchanges"
unfoldable pub prlo_of : Login → ℕ → ℕ → Served
prlo_of l page protocol = cond (page_fine page protocol) (served_as (reply.Accept accepted.Unpair) (with_paired (without_exchanges l) 0)) (served_as (reply.Reject 0x09 0x00) l)

-- RRQ: "W1/B1-3 not S_ID 03,15; that OX_ID open 03,17; else ACC of 4 bytes", by the place where that exchange was found
unfoldable pub rrq_of : Login → ℕ → ℕ → Option ℕ → Served
rrq_of l from named place =
    cond (eqb named from) (on_found place (λ j. served_as (reply.Reject 0x03 0x17) l) (served_as (reply.Accept accepted.Short) l)) (served_as (reply.Reject 0x03 0x15) l)

-- a service on the sender's login, from the words of the payload: word w starts at byte 24 + 4 w of the frame; sought is where an exchange of that login stands, by its OX_ID
unfoldable pub service_of : ℕ → Login → (ℕ → Option ℕ) → ℕ → List ℕ → Served
service_of code l sought from f =
    cond (eqb code 0x50) (pdisc_of l (params_of f 28))
    (cond (eqb code 0x52) (adisc_of l from (num 3 f 49) (part 8 f 32) (part 8 f 40))
    (cond (eqb code 0x20) (prli_of l (num 3 f 25) (get_or f 28 0) (get_or f 30 0) (get_or f 43 0))
    (cond (eqb code 0x21) (prlo_of l (num 3 f 25) (get_or f 28 0))
    (rrq_of l from (num 3 f 29) (sought (num 2 f 32))))))

-- "Order: other code 0B,00; wrong size 03,00; no login (PLOGI and LOGO excepted) a drive LOGO; then"
unfoldable pub link_of : Port → Header → List ℕ → Decided
link_of p h f =
    let code = get_or f 24 0 in
    let from = h.s_id in
    cond (eqb (size_of code) 0) (decided_as (reply.Reject 0x0b 0x00) p)
    (cond (not (eqb (length f) (24 + size_of code))) (decided_as (reply.Reject 0x03 0x00) p)
    (cond (eqb code 0x03) (plogi_of p from (params_of f 28))
    (cond (eqb code 0x05) (logo_of p from (num 3 f 29))
    (on_found (find_login p from) (λ i. served_at p i (service_of code (login_at p i) (sought_in p from) from f)) (decided_as reply.Logout p)))))

-- ABTS: "no login, drive LOGO. RX_ID not FFFFh, BA_RJT 00 03 03 00. Else the sender's exchange of that OX_ID, if any, ends; BA_ACC"
abbrev pub aborted_at : Standing → ℕ → Port → Decided
aborted_at NoLogin rx p = decided_as reply.Logout p
aborted_at (NoExchange i) rx p = cond (eqb rx 0xffff) (decided_as reply.AbortAccept p) (decided_as reply.AbortReject p)
aborted_at (Open i j) rx p = cond (eqb rx 0xffff) (decided_as reply.AbortAccept (with_login p i (ended_at (login_at p i) j))) (decided_as reply.AbortReject p)

unfoldable pub abts_of : Port → ℕ → ℕ → ℕ → Decided
abts_of p from ox rx = aborted_at (lookup_of p from ox) rx p
