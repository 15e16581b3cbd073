-- What an FCP_CMND answers, and what is stored (document 01, "Commands").
use Rattle.std.specs.Prelude.{ℕ, Bool, cond, ◌||◌, List, eqb, length, Option, Ok, Err, Result}
use Rattle.tables.specs.Lists.{on_found}
use Rattle.frame.specs.declared.Header.{Header}
use Rattle.state.specs.declared.Exchange.{Exchange}
use Rattle.state.specs.declared.Login.{Login}
use Rattle.state.specs.declared.Port.{Port}
use Rattle.state.specs.declared.Unit.{Unit}
use Rattle.state.specs.declared.Change.TheVariants.{EndLogin}
use Rattle.state.specs.Changes.{login_at, with_attention, with_exchange, ended_at, changed_all}
use Rattle.state.specs.Kinds.{kind_sense_reset, kind_sense_cleared, is_write}
use Rattle.state.specs.Tables.{find_login, free_exchange, sought_in}
use Rattle.formed.specs.Formed.{total}
use Rattle.reply.specs.declared.Reply.TheVariants as reply
use Rattle.reply.specs.declared.Response.TheVariants as response
use Rattle.reply.specs.declared.Sense.{Sense}
use Rattle.reply.specs.Payload.{sense_with}
use Rattle.residual.specs.Residual.{residual_of}
use Rattle.calls.specs.declared.Served.{Served}
use Rattle.calls.specs.Turn.{Decided, decided_as, served_as, served_at}
use Rattle.command.specs.declared.Cmnd.{Cmnd}
use Rattle.command.specs.declared.Task.{Task}
use Rattle.command.specs.declared.Task.TheVariants as task
use Rattle.command.specs.declared.CmndFault.{CmndFault}
use Rattle.command.specs.declared.Check.{Check}
use Rattle.command.specs.declared.Check.TheVariants.{OpenExchange, OtherUnit, Attention, UnknownCode, Protected, WrongField, Outside}
use Rattle.command.specs.Cmnd.{cmnd_of, code_of, task_of}
use Rattle.command.specs.Tests.{asked_of}

-- "(1) .., 0B/4E/00"; "(2) .., 05/25/00; (3) attention, 06/29/00 or 06/2F/00; (4) .., 05/20/00; (5) .., 07/27/00; (6) .., 05/24/00; (7) .., 05/21/00"
abbrev pub sense_of : Check → Sense
sense_of OpenExchange = sense_with 0x0b 0x4e
sense_of OtherUnit = sense_with 0x05 0x25
sense_of (Attention code) = sense_with 0x06 code
sense_of UnknownCode = sense_with 0x05 0x20
sense_of Protected = sense_with 0x07 0x27
sense_of WrongField = sense_with 0x05 0x24
sense_of Outside = sense_with 0x05 0x21

-- "(3) attention, .., and cleared"
abbrev pub after_check : Check → Login → Login
after_check (Attention code) l = with_attention l 0
after_check check l = l

-- CHECK CONDITION with the sense of the test that failed; wanted is "0 when refused"
unfoldable pub refused_with : Login → Check → ℕ → Served
refused_with l check expected =
    served_as (reply.Respond (response.Check (sense_of check) (residual_of 0 expected))) (after_check check l)

-- the exchange reports an attention
abbrev pub reports : ℕ → Bool
reports kind = eqb kind kind_sense_reset || eqb kind kind_sense_cleared

-- "the attention, cleared as its exchange opens"
unfoldable pub told_of : Login → ℕ → Login
told_of l kind = cond (reports kind) (with_attention l 0) l

-- "11 bit 1 read and bit 0 write"; "test 8 asks the write bit for a write" (02, 2)
unfoldable pub bit_for : Exchange → Cmnd → Bool
bit_for e c = cond (is_write e) c.write c.read

-- "Nothing to send: FCP_RSP at once"; "(8) bytes to send without the read bit, RSP_CODE 02; (9) bytes to send, eight open, status 28h"; "Else the exchange opens silently"
unfoldable pub opened_of : Login → Cmnd → Exchange → Served
opened_of l c e =
    cond (eqb (total e) 0) (served_as (reply.Respond (response.Status 0x00 (residual_of e.wanted e.expected))) l)
    (cond (bit_for e c)
    (on_found (free_exchange l) (λ j. served_as reply.Nothing (with_exchange (told_of l e.kind) j e)) (served_as (reply.Respond (response.Status 0x28 (residual_of 0 e.expected))) l))
    (served_as (reply.Respond (response.Code 0x02)) l))

-- what tests 2 to 7 made of it
abbrev pub answered_as : Result Exchange Check → Login → Cmnd → Served
answered_as (Ok e) l c = opened_of l c e
answered_as (Err check) l c = refused_with l check c.expected

-- "(1) OX_ID open at this login: that exchange ends, 0B/4E/00", by the place where it was found, and then the other tests
unfoldable pub execute_of : Unit → Login → Option ℕ → ℕ → Cmnd → Served
execute_of u l place ox c =
    on_found place (λ j. refused_with (ended_at l j) OpenExchange c.expected) (answered_as (asked_of u l.attention ox c) l c)

-- what the task flags ask for: the answer alone; "Done: 00"; or the command
abbrev pub done_as : Result Task CmndFault → Port → Decided → Decided
done_as (Err fault) p d = decided_as (reply.Respond (response.Code (code_of fault))) p
done_as (Ok (task.Apply e)) p d = decided_as (reply.Respond (response.Code 0x00)) (changed_all e p)
done_as (Ok task.Execute) p d = d

-- an FCP_CMND from the paired login at place i, in a frame of this length
unfoldable pub commanded_at : Unit → Port → ℕ → Header → Cmnd → ℕ → Decided
commanded_at u p i h c length =
    done_as (task_of c length h.s_id) p (served_at p i (execute_of u (login_at p i) (sought_in p h.s_id h.ox_id) h.ox_id c))

-- "No paired login: drive LOGO, login ended"
unfoldable pub logged_out : Port → ℕ → Decided
logged_out p from = decided_as reply.Logout (changed_all (EndLogin from) p)

-- an FCP_CMND, read from its frame
unfoldable pub command_of : Unit → Port → Header → List ℕ → Decided
command_of u p h f =
    let from = h.s_id in
    on_found (find_login p from) (λ i. cond (eqb (login_at p i).paired 1) (commanded_at u p i h (cmnd_of f) (length f)) (logged_out p from)) (logged_out p from)
