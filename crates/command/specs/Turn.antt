-- What an FCP_CMND does, told by what changes. `Command.antt` says what it makes of the whole port; that this is the same, at a port that is well formed, is `command_turn_lem`.
use Rattle.std.specs.Prelude.{ℕ, cond, List, eqb, length, Ok, Err, Result}
use Rattle.tables.specs.Lists.{on_found}
use Rattle.frame.specs.declared.Header.{Header}
use Rattle.state.specs.declared.Login.{Login}
use Rattle.state.specs.declared.Unit.{Unit}
use Rattle.state.specs.declared.Change.TheVariants.{EndLogin}
use Rattle.state.specs.Tables.{find_exchange}
use Rattle.reply.specs.declared.Reply.TheVariants as reply
use Rattle.reply.specs.declared.Response.TheVariants as response
use Rattle.calls.specs.declared.View.{View}
use Rattle.calls.specs.declared.Decision.{Decision}
use Rattle.calls.specs.Turn.{changes, answers_only, served_in}
use Rattle.command.specs.declared.Cmnd.{Cmnd}
use Rattle.command.specs.declared.Task.{Task}
use Rattle.command.specs.declared.Task.TheVariants as task
use Rattle.command.specs.declared.CmndFault.{CmndFault}
use Rattle.command.specs.Cmnd.{cmnd_of, code_of, task_of}
use Rattle.command.specs.Command.{execute_of}

-- what the task flags ask for: the answer alone, a change of every login, or the command
abbrev pub task_turn : Result Task CmndFault → Decision → Decision
task_turn (Err fault) d = answers_only (reply.Respond (response.Code (code_of fault)))
task_turn (Ok (task.Apply e)) d = changes (reply.Respond (response.Code 0x00)) e
task_turn (Ok task.Execute) d = d

-- an FCP_CMND from the paired login l at place i, in a frame of this length
unfoldable pub commanded_turn : Unit → ℕ → Login → Header → Cmnd → ℕ → Decision
commanded_turn u i l h c length = task_turn (task_of c length h.s_id) (served_in i (execute_of u l (find_exchange l h.ox_id) h.ox_id c))

-- "No paired login: drive LOGO, login ended"
abbrev pub logged_out_turn : ℕ → Decision
logged_out_turn from = changes reply.Logout (EndLogin from)

unfoldable pub command_turn : View → Header → List ℕ → Decision
command_turn v h f =
    let from = h.s_id in
    on_found v.seat (λ i. cond (eqb v.login.paired 1) (commanded_turn v.unit i v.login h (cmnd_of f) (length f)) (logged_out_turn from)) (logged_out_turn from)
