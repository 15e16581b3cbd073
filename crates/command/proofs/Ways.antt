-- A law over plain variables for each way through what the task flags ask for. Assumes nothing.
use mathlib.Core.Path.{◌≡◌, sym}
use Prim.Native.Nat.{ℕ}
use Rattle.std.specs.Prelude.{Ok, Err, Result}
use Rattle.frame.specs.declared.Header.{Header}
use Rattle.state.specs.declared.Change.{Change}
use Rattle.state.specs.declared.Login.{Login}
use Rattle.state.specs.declared.Unit.{Unit}
use Rattle.state.specs.Tables.{find_exchange}
use Rattle.reply.specs.declared.Reply.TheVariants as reply
use Rattle.reply.specs.declared.Response.TheVariants as response
use Rattle.calls.specs.declared.Served.{Served}
use Rattle.calls.specs.declared.Decision.{Decision}
use Rattle.calls.specs.Turn.{answers_only, changes, served_in}
use Rattle.command.specs.declared.Cmnd.{Cmnd}
use Rattle.command.specs.declared.Task.{Task}
use Rattle.command.specs.declared.Task.TheVariants as task
use Rattle.command.specs.declared.CmndFault.{CmndFault}
use Rattle.command.specs.Cmnd.{code_of, task_of}
use Rattle.command.specs.Command.{execute_of}
use Rattle.command.specs.Turn.{commanded_turn}

module _ (u : Unit) (i : ℕ) (l : Login) (h : Header) (c : Cmnd) (n : ℕ) (t : Result Task CmndFault) (et : t ≡ task_of c n h.s_id) (d : Decision) where
  pub commanded_code : (code : ℕ) (fault : CmndFault) → t ≡ Err fault → code ≡ code_of fault → d ≡ answers_only (reply.Respond (response.Code code)) → d ≡ commanded_turn u i l h c n
  unfolding commanded_turn
  commanded_code code fault it ec ed = rw (sym et, it, sym ec) ed

  pub commanded_change : (e : Change) → t ≡ Ok (task.Apply e) → d ≡ changes (reply.Respond (response.Code 0)) e → d ≡ commanded_turn u i l h c n
  unfolding commanded_turn
  commanded_change e it ed = rw (sym et, it) ed

  pub commanded_executes : (s : Served) → t ≡ Ok task.Execute → s ≡ execute_of u l (find_exchange l h.ox_id) h.ox_id c → d ≡ served_in i s → d ≡ commanded_turn u i l h c n
  unfolding commanded_turn
  commanded_executes s it es ed = rw (sym et, it, sym es) ed
