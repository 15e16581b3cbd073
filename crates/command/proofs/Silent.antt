-- An FCP_CMND that is answered with nothing has opened its exchange at a free place of its sender's login, and changed nothing else. Assumes nothing.
use Rattle.std.proofs.lemmas.Result.{IfOk-at_ok}
use Rattle.std.specs.Prelude.{Option, Some, None, Ok, Err, Result}
use mathlib.Core.Path.{◌≡◌, refl, ap}
use mathlib.Core.Bool.{Bool, true, false, cond}
use mathlib.Core.List.{List}
use Prim.Native.Nat.{ℕ}
use lib.Dec.{eqb}
use lib.ListN.{length}
use Rattle.tables.specs.Lists.{on_found}
use Rattle.tables.proofs.Bools.{apart}
use Rattle.frame.specs.declared.Header.{Header}
use Rattle.state.specs.declared.Exchange.{Exchange}
use Rattle.state.specs.declared.Login.{Login}
use Rattle.state.specs.declared.Port.{Port}
use Rattle.state.specs.declared.Unit.{Unit}
use Rattle.state.specs.Changes.{login_at, with_login, with_exchange}
use Rattle.state.specs.Tables.{find_login, free_exchange, sought_in}
use Rattle.formed.specs.Formed.{total}
use Rattle.reply.specs.declared.Reply.{Reply}
use Rattle.reply.specs.declared.Reply.TheVariants as reply
use Rattle.reply.specs.Reply.{silent}
use Rattle.calls.specs.declared.Served.{Served}
use Rattle.calls.specs.Turn.{Decided, served_as, served_at}
use Rattle.calls.proofs.Decisions.{on_found_lem}
use Rattle.command.specs.declared.Cmnd.{Cmnd}
use Rattle.command.specs.declared.Task.{Task}
use Rattle.command.specs.declared.Task.TheVariants as task
use Rattle.command.specs.declared.CmndFault.{CmndFault}
use Rattle.command.specs.declared.Check.{Check}
use Rattle.command.specs.Cmnd.{cmnd_of, task_of}
use Rattle.command.specs.Cdb.{operation_of}
use Rattle.command.specs.Tests.{exchange_for, asked_of}
use Rattle.command.specs.Command.{refused_with, told_of, bit_for, opened_of, answered_as, execute_of, done_as, commanded_at, logged_out, command_of}
use Rattle.command.proofs.Moves.{Passed, wants_passed}

-- the exchange that a command asks of a login
abbrev pub wish_of : Login → ℕ → Cmnd → Exchange
wish_of l ox c = exchange_for (operation_of c.cdb) l.attention ox c.lun c.expected

-- it opened at place j of the login l, which is then m; test 1 found none at `place`
pub record Opens (l : Login) (place : Option ℕ) (ox : ℕ) (c : Cmnd) (m : Login) : Type 0 where
  pub j : ℕ
  pub none : place ≡ None
  pub free : free_exchange l ≡ Some j
  pub is : m ≡ with_exchange (told_of l (wish_of l ox c).kind) j (wish_of l ox c)

module _ (u : Unit) (l : Login) (place : Option ℕ) (ox : ℕ) (c : Cmnd) where
  abbrev Silent : Served → Type 0
  Silent s = silent s.reply ≡ true → Opens l place ox c s.login

  opened_silent : (e : Exchange) → e ≡ wish_of l ox c → place ≡ None → Silent (opened_of l c e)
  unfolding opened_of
  opened_silent e is none = by (eqb (total e) 0) (bit_for e c) (free_exchange l) refl _ _ _ refl refl refl
    where
      by : (z b : Bool) (g : Option ℕ) → free_exchange l ≡ g → (x y w : Reply) → silent x ≡ false → silent y ≡ false → silent w ≡ false
          → Silent (cond z (served_as x l) (cond b (on_found g (λ j. served_as reply.Nothing (with_exchange (told_of l e.kind) j e)) (served_as y l)) (served_as w l)))
      by true b g at x y w p q r s = apart s p
      by false true (Some j) at x y w p q r s = record { j = j; none = none; free = at; is = ap (λ (f : Exchange). with_exchange (told_of l f.kind) j f) is }
      by false true None at x y w p q r s = apart s q
      by false false g at x y w p q r s = apart s r

  asked_silent : (a : Result Exchange Check) → asked_of u l.attention ox c ≡ a → place ≡ None → Silent (answered_as a l c)
  unfolding refused_with
  asked_silent (Err check) e none s = apart s refl
  asked_silent (Ok d) e none s = opened_silent d (IfOk-at_ok (Passed u l.attention ox c) e (wants_passed u l.attention ox c)).is none s

  execute_silent : Silent (execute_of u l place ox c)
  unfolding execute_of refused_with
  execute_silent = on_found_lem Silent place _ _ (λ j _ s. apart s refl) (λ none. asked_silent (asked_of u l.attention ox c) refl none)

-- of the whole port: the login stands at place i, and the port is then q
pub record OpensAt (p : Port) (h : Header) (c : Cmnd) (q : Port) : Type 0 where
  pub i : ℕ
  pub m : Login
  pub seat : find_login p h.s_id ≡ Some i
  pub opens : Opens (login_at p i) (sought_in p h.s_id h.ox_id) h.ox_id c m
  pub is : q ≡ with_login p i m

module _ (u : Unit) (p : Port) (h : Header) (f : List ℕ) where
  abbrev from : ℕ
  from = h.s_id

  abbrev SilentAt : Decided → Type 0
  SilentAt d = silent d.reply ≡ true → OpensAt p h (cmnd_of f) d.port

  done_silent : (t : Result Task CmndFault) (d : Decided) → SilentAt d → SilentAt (done_as t p d)
  done_silent (Err fault) d x s = apart s refl
  done_silent (Ok (task.Apply e)) d x s = apart s refl
  done_silent (Ok task.Execute) d x s = x s

  out_silent : SilentAt (logged_out p from)
  unfolding logged_out
  out_silent s = apart s refl

  at_silent : (i : ℕ) → find_login p from ≡ Some i → (b : Bool) → SilentAt (cond b (commanded_at u p i h (cmnd_of f) (length f)) (logged_out p from))
  unfolding commanded_at
  at_silent i at true =
      let place = sought_in p from h.ox_id in
      done_silent (task_of (cmnd_of f) (length f) from) (served_at p i (execute_of u (login_at p i) place h.ox_id (cmnd_of f)))
      (λ s. record { i = i; m = _; seat = at; opens = execute_silent u (login_at p i) place h.ox_id (cmnd_of f) s; is = refl })
  at_silent i at false = out_silent

  pub command_silent : SilentAt (command_of u p h f)
  unfolding command_of
  command_silent = on_found_lem SilentAt (find_login p from) _ _ (λ i at. at_silent i at (eqb (login_at p i).paired 1)) (λ _. out_silent)
