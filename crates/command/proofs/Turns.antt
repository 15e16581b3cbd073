-- What an FCP_CMND does, told by what changes, is what it makes of the whole port, where the port's logins are fine. Assumes nothing.
use Rattle.std.specs.Prelude.{Option, Ok, Err, Result}
use Prim.Native.Nat.{ℕ}
use mathlib.Core.Path.{◌≡◌, refl, sym}
use mathlib.Core.Bool.{true, cond}
use mathlib.Core.List.{List}
use lib.Dec.{eqb}
use lib.ListN.{length}
use Rattle.tables.specs.Lists.{all}
use Rattle.frame.specs.declared.Header.{Header}
use Rattle.state.specs.declared.Login.{Login}
use Rattle.state.specs.declared.Port.{Port}
use Rattle.state.specs.declared.Unit.{Unit}
use Rattle.state.specs.Changes.{login_at}
use Rattle.state.specs.Tables.{sought_in}
use Rattle.formed.specs.Formed.{login_fine}
use Rattle.calls.specs.declared.Served.{Served}
use Rattle.calls.specs.View.{view_of}
use Rattle.calls.specs.Turn.{served_at, served_in, decided_by}
use Rattle.calls.proofs.Views.{view_unit, view_login, sought_seen}
use Rattle.calls.proofs.Decisions.{answers_is, served_is, either_is, found_is}
use Rattle.command.specs.declared.Cmnd.{Cmnd}
use Rattle.command.specs.declared.Task.{Task}
use Rattle.command.specs.declared.Task.TheVariants as task
use Rattle.command.specs.declared.CmndFault.{CmndFault}
use Rattle.command.specs.Cmnd.{cmnd_of, task_of}
use Rattle.command.specs.Command.{execute_of, done_as, commanded_at, logged_out, command_of}
use Rattle.command.specs.Turn.{task_turn, commanded_turn, logged_out_turn, command_turn}

done_is : (p : Port) (t : Result Task CmndFault) (i : ℕ) (s : Served) → decided_by p (task_turn t (served_in i s)) ≡ done_as t p (served_at p i s)
done_is p (Err fault) i s = answers_is p _
done_is p (Ok (task.Apply e)) i s = refl
done_is p (Ok task.Execute) i s = served_is p i s

-- from the login m that is seen, the exchange sought at the place that is seen
at_is : (u : Unit) (p : Port) (i : ℕ) (h : Header) (c : Cmnd) (n : ℕ) {w : Unit} {m : Login} {place : Option ℕ} → w ≡ u → m ≡ login_at p i → place ≡ sought_in p h.s_id h.ox_id
    → decided_by p (cond (eqb m.paired 1) (task_turn (task_of c n h.s_id) (served_in i (execute_of w m place h.ox_id c))) (logged_out_turn h.s_id))
    ≡ cond (eqb (login_at p i).paired 1) (commanded_at u p i h c n) (logged_out p h.s_id)
unfolding commanded_at logged_out
at_is u p i h c n eu em ep = rw (eu, em, ep) (either_is p (eqb (login_at p i).paired 1) _ _ (done_is p (task_of c n h.s_id) i _) refl)

pub command_turn_lem : (u : Unit) (p : Port) → all (login_fine u p.address) p.logins ≡ true → (h : Header) (f : List ℕ) → decided_by p (command_turn (view_of u p h.s_id) h f) ≡ command_of u p h f
unfolding command_turn commanded_turn command_of logged_out
command_turn_lem u p fine h f =
    let from = h.s_id in
    found_is u p from fine _ _ (λ i. cond (eqb (login_at p i).paired 1) (commanded_at u p i h (cmnd_of f) (length f)) (logged_out p from))
    (λ i e. at_is u p i h (cmnd_of f) (length f) (view_unit u p from) (view_login u p from fine i e) (sym (sought_seen u p from fine h.ox_id))) refl
