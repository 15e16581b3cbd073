-- No FCP_CMND makes a state ill formed. Assumes nothing.
use Rattle.std.specs.Prelude.{Option, Some, None, Ok, Err, Result}
use mathlib.Core.Path.{◌≡◌, refl, sym, ap, ◌∙◌}
use mathlib.Core.Bool.{Bool, true, false, cond, or-true}
use mathlib.Core.List.{List}
use Prim.Native.Nat.{ℕ, ◌≤◌}
use native.Mathlib.Omega.{arith}
use lib.Dec.{eqb}
use lib.ListN.{length, get_or}
use Rattle.wire.specs.Bytes.{num}
use Rattle.wire.specs.Layout.{AllBytes}
use Rattle.frame.specs.declared.Header.{Header}
use Rattle.state.specs.declared.Exchange.{Exchange}
use Rattle.state.specs.declared.Login.{Login}
use Rattle.state.specs.declared.Port.{Port}
use Rattle.state.specs.declared.Unit.{Unit}
use Rattle.state.specs.declared.Change.TheVariants.{EndLogin}
use Rattle.state.specs.Changes.{is_closed, login_at, with_attention, with_exchange}
use Rattle.state.specs.Tables.{find_login, find_exchange, login_in, login_of, sought_in}
use Rattle.formed.specs.Formed.{total, full_frame, openable, exchange_fine, well_formed}
use Rattle.formed.proofs.Parts.{Used}
use Rattle.formed.proofs.Sizes.{stored_size}
use Rattle.formed.proofs.Keeping.{attention_used, open_used, end_used, change_kept}
use Rattle.calls.specs.Turn.{Decided, served_at}
use Rattle.calls.proofs.Views.{sought_is}
use Rattle.calls.proofs.Decisions.{on_cond, on_found_lem}
use Rattle.calls.proofs.Keeping.{Keeps, stays, stored_kept}
use Rattle.command.specs.declared.Cmnd.{Cmnd}
use Rattle.command.specs.declared.Task.{Task}
use Rattle.command.specs.declared.Task.TheVariants as task
use Rattle.command.specs.declared.CmndFault.{CmndFault}
use Rattle.command.specs.Cmnd.{cmnd_of, task_of}
use Rattle.command.specs.Cdb.{range10, operation_of}
use Rattle.command.specs.Command.{execute_of, done_as, commanded_at, logged_out, command_of}
use Rattle.command.proofs.Moves.{Moves, same, ends, tells, opens, execute_moves}
use Rattle.command.proofs.Opens.{New, Countable, exchange_new, moved_none, wants_opens}

-- what a command on a paired login makes of it is fine
module _ (u : Unit) (own : ℕ) (l : Login) (pair : eqb l.paired 1 ≡ true) (ox : ℕ) (c : Cmnd) (few : Countable (operation_of c.cdb)) where
  module _ (e : Exchange) (new : New ox e) (may : openable u e ≡ true) (none : find_exchange l ox ≡ None) where
    fine : Used u own l → exchange_fine u (full_frame l.size) l.paired e ≡ true
    unfolding exchange_fine
    fine h =
        let least : 256 ≤ l.size = stored_size l h.params in
        rw (pair, may, moved_none (full_frame l.size) e (omega arith) new) (or-true (is_closed e))

    opened : (b : Bool) (j : ℕ) → Keeps u own l (with_exchange (cond b (with_attention l 0) l) j e)
    unfolding with_exchange find_exchange
    opened true j = stays refl refl refl (λ h. open_used {l = with_attention l 0} (attention_used h 0 refl) j e (fine h) (rw new.id none))
    opened false j = stays refl refl refl (λ h. open_used h j e (fine h) (rw new.id none))

  moves_fine : (place : Option ℕ) → place ≡ find_exchange l ox → (m : Login) → Moves u l place ox c m → Keeps u own l m
  unfolding with_exchange
  moves_fine place at m same = stays refl refl refl (λ h. h)
  moves_fine place at m (ends j) = stays refl refl refl (λ h. end_used h j)
  moves_fine place at m tells = stays refl refl refl (λ h. attention_used h 0 refl)
  moves_fine place at m (opens b j e p n none) =
      opened e (rw p.is (exchange_new (operation_of c.cdb) l.attention ox c.lun c.expected)) (could n) (sym at ∙ none) b j
    where
      could : (total e ≡ 0 → ⊥) → openable u e ≡ true
      could = rw p.is (wants_opens u (operation_of c.cdb) l.attention ox c.lun c.expected few p.allowed p.within)

-- a CDB's count of blocks is two bytes
countable : (cdb : List ℕ) → num 2 cdb 7 ≤ 65535 → Countable (operation_of cdb)
unfolding operation_of range10
countable cdb few =
    let code = get_or cdb 0 0 in
    on_cond Countable (eqb code 0x00) tt
    (on_cond Countable (eqb code 0x03) tt
    (on_cond Countable (eqb code 0x12) tt
    (on_cond Countable (eqb code 0x25) tt
    (on_cond Countable (eqb code 0x28) few
    (on_cond Countable (eqb code 0x2a) few tt)))))

module _ (u : Unit) (p : Port) (h : Header) (f : List ℕ) (known : AllBytes f) (w : well_formed u p ≡ true) where
  abbrev from : ℕ
  from = h.s_id

  abbrev Kept : Decided → Type 0
  Kept d = well_formed u d.port ≡ true

  out_kept : Kept (logged_out p from)
  unfolding logged_out
  out_kept = change_kept u p w (EndLogin from)

  few : Countable (operation_of (cmnd_of f).cdb)
  unfolding cmnd_of
  few = countable (cmnd_of f).cdb (let a = known 43 in let b = known 44 in omega arith)

  done_kept : (t : Result Task CmndFault) (d : Decided) → Kept d → Kept (done_as t p d)
  done_kept (Err fault) d x = w
  done_kept (Ok (task.Apply e)) d x = change_kept u p w e
  done_kept (Ok task.Execute) d x = x

  -- test 1 looks where the sender's login has its exchanges
  sought : (i : ℕ) → find_login p from ≡ Some i → sought_in p from h.ox_id ≡ find_exchange (login_at p i) h.ox_id
  unfolding login_of
  sought i at = sought_is p from h.ox_id ∙ ap (λ (g : Option ℕ). find_exchange (login_in p g) h.ox_id) at

  at_kept : (i : ℕ) → find_login p from ≡ Some i → (b : Bool) → eqb (login_at p i).paired 1 ≡ b → Kept (cond b (commanded_at u p i h (cmnd_of f) (length f)) (logged_out p from))
  unfolding commanded_at
  at_kept i at true pair =
      let place = sought_in p from h.ox_id in
      done_kept (task_of (cmnd_of f) (length f) from) (served_at p i (execute_of u (login_at p i) place h.ox_id (cmnd_of f)))
      (stored_kept u p w from i _ at (moves_fine u p.address (login_at p i) pair h.ox_id (cmnd_of f) few place (sought i at) _ (execute_moves u (login_at p i) place h.ox_id (cmnd_of f))))
  at_kept i at false pair = out_kept

  -- no FCP_CMND makes a state ill formed
  pub command_kept : well_formed u (command_of u p h f).port ≡ true
  unfolding command_of
  command_kept = on_found_lem Kept (find_login p from) _ _ (λ i at. at_kept i at (eqb (login_at p i).paired 1) refl) (λ _. out_kept)
