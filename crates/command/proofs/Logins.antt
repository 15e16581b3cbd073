-- What an FCP_CMND makes of the logins: from a paired one, of every login its attention and its exchanges alone; from any other a drive LOGO, and that login ends. Assumes nothing.
use Rattle.std.specs.Prelude.{Option, Some, None, Ok, Err, Result}
use mathlib.Core.Path.{◌≡◌, refl, sym, ap, ◌∙◌}
use mathlib.Core.Bool.{Bool, true, false, cond}
use mathlib.Core.List.{List}
use Prim.Native.Nat.{ℕ, ◌<◌}
use native.Mathlib.Decide.{ℕ_discrete}
use lib.Dec.{eqb}
use lib.ListN.{length}
use Rattle.tables.specs.Lists.{all, on_found, pairs}
use Rattle.tables.proofs.Bools.{apart}
use Rattle.tables.proofs.Searches.{found_below, same_found}
use Rattle.frame.specs.declared.Header.{Header}
use Rattle.state.specs.declared.Exchange.{Exchange}
use Rattle.state.specs.declared.Login.{Login}
use Rattle.state.specs.declared.Port.{Port}
use Rattle.state.specs.declared.Unit.{Unit}
use Rattle.state.specs.declared.Change.TheVariants.{Keep, EndExchangesOf, Reset, Clear}
use Rattle.state.specs.Changes.{empty_login, is_used, has_address, login_at, with_state, with_login, with_exchange, without_exchanges, aborted_of, reset_of, loses_to, cleared_by, changed_all}
use Rattle.state.specs.Tables.{find_login, find_exchange, free_exchange, login_in, login_of, sought_in}
use Rattle.state.proofs.Places.{found_has, stored_at, login_other}
use Rattle.formed.specs.Formed.{total, login_fine, apart_login}
use Rattle.reply.specs.declared.Reply.{Reply}
use Rattle.reply.specs.declared.Reply.TheVariants as reply
use Rattle.reply.specs.declared.Response.{Response}
use Rattle.calls.specs.declared.View.{View}
use Rattle.calls.specs.declared.Served.{Served}
use Rattle.calls.specs.View.{view_of}
use Rattle.calls.specs.Turn.{Decided, served_at, served_in}
use Rattle.calls.specs.Others.{Elsewhere, LeavesLogin}
use Rattle.calls.proofs.Views.{view_seat, view_login}
use Rattle.calls.proofs.Decisions.{on_cond, on_found_lem}
use Rattle.calls.proofs.Others.{other_has, changed_sees, seat_another}
use Rattle.command.specs.declared.Cmnd.{Cmnd}
use Rattle.command.specs.declared.Task.{Task}
use Rattle.command.specs.declared.Task.TheVariants as task
use Rattle.command.specs.declared.CmndFault.{CmndFault}
use Rattle.command.specs.declared.CmndFault.TheVariants.{Fields, Unsupported, OtherUnit}
use Rattle.command.specs.declared.Check.{Check}
use Rattle.command.specs.Cmnd.{cmnd_of, malformed, task_for, task_of}
use Rattle.command.specs.Tests.{asked_of}
use Rattle.command.specs.Command.{refused_with, bit_for, opened_of, answered_as, execute_of, done_as, commanded_at, logged_out, command_of}
use Rattle.command.specs.Turn.{task_turn, commanded_turn, command_turn}
use Rattle.command.proofs.Moves.{Moves, same, ends, tells, opens, execute_moves}

-- a login with another attention and other exchanges
pub data Alike (l : Login) : Login → Type 0 where
  alike : (attention : ℕ) (es : List Exchange) → Alike l (with_state l l.proven l.paired attention es)

itself : (l : Login) → Alike l l
itself l = alike l.attention l.places

alike_has : {l m : Login} → Alike l m → (a : ℕ) → has_address a m ≡ has_address a l
unfolding has_address
alike_has (alike n es) a = refl

-- the task flags of a sender end logins of nobody
pub data Mild (from : ℕ) : Result Task CmndFault → Type 0 where
  fault : (t : CmndFault) → Mild from (Err t)
  abort : Mild from (Ok (task.Apply (EndExchangesOf from)))
  reset : Mild from (Ok (task.Apply Reset))
  clear : Mild from (Ok (task.Apply (Clear from)))
  execute : Mild from (Ok task.Execute)

pub task_mild : (c : Cmnd) (n from : ℕ) → Mild from (task_of c n from)
unfolding task_of task_for
task_mild c n from =
    let t = c.task in
    let zero = eqb c.lun 0 in
    on_cond (Mild from) (malformed n c.read c.write) (fault Fields)
    (on_cond (Mild from) (eqb t 0x00) execute
    (on_cond (Mild from) (eqb t 0x80) (fault Unsupported)
    (on_cond (Mild from) (eqb t 0x40) (fault Unsupported)
    (on_cond (Mild from) (eqb t 0x20) reset
    (on_cond (Mild from) (eqb t 0x04) (on_cond (Mild from) zero clear (fault OtherUnit))
    (on_cond (Mild from) (eqb t 0x02) (on_cond (Mild from) zero abort (fault OtherUnit)) (fault Fields)))))))

aborted_alike : (a : ℕ) (l : Login) → Alike l (aborted_of a l)
unfolding aborted_of without_exchanges
aborted_alike a l = on_cond (Alike l) (has_address a l) (alike _ _) (itself l)

reset_alike : (l : Login) → Alike l (reset_of l)
unfolding reset_of without_exchanges
reset_alike l = on_cond (Alike l) (is_used l) (alike _ _) (itself l)

cleared_alike : (a : ℕ) (l : Login) → Alike l (cleared_by a l)
unfolding cleared_by without_exchanges
cleared_alike a l = on_cond (Alike l) (is_used l) (on_cond (Alike l) (loses_to a l) (alike _ _) (alike _ _)) (itself l)

-- what a command makes of its sender's login
moves_alike : (u : Unit) (l : Login) (place : Option ℕ) (ox : ℕ) (c : Cmnd) {m : Login} → Moves u l place ox c m → Alike l m
unfolding with_exchange
moves_alike u l place ox c same = itself l
moves_alike u l place ox c (ends j) = alike _ _
moves_alike u l place ox c tells = alike _ _
moves_alike u l place ox c (opens true j e p n none) = alike _ _
moves_alike u l place ox c (opens false j e p n none) = alike _ _

-- a login stored where one alike stood: that of every address is alike
found_stored : (p : Port) (i : ℕ) (m : Login) → Alike (login_at p i) m → (b : ℕ) → find_login (with_login p i m) b ≡ find_login p b
unfolding find_login with_login login_at
found_stored p i m x b = same_found empty_login (has_address b) p.logins i m (alike_has x b)

at_stored : (p : Port) (i : ℕ) (m : Login) → i < length p.logins → Alike (login_at p i) m → (j : ℕ) → Alike (login_at p j) (login_at (with_login p i m) j)
at_stored p i m below x j =
    elim (ℕ_discrete j i) [
      | yes e ↦ rw (e, stored_at p i m below) x
      | no n ↦ rw (login_other p i j m n) (itself (login_at p j))
    ]

alike_stored : (p : Port) (i : ℕ) (m : Login) → i < length p.logins → Alike (login_at p i) m → (b : ℕ) → Alike (login_of p b) (login_of (with_login p i m) b)
unfolding login_of
alike_stored p i m below x b = rw (found_stored p i m x b) (by (find_login p b))
  where
    by : (f : Option ℕ) → Alike (login_in p f) (login_in (with_login p i m) f)
    by (Some j) = at_stored p i m below x j
    by None = itself empty_login

-- a command is answered with nothing or FCP_RSP
pub data Spoken : Reply → Type 0 where
  silent : Spoken reply.Nothing
  responds : (x : Response) → Spoken (reply.Respond x)

abbrev Says : Served → Type 0
Says s = Spoken s.reply

execute_spoken : (u : Unit) (l : Login) (place : Option ℕ) (ox : ℕ) (c : Cmnd) → Says (execute_of u l place ox c)
unfolding execute_of refused_with opened_of
execute_spoken u l place ox c = on_found_lem Says place _ _ (λ j _. responds _) (λ _. by (asked_of u l.attention ox c))
  where
    by : (a : Result Exchange Check) → Says (answered_as a l c)
    by (Err check) = responds _
    by (Ok e) = on_cond Says (eqb (total e) 0) (responds _) (on_cond Says (bit_for e c) (on_found_lem Says (free_exchange l) _ _ (λ j _. silent) (λ _. responds _)) (responds _))

module _ (u : Unit) (p : Port) (h : Header) (f : List ℕ) where
  abbrev from : ℕ
  from = h.s_id

  -- the sender's login is paired, and there is one
  abbrev Paired : Bool → Type 0
  Paired b = eqb (login_of p from).paired 1 ≡ b

  -- from a paired login: the command of its place
  paired_is : Paired true → (P : Decided → Type 0) → ((i : ℕ) → find_login p from ≡ Some i → P (commanded_at u p i h (cmnd_of f) (length f))) → P (command_of u p h f)
  unfolding command_of login_of
  paired_is r P holds = step (find_login p from) refl r
    where
      step : (x : Option ℕ) → find_login p from ≡ x → eqb (login_in p x).paired 1 ≡ true
          → P (on_found x (λ i. cond (eqb (login_at p i).paired 1) (commanded_at u p i h (cmnd_of f) (length f)) (logged_out p from)) (logged_out p from))
      step (Some i) e r = rw r (holds i e)
      step None e r = apart r refl

  -- its reply is FCP_RSP or nothing
  pub command_spoken : Paired true → Spoken (command_of u p h f).reply
  unfolding commanded_at
  command_spoken r = paired_is r (λ x. Spoken x.reply) (λ i e. by i (task_of (cmnd_of f) (length f) from))
    where
      by : (i : ℕ) (t : Result Task CmndFault) → Spoken (done_as t p (served_at p i (execute_of u (login_at p i) (sought_in p from h.ox_id) h.ox_id (cmnd_of f)))).reply
      by i (Err t) = responds _
      by i (Ok (task.Apply e)) = responds _
      by i (Ok task.Execute) = execute_spoken u (login_at p i) (sought_in p from h.ox_id) h.ox_id (cmnd_of f)

  -- from any other sender: a drive LOGO, and its login ends
  pub command_unpaired : Paired false → command_of u p h f ≡ logged_out p from
  unfolding command_of login_of
  command_unpaired r = step (find_login p from) r
    where
      step : (x : Option ℕ) → eqb (login_in p x).paired 1 ≡ false
          → on_found x (λ i. cond (eqb (login_at p i).paired 1) (commanded_at u p i h (cmnd_of f) (length f)) (logged_out p from)) (logged_out p from) ≡ logged_out p from
      step (Some i) r = rw r
      step None r = refl

  module _ (d : pairs apart_login p.logins ≡ true) where
    -- the login of every address is alike
    abbrev Same : Decided → Type 0
    Same x = (b : ℕ) → Alike (login_of p b) (login_of x.port b)

    done_same : (t : Result Task CmndFault) → Mild from t → (x : Decided) → Same x → Same (done_as t p x)
    done_same t (fault k) x s b = itself (login_of p b)
    done_same t abort x s b = rw (changed_sees p d (EndExchangesOf from) b) (aborted_alike from (login_of p b))
    done_same t reset x s b = rw (changed_sees p d Reset b) (reset_alike (login_of p b))
    done_same t clear x s b = rw (changed_sees p d (Clear from) b) (cleared_alike from (login_of p b))
    done_same t execute x s b = s b

    commanded_same : (i : ℕ) → find_login p from ≡ Some i → Same (commanded_at u p i h (cmnd_of f) (length f))
    unfolding commanded_at find_login
    commanded_same i at =
        let place = sought_in p from h.ox_id in
        done_same (task_of (cmnd_of f) (length f) from) (task_mild (cmnd_of f) (length f) from) (served_at p i (execute_of u (login_at p i) place h.ox_id (cmnd_of f)))
        (alike_stored p i _ (found_below empty_login (has_address from) p.logins at) (moves_alike u (login_at p i) place h.ox_id (cmnd_of f) (execute_moves u (login_at p i) place h.ox_id (cmnd_of f))))

    -- from a paired login: no login changes but in its attention and exchanges
    pub command_paired : Paired true → Same (command_of u p h f)
    command_paired r = paired_is r Same commanded_same

  -- as a turn, told on what the sender sees
  module _ (fine : all (login_fine u p.address) p.logins ≡ true) where
    abbrev v : View
    v = view_of u p from

    task_another : (b : ℕ) {t : Result Task CmndFault} → Mild from t → (i : ℕ) (s : Served) → has_address b (login_at (changed_all Keep p) i) ≡ false → has_address b s.login ≡ false → Elsewhere p b (task_turn t (served_in i s))
    task_another b (fault k) i s x y = tt
    task_another b abort i s x y = tt
    task_another b reset i s x y = tt
    task_another b clear i s x y = tt
    task_another b execute i s x y = (x, y)

    -- it stores nothing of another address
    pub command_another : (b : ℕ) → (b ≡ from → ⊥) → Elsewhere p b (command_turn v h f)
    unfolding command_turn commanded_turn
    command_another b n = on_found_lem (Elsewhere p b) v.seat _ _ (λ i e. on_cond (Elsewhere p b) (eqb v.login.paired 1) (at i e) tt) (λ _. tt)
      where
        place : Option ℕ
        place = find_exchange v.login h.ox_id

        at : (i : ℕ) → v.seat ≡ Some i → Elsewhere p b (task_turn (task_of (cmnd_of f) (length f) from) (served_in i (execute_of v.unit v.login place h.ox_id (cmnd_of f))))
        at i e =
            let seat = sym (view_seat u p from fine) ∙ e in
            task_another b (task_mild (cmnd_of f) (length f) from) i _ (seat_another p b from i Keep n seat)
            (alike_has (moves_alike v.unit v.login place h.ox_id (cmnd_of f) (execute_moves v.unit v.login place h.ox_id (cmnd_of f))) b
            ∙ ap (has_address b) (view_login u p from fine i seat) ∙ other_has b from (login_at p i) n (found_has p from i seat))

    task_leaves : (b : ℕ) {t : Result Task CmndFault} → Mild from t → (i : ℕ) (s : Served) → LeavesLogin p b (task_turn t (served_in i s))
    task_leaves b (fault k) i s = tt
    task_leaves b abort i s = tt
    task_leaves b reset i s = tt
    task_leaves b clear i s = tt
    task_leaves b execute i s = tt

    -- and ends no login of it
    pub command_leaves : (b : ℕ) → (b ≡ from → ⊥) → LeavesLogin p b (command_turn v h f)
    unfolding command_turn commanded_turn
    command_leaves b n =
        on_found_lem (LeavesLogin p b) v.seat _ _ (λ i e. on_cond (LeavesLogin p b) (eqb v.login.paired 1) (task_leaves b (task_mild (cmnd_of f) (length f) from) i _) n) (λ _. n)
