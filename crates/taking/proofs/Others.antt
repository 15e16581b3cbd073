-- A data frame changes exchanges of its sender's login alone. Assumes nothing.
use Rattle.std.specs.Prelude.{Option, Some, None, Ok, Err, Result}
use Prim.Native.Nat.{ℕ, ◌<◌}
use mathlib.Core.Path.{◌≡◌, refl, sym, ap, ◌∙◌}
use mathlib.Core.Bool.{true}
use mathlib.Core.List.{List, []}
use native.Mathlib.Decide.{ℕ_discrete}
use lib.ListN.{length}
use Rattle.tables.specs.Lists.{all}
use Rattle.tables.proofs.Searches.{found_below, same_found}
use Rattle.frame.specs.declared.Header.{Header}
use Rattle.refusal.specs.declared.Refusal.{Refusal}
use Rattle.refusal.specs.declared.Refusal.TheVariants as refusal
use Rattle.reply.specs.Reply.{sent_of}
use Rattle.state.specs.declared.Exchange.{Exchange}
use Rattle.state.specs.declared.Login.{Login}
use Rattle.state.specs.declared.Port.{Port}
use Rattle.state.specs.declared.Unit.{Unit}
use Rattle.state.specs.declared.Change.TheVariants.{Keep}
use Rattle.state.specs.Changes.{empty_login, own_of, has_address, login_at, with_places, with_login, with_exchange, changed_all}
use Rattle.state.specs.Tables.{find_login, login_in, login_of}
use Rattle.state.proofs.Places.{found_has, stored_at, login_other}
use Rattle.formed.specs.Formed.{login_fine}
use Rattle.calls.specs.declared.View.{View}
use Rattle.calls.specs.declared.Turn.{Turn}
use Rattle.calls.specs.View.{view_of}
use Rattle.calls.specs.Turn.{Decided, served_in, refused_turn, sent_turn}
use Rattle.calls.specs.Others.{Another}
use Rattle.calls.proofs.Views.{view_seat, view_login}
use Rattle.calls.proofs.Decisions.{on_found_lem}
use Rattle.calls.proofs.Others.{other_has, seat_another}
use Rattle.taking.specs.declared.Step.{Step}
use Rattle.taking.specs.declared.Untaken.{Untaken}
use Rattle.taking.specs.declared.Step.TheVariants.{Fault, Take}
use Rattle.taking.specs.declared.Untaken.TheVariants.{NoWrite, Uncovered}
use Rattle.taking.specs.Taking.{data_size, step_in, on_step, served_by, served_data, data_decided, taking_turn}

-- a login with other exchanges: nothing of its record changes
pub data Exchanged (l : Login) : Login → Type 0 where
  exchanged : (es : List Exchange) → Exchanged l (with_places l es)

itself : (l : Login) → Exchanged l l
itself l = exchanged l.places

pub exchanged_has : {l m : Login} → Exchanged l m → (a : ℕ) → has_address a m ≡ has_address a l
unfolding has_address
exchanged_has (exchanged es) a = refl

-- what a data frame makes of a login
step_exchanges : (s : Result Step Untaken) (l : Login) (n : ℕ) → Exchanged l (served_by s l n).login
unfolding with_exchange
step_exchanges (Err NoWrite) l n = itself l
step_exchanges (Ok (Fault j code)) l n = exchanged _
step_exchanges (Err Uncovered) l n = itself l
step_exchanges (Ok (Take j k)) l n = exchanged _

pub served_exchanges : (l : Login) (h : Header) (size start len : ℕ) → Exchanged l (served_data l h size start len).login
unfolding served_data
served_exchanges l h size start len = step_exchanges (step_in l h size start len) l (data_size h size)

-- such a login stored where it stood: that of every address is found where it was, with its own fields
module _ (p : Port) (i : ℕ) (m : Login) (x : Exchanged (login_at p i) m) where
  found_stored : (b : ℕ) → find_login (with_login p i m) b ≡ find_login p b
  unfolding find_login with_login login_at
  found_stored b = same_found empty_login (has_address b) p.logins i m (exchanged_has x b)

  module _ (below : i < length p.logins) where
    at_stored : (j : ℕ) → Exchanged (login_at p j) (login_at (with_login p i m) j)
    at_stored j =
        elim (ℕ_discrete j i) [
          | yes e ↦ rw (e, stored_at p i m below) x
          | no n ↦ rw (login_other p i j m n) (itself (login_at p j))
        ]

    stored_exchanges : (b : ℕ) → Exchanged (login_of p b) (login_of (with_login p i m) b)
    unfolding login_of
    stored_exchanges b = rw (found_stored b) (by (find_login p b))
      where
        by : (f : Option ℕ) → Exchanged (login_in p f) (login_in (with_login p i m) f)
        by (Some j) = at_stored j
        by None = itself empty_login

module _ (p : Port) (h : Header) (size start len : ℕ) where
  abbrev Finds : ℕ → Decided → Type 0
  Finds b d = find_login d.port b ≡ find_login p b

  abbrev Same : ℕ → Decided → Type 0
  Same b d = Exchanged (login_of p b) (login_of d.port b)

  abbrev OwnSame : Decided → Type 0
  OwnSame d = own_of d.port ≡ own_of p

  -- the login of every address stands where it stood
  pub data_found : (b : ℕ) → find_login (data_decided p h size start len).port b ≡ find_login p b
  unfolding data_decided
  data_found b = on_found_lem (Finds b) (find_login p h.s_id) _ _ (λ i at. found_stored p i _ (served_exchanges (login_at p i) h size start len) b) (λ _. refl)

  -- with other exchanges at most, and so of the same record
  pub data_exchanges : (b : ℕ) → Exchanged (login_of p b) (login_of (data_decided p h size start len).port b)
  unfolding data_decided find_login
  data_exchanges b =
      on_found_lem (Same b) (find_login p h.s_id) _ _
      (λ i at. stored_exchanges p i _ (served_exchanges (login_at p i) h size start len) (found_below empty_login (has_address h.s_id) p.logins at) b) (λ _. itself (login_of p b))

  -- our address and accept words are the same
  pub data_own : own_of (data_decided p h size start len).port ≡ own_of p
  unfolding data_decided with_login own_of
  data_own = on_found_lem OwnSame (find_login p h.s_id) _ _ (λ _ _. refl) (λ _. refl)

-- as a turn, on whatever is seen: a refusal, or the sender's login as it was served
taking_cases : (P : Turn → Type 0) (v : View) (h : Header) (size start len room : ℕ) → ((x : Refusal) → P (refused_turn x))
    → ((i n : ℕ) → v.seat ≡ Some i → P (sent_turn n (served_in i (served_data v.login h size start len)))) → P (taking_turn v h size start len room)
unfolding taking_turn
taking_cases P v h size start len room refuses serves = on_found_lem P v.seat _ _ (λ i at. by i at (step_in v.login h size start len)) (λ _. refuses refusal.NoWrite)
  where
    by : (i : ℕ) → v.seat ≡ Some i → (s : Result Step Untaken) → P (on_step s refused_turn (sent_turn (sent_of v.own h (served_data v.login h size start len).reply [] room) (served_in i (served_data v.login h size start len))))
    by i at (Err NoWrite) = refuses refusal.NoWrite
    by i at (Ok (Fault j code)) = serves i _ at
    by i at (Err Uncovered) = refuses refusal.BadWindow
    by i at (Ok (Take j k)) = serves i _ at

-- no change of every login
pub taking_keeps : (v : View) (h : Header) (size start len room : ℕ) → (taking_turn v h size start len room).change ≡ Keep
taking_keeps v h size start len room = taking_cases (λ t. t.change ≡ Keep) v h size start len room (λ _. refl) (λ _ _ _. refl)

-- and told on what the sender sees it stores nothing of another address
pub taking_another : (u : Unit) (p : Port) → all (login_fine u p.address) p.logins ≡ true → (h : Header) (size start len room b : ℕ) → (b ≡ h.s_id → ⊥)
    → let t = taking_turn (view_of u p h.s_id) h size start len room in Another (changed_all t.change p) b t.at t.login
taking_another u p fine h size start len room b n =
    let from = h.s_id in
    let v = view_of u p from in
    taking_cases (λ t. Another (changed_all t.change p) b t.at t.login) v h size start len room (λ _. tt)
    (λ i _ e. let seat = sym (view_seat u p from fine) ∙ e in (
      seat_another p b from i Keep n seat,
      exchanged_has (served_exchanges v.login h size start len) b ∙ ap (has_address b) (view_login u p from fine i seat) ∙ other_has b from (login_at p i) n (found_has p from i seat),
    ))
