-- When a port login is accepted and when it is rejected, as the theorems say it (document 01, "Link services", PLOGI; document 02, request 1).
use Rattle.std.specs.Prelude.{ℕ, ◌≡◌, true, false, cond, List, eqb, length, get_or, Some, None, Ok, Err, Result, ⊤}
use Rattle.tables.specs.Firsts.{IsFirst}
use Rattle.wire.specs.Bytes.{name_of}
use Rattle.frame.specs.declared.Header.{Header}
use Rattle.params.specs.declared.Fault.{Fault}
use Rattle.params.specs.Words.{params_of, fails, faults, verdict_of, reason_of}
use Rattle.state.specs.declared.Port.{Port}
use Rattle.state.specs.declared.Change.TheVariants.{EndLogin, EndHost}
use Rattle.state.specs.Changes.{has_name, changed_all}
use Rattle.state.specs.Tables.{free_login, login_of}

-- the port name W5-6 that a PLOGI carries, as a number
abbrev pub named_in : List ℕ → ℕ
named_in f = name_of (params_of f 28).port_name

-- the table once the sender's login has ended, and no other
abbrev pub ended : Port → Header → Port
ended p h = changed_all (EndLogin h.s_id) p

-- the table once the sender's login has ended, and the login of its port name, if that stands at another address: "before the room test" (02, 1)
abbrev pub host_gone : Port → Header → List ℕ → Port
host_gone p h f = changed_all (EndHost h.s_id (named_in f)) p

-- the table after a rejected PLOGI of right size: a word test that fails ends the sender's login and no other; where no place is free, nothing changed
abbrev pub left_after : Result ⊤ Fault → Port → Header → Port
left_after (Ok tt) p h = p
left_after (Err t) p h = ended p h

-- of wrong size it changes nothing
abbrev pub left_by : Port → Header → List ℕ → Port
left_by p h f = cond (eqb (length f) 140) (left_after (verdict_of (params_of f 28)) p h) p

-- what an accepted PLOGI has: the right size, no word test that fails, and "a free place" once the logins of the sender and of its port name have ended, the lowest one
pub record Accepts (p : Port) (h : Header) (f : List ℕ) : Type 0 where
  pub size : length f ≡ 140
  pub tests : (t : Fault) → fails (params_of f 28) t ≡ false
  pub place : ℕ
  pub free : free_login (host_gone p h f) ≡ Some place

-- what a rejected one has, with its reason and explanation: "wrong size 03,00", the first word test that fails, or no "free place, else 09,29"
pub data Rejects (p : Port) (h : Header) (f : List ℕ) : ℕ → ℕ → Type 0 where
  wrong_size : (length f ≡ 140 → ⊥) → Rejects p h f 0x03 0x00
  test_fails : length f ≡ 140 → (t : Fault) → IsFirst (fails (params_of f 28)) faults t → Rejects p h f (reason_of t).reason (reason_of t).explanation
  no_place : length f ≡ 140 → ((t : Fault) → fails (params_of f 28) t ≡ false) → free_login (host_gone p h f) ≡ None → Rejects p h f 0x09 0x29

-- the host of address a has moved: the frame is a PLOGI of right size "whose parameters pass", with the port name of a's login
pub record Moves (p : Port) (a : ℕ) (h : Header) (f : List ℕ) : Type 0 where
  pub link : h.r_ctl ≡ 0x22
  pub plogi : get_or f 24 0 ≡ 3
  pub size : length f ≡ 140
  pub tests : (t : Fault) → fails (params_of f 28) t ≡ false
  pub name : has_name (named_in f) (login_of p a) ≡ true
