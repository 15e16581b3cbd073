-- What a command makes of its sender's login: one of four things. Assumes nothing.
use Rattle.std.proofs.lemmas.Result.{IfOk-at_ok}
use Rattle.std.specs.Result.{IfOk}
use Rattle.std.specs.Prelude.{Option, Some, None, Ok, Err, Result}
use mathlib.Core.Path.{◌≡◌, refl}
use mathlib.Core.Bool.{Bool, true, false, cond}
use Prim.Native.Nat.{ℕ}
use lib.Dec.{eqb}
use borrow.Author.Tests.{eqb-false}
use Rattle.tables.specs.Lists.{on_found}
use Rattle.state.specs.declared.Exchange.{Exchange}
use Rattle.state.specs.declared.Login.{Login}
use Rattle.state.specs.declared.Unit.{Unit}
use Rattle.state.specs.Changes.{with_attention, with_exchange, ended_at}
use Rattle.state.specs.Tables.{free_exchange}
use Rattle.formed.specs.Formed.{total}
use Rattle.reply.specs.declared.Reply.{Reply}
use Rattle.reply.specs.declared.Reply.TheVariants as reply
use Rattle.calls.specs.declared.Served.{Served}
use Rattle.calls.specs.Turn.{served_as}
use Rattle.calls.proofs.Decisions.{by_cond, on_cond, on_found_lem}
use Rattle.command.specs.declared.Cmnd.{Cmnd}
use Rattle.command.specs.declared.Check.{Check}
use Rattle.command.specs.declared.Check.TheVariants.{OtherUnit, Attention, UnknownCode, Protected, WrongField, Outside}
use Rattle.command.specs.Cdb.{operation_of, wrong_field}
use Rattle.command.specs.Tests.{other_unit, attends, unknown, protected, outside, exchange_for, tested_by, asked_of}
use Rattle.command.specs.Command.{refused_with, reports, told_of, bit_for, opened_of, answered_as, execute_of}

-- a wanted exchange is the command's own, and tests 5 and 7 let it through
pub record Passed (u : Unit) (attention ox : ℕ) (c : Cmnd) (e : Exchange) : Type 0 where
  pub is : e ≡ exchange_for (operation_of c.cdb) attention ox c.lun c.expected
  pub allowed : protected u (operation_of c.cdb) ≡ false
  pub within : outside u (operation_of c.cdb) ≡ false

pub wants_passed : (u : Unit) (attention ox : ℕ) (c : Cmnd) → IfOk (asked_of u attention ox c) (Passed u attention ox c)
unfolding asked_of tested_by
wants_passed u attention ox c =
    let o = operation_of c.cdb in
    on_cond Through (other_unit o c.lun) {x = Err OtherUnit} tt
    (on_cond Through (attends o attention) {x = Err (Attention attention)} tt
    (on_cond Through (unknown o) {x = Err UnknownCode} tt
    (by_cond Through (protected u o) {x = Err Protected} (λ _. tt)
    (λ a. on_cond Through (wrong_field o c.cdb) {x = Err WrongField} tt
    (by_cond Through (outside u o) {x = Err Outside} {y = Ok (exchange_for o attention ox c.lun c.expected)} (λ _. tt)
    (λ w. record { is = refl; allowed = a; within = w }))))))
  where
    Through : Result Exchange Check → Type 0
    Through r = IfOk r (Passed u attention ox c)

-- by the place where test 1 found the OX_ID
module _ (u : Unit) (l : Login) (place : Option ℕ) (ox : ℕ) (c : Cmnd) where
  -- it is as it was, an exchange ended, its attention was reported, or an exchange opened and perhaps reports it
  pub data Moves : Login → Type 0 where
    same : Moves l
    ends : (j : ℕ) → Moves (ended_at l j)
    tells : Moves (with_attention l 0)
    opens : (b : Bool) (j : ℕ) (e : Exchange) → Passed u l.attention ox c e → (total e ≡ 0 → ⊥) → place ≡ None → Moves (with_exchange (cond b (with_attention l 0) l) j e)

  abbrev Moved : Served → Type 0
  Moved s = Moves s.login

  answer_moves : (e : Exchange) → Passed u l.attention ox c e → place ≡ None → Moved (opened_of l c e)
  unfolding opened_of told_of
  answer_moves e p none = by (eqb (total e) 0) (bit_for e c) (free_exchange l) _ _ _ refl
    where
      opened : ℕ → Served
      opened j = served_as reply.Nothing (with_exchange (cond (reports e.kind) (with_attention l 0) l) j e)

      by : (b r : Bool) (g : Option ℕ) (x y z : Reply) → eqb (total e) 0 ≡ b → Moved (cond b (served_as x l) (cond r (on_found g opened (served_as y l)) (served_as z l)))
      by true r g x y z n = same
      by false true (Some j) x y z n = opens (reports e.kind) j e p (eqb-false (total e) 0 n) none
      by false true None x y z n = same
      by false false g x y z n = same

  asked_moves : (a : Result Exchange Check) → asked_of u l.attention ox c ≡ a → place ≡ None → Moved (answered_as a l c)
  unfolding refused_with
  asked_moves (Err (Attention code)) e none = tells
  asked_moves (Err check) e none = same
  asked_moves (Ok d) e none = answer_moves d (IfOk-at_ok (Passed u l.attention ox c) e (wants_passed u l.attention ox c)) none

  pub execute_moves : Moved (execute_of u l place ox c)
  unfolding execute_of refused_with
  execute_moves = on_found_lem Moved place _ _ (λ j _. ends j) (λ none. asked_moves (asked_of u l.attention ox c) refl none)
