-- What a decision makes of a port, told by what changes, is what it makes of the whole port. Assumes nothing.
use Rattle.std.specs.Prelude.{Option, Some, None}
use Prim.Native.Nat.{ℕ}
use mathlib.Core.Path.{◌≡◌, refl, ap, ◌∙◌}
use mathlib.Core.Bool.{Bool, true, false, cond}
use mathlib.Core.List.{map-id}
use lib.Seq.{set-get_or}
use Rattle.tables.specs.Lists.{all, on_found}
use Rattle.refusal.specs.declared.Refusal.{Refusal}
use Rattle.state.specs.declared.Login.{Login}
use Rattle.state.specs.declared.Port.{Port}
use Rattle.state.specs.declared.Unit.{Unit}
use Rattle.state.specs.declared.Change.{Change}
use Rattle.state.specs.declared.Change.TheVariants.{Keep}
use Rattle.state.specs.Changes.{empty_login, login_at, with_logins, with_login, changed_all}
use Rattle.state.specs.Tables.{find_login}
use Rattle.formed.specs.Formed.{login_fine}
use Rattle.reply.specs.declared.Reply.{Reply}
use Rattle.calls.specs.declared.Served.{Served}
use Rattle.calls.specs.declared.Decision.{Decision}
use Rattle.calls.specs.View.{view_of}
use Rattle.calls.specs.Turn.{Decided, decided_as, served_at, changes, answers_only, stores, served_in, refused_turn, port_after, decided_by}
use Rattle.calls.proofs.Views.{view_seat}

-- what holds at both ends of a choice, each where the test says so, holds of the choice
pub by_cond : {A : Type 0} (P : A → Type 0) (b : Bool) {x y : A} → (b ≡ true → P x) → (b ≡ false → P y) → P (cond b x y)
by_cond P true h k = h refl
by_cond P false h k = k refl

pub on_cond : {A : Type 0} (P : A → Type 0) (b : Bool) {x y : A} → P x → P y → P (cond b x y)
on_cond P b h k = by_cond P b (λ _. h) (λ _. k)

-- and so of a choice by whether a place is found
pub on_found_lem : {A : Type 0} (P : A → Type 0) (f : Option ℕ) (t : ℕ → A) (e : A) → ((i : ℕ) → f ≡ Some i → P (t i)) → (f ≡ None → P e) → P (on_found f t e)
on_found_lem P (Some i) t e h k = h i refl
on_found_lem P None t e h k = k refl

module _ (p : Port) where
  -- a change that keeps every login
  pub keep_is : changed_all Keep p ≡ p
  unfolding changed_all
  keep_is = ap (with_logins p) (map-id p.logins)

  -- a login stored where it stood
  pub stays_put : (i : ℕ) → with_login p i (login_at p i) ≡ p
  unfolding with_login login_at
  stays_put i = ap (with_logins p) (set-get_or p.logins i empty_login)

  -- the answers: no change, a login stored, a service on the login at a place, a change of every login
  pub answers_is : (r : Reply) → decided_by p (answers_only r) ≡ decided_as r p
  answers_is r = ap (decided_as r) keep_is

  pub stores_is : (r : Reply) (i : ℕ) (l : Login) → decided_by p (stores r i l) ≡ decided_as r (with_login p i l)
  stores_is r i l = ap (λ (q : Port). decided_as r (with_login q i l)) keep_is

  pub served_is : (i : ℕ) (s : Served) → decided_by p (served_in i s) ≡ served_at p i s
  served_is i s = stores_is s.reply i s.login

  pub changes_is : (r : Reply) (c : Change) → decided_by p (changes r c) ≡ decided_as r (changed_all c p)
  changes_is r c = refl

  -- one of two answers
  pub either_is : (b : Bool) (t u : Decision) {d e : Decided} → decided_by p t ≡ d → decided_by p u ≡ e → decided_by p (cond b t u) ≡ cond b d e
  either_is true t u x y = x
  either_is false t u x y = y

  -- a refusal leaves the port
  pub refused_stays : (x : Refusal) → port_after p (refused_turn x) ≡ p
  refused_stays x = keep_is

-- an answer by whether the caller's login is found
pub found_is : (u : Unit) (p : Port) (a : ℕ) → all (login_fine u p.address) p.logins ≡ true → (t : ℕ → Decision) (e : Decision) (g : ℕ → Decided) {d : Decided}
    → ((i : ℕ) → find_login p a ≡ Some i → decided_by p (t i) ≡ g i) → decided_by p e ≡ d → decided_by p (on_found (view_of u p a).seat t e) ≡ on_found (find_login p a) g d
found_is u p a fine t e g {d} x y = ap (λ (f : Option ℕ). decided_by p (on_found f t e)) (view_seat u p a fine) ∙ step (find_login p a) refl
  where
    step : (f : Option ℕ) → find_login p a ≡ f → decided_by p (on_found f t e) ≡ on_found f g d
    step (Some i) h = x i h
    step None h = y
