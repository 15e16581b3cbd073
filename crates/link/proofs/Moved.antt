-- A PLOGI and the logins of other addresses (document 02, request 1): accepted, it ends the login of its port name and no other's; rejected, none. Assumes nothing.
use Rattle.std.specs.Prelude.{Some, Ok, Err, Result, ⊤}
use Rattle.params.specs.declared.Fault.{Fault}
use Prim.Native.Nat.{ℕ}
use mathlib.Core.Path.{◌≡◌, refl, sym, ap, ◌∙◌}
use mathlib.Core.Bool.{Bool, true, false, cond, or-true}
use mathlib.Core.List.{List}
use lib.Dec.{eqb}
use lib.ListN.{length}
use Rattle.tables.specs.Lists.{pairs}
use Rattle.frame.specs.declared.Header.{Header}
use Rattle.params.specs.Words.{params_of, verdict_of}
use Rattle.state.specs.declared.Port.{Port}
use Rattle.state.specs.declared.Change.TheVariants.{EndLogin, EndHost}
use Rattle.state.specs.Changes.{empty_login, is_used, has_address, has_name, with_login, ended_of, host_ended}
use Rattle.state.specs.Tables.{login_of}
use Rattle.formed.specs.Formed.{apart_login}
use Rattle.calls.proofs.Others.{free_has, other_has, changed_sees, stored_sees, place_another}
use Rattle.link.specs.Link.{new_login}
use Rattle.link.specs.Login.{named_in, host_gone, left_after, left_by, Accepts}
use Rattle.link.specs.Record.{out, held, kept_from, record_of}
use Rattle.link.proofs.Records.{record_in, record_is, login_has, host_record, place_record}
use Rattle.link.proofs.Services.{new_has, new_record}

-- the login of an address has no other
other_address : (p : Port) (a b : ℕ) → (b ≡ a → ⊥) → has_address a (login_of p b) ≡ false
other_address p a b n = by (is_used (login_of p b)) refl
  where
    by : (t : Bool) → is_used (login_of p b) ≡ t → has_address a (login_of p b) ≡ false
    by true u = other_has a b (login_of p b) (λ e. n (sym e)) (login_has p b ∙ u)
    by false u = free_has a (login_of p b) u

module _ (p : Port) (d : pairs apart_login p.logins ≡ true) (h : Header) (f : List ℕ) where
  abbrev from : ℕ
  from = h.s_id

  -- an accepted one
  module _ (a : Accepts p h f) where
    abbrev after : Port
    after = with_login (host_gone p h f) a.place (new_login from (params_of f 28))

    -- the sender's record is held, with the parameters sent
    pub moved_in : record_of after from ≡ held false true (kept_from (params_of f 28))
    moved_in =
        place_record (host_gone p h f) from a.place (new_login from (params_of f 28)) a.free (new_has from (params_of f 28)) (host_record p d from (named_in f)) ∙ new_record from (params_of f 28)

    module _ (b : ℕ) (n : b ≡ from → ⊥) where
      ends_host : login_of after b ≡ host_ended from (named_in f) (login_of p b)
      ends_host =
          let new = new_login from (params_of f 28) in
          stored_sees (host_gone p h f) b (Some a.place) new (place_another (host_gone p h f) b a.place a.free, other_has b from new n (new_has from (params_of f 28)))
          ∙ changed_sees p d (EndHost from (named_in f)) b

      -- the login of its port name at another address has ended, with its exchanges, and its record is `out`
      pub moved_login : has_name (named_in f) (login_of p b) ≡ true → login_of after b ≡ empty_login
      unfolding host_ended
      moved_login k = ends_host ∙ rw (k, or-true (has_address from (login_of p b)))

      pub moved_out : has_name (named_in f) (login_of p b) ≡ true → record_of after b ≡ out
      moved_out k = record_is after b ∙ ap record_in (moved_login k)

      -- and every other login is as it was
      pub others_stay : has_name (named_in f) (login_of p b) ≡ false → login_of after b ≡ login_of p b
      unfolding host_ended
      others_stay k = ends_host ∙ rw (other_address p from b n, k)

  -- a rejected one leaves the logins of all others
  pub rejected_alone : (b : ℕ) → (b ≡ from → ⊥) → login_of (left_by p h f) b ≡ login_of p b
  unfolding ended_of
  rejected_alone b n = by (eqb (length f) 140) (verdict_of (params_of f 28))
    where
      by : (s : Bool) (v : Result ⊤ Fault) → login_of (cond s (left_after v p h) p) b ≡ login_of p b
      by true (Ok tt) = refl
      by true (Err t) = changed_sees p d (EndLogin from) b ∙ rw (other_address p from b n)
      by false v = refl
