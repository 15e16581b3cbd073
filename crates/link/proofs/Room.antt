-- The room test, once the logins of an address and of a port name have ended: where it fails nothing ended, and where a login has the name it cannot fail. Assumes nothing.
use Rattle.std.specs.Prelude.{Option, Some, None}
use Prim.Native.Nat.{ℕ}
use mathlib.Core.Path.{◌≡◌, refl, ap}
use mathlib.Core.Bool.{Bool, true, false, cond, not}
use mathlib.Core.List.{List, [], ◌∷◌, map}
use lib.ListN.{get_or}
use borrow.Author.Tests.{not-true}
use Rattle.tables.specs.Lists.{all}
use Rattle.tables.proofs.Bools.{and_left, and_right, and_both, or_right}
use Rattle.tables.proofs.Keeping.{all_at}
use Rattle.tables.proofs.Searches.{found_below, missed}
use Rattle.state.specs.declared.Login.{Login}
use Rattle.state.specs.declared.Port.{Port}
use Rattle.state.specs.declared.Change.TheVariants.{EndHost}
use Rattle.state.specs.Changes.{empty_login, has_address, has_name, is_host, login_at, host_ended, with_logins, changed_all}
use Rattle.state.specs.Tables.{is_free, find_login, free_login, login_in, login_of}

module _ (a n : ℕ) where
  -- a place that is in use after the end of a host is not that host's
  used_after : (l : Login) → not (is_free (host_ended a n l)) ≡ true → not (is_host a n l) ≡ true
  unfolding host_ended
  used_after l h = by (is_host a n l) h
    where
      by : (b : Bool) → not (is_free (cond b empty_login l)) ≡ true → not b ≡ true
      by true e = e
      by false e = refl

  stays : (l : Login) → not (is_host a n l) ≡ true → host_ended a n l ≡ l
  unfolding host_ended
  stays l e = rw (not-true (is_host a n l) e)

  none_host : (ls : List Login) → all (λ l. not (is_free l)) (map (host_ended a n) ls) ≡ true → all (λ l. not (is_host a n l)) ls ≡ true
  none_host [] h = refl
  none_host (l ∷ ls) h =
      and_both (used_after l (and_left (not (is_free (host_ended a n l))) (all (λ m. not (is_free m)) (map (host_ended a n) ls)) h))
      (none_host ls (and_right (not (is_free (host_ended a n l))) (all (λ m. not (is_free m)) (map (host_ended a n) ls)) h))

  all_stay : (ls : List Login) → all (λ l. not (is_host a n l)) ls ≡ true → map (host_ended a n) ls ≡ ls
  all_stay [] h = refl
  all_stay (l ∷ ls) h =
      rw (stays l (and_left (not (is_host a n l)) (all (λ m. not (is_host a n m)) ls) h), all_stay ls (and_right (not (is_host a n l)) (all (λ m. not (is_host a n m)) ls) h))

module _ (p : Port) (a n : ℕ) (full : free_login (changed_all (EndHost a n) p) ≡ None) where
  strangers : all (λ l. not (is_host a n l)) p.logins ≡ true
  unfolding free_login changed_all
  strangers = none_host a n p.logins (missed is_free (map (host_ended a n) p.logins) full)

  -- after a 09,29 nothing ended
  pub full_none : changed_all (EndHost a n) p ≡ p
  unfolding changed_all
  full_none = ap (with_logins p) (all_stay a n p.logins strangers)

  -- "The room test cannot fail after a match": no login has the name
  pub full_unnamed : (b : ℕ) → has_name n (login_of p b) ≡ false
  unfolding login_of find_login login_at has_name
  full_unnamed b = by (find_login p b) refl
    where
      by : (f : Option ℕ) → find_login p b ≡ f → has_name n (login_in p f) ≡ false
      by (Some i) g =
          let l = get_or p.logins i empty_login in
          or_right (has_address a l) (has_name n l) (not-true (is_host a n l) (all_at (λ m. not (is_host a n m)) empty_login p.logins i (found_below empty_login (has_address b) p.logins g) strangers))
      by None g = refl
