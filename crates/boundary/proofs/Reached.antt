-- A loop over the logins whose places are marked: at place i the logins before it are done, and the change is still to go over the others. Assumes nothing.
use Rattle.std.specs.Prelude.{Option, Some, None}
use Prim.Native.Nat.{ℕ, zero, suc, ◌+◌, ◌≤◌, ◌<◌}
use mathlib.Core.Path.{◌≡◌, refl, sym, ap, ◌∙◌, subst}
use mathlib.Core.Bool.{Bool, true, false, cond, not, ◌&&◌}
use mathlib.Core.List.{List, [], ◌∷◌, ◌++◌, append_assoc, append-nil}
use native.Mathlib.Numerals.{add-one}
use native.Mathlib.Nat.{le_refl}
use native.Mathlib.Omega.{arith}
use lib.Dec.{T, eqb}
use borrow.Author.Tests.{eqb-true, eq-eqb}
use lib.ListN.{length, get_or, set, take, drop, drop_of_length-le, length-set}
use Rattle.std.proofs.lemmas.List.{get_or-map, length-map, get_or-set_same, get_or-set_other}
use lib.Seq.{drop-cons, take_all, take-suc, take-suc-set, drop-set-lt, set_out}
use Rattle.tables.specs.Lists.{on_found}
use Rattle.state.specs.declared.Login.{Login}
use Rattle.state.specs.declared.Port.{Port}
use Rattle.state.specs.declared.Change.{Change}
use Rattle.state.specs.Changes.{no_login, with_logins, with_login, changed_of}
use Rattle.state.specs.Tables.{login_in}
use Rattle.calls.specs.Turn.{stored_at, AtBelow}
use Rattle.calls.proofs.Seats.{login_here}
use Rattle.drive.specs.Turn.{unproven_at}
use Rattle.formed.specs.declared.Key.{Key}
use Rattle.formed.proofs.Keys.{no_key}
use Rattle.boundary.specs.Settled.{reaches, marks_of, spared_marks, reached_by, reached_of}

-- ls are the logins now, and whole what they are to be
pub record Reached (c : Change) (ms : List Bool) (whole ls : List Login) (i : ℕ) : Type 0 where
  pub bound : i ≤ 8
  pub long : length ls ≡ 8
  pub rest : whole ≡ take i ls ++ reached_by c (drop i ms) (drop i ls)

module _ {c : Change} {ms : List Bool} (len : length ms ≡ 8) where
  pub reached_starts : {ls : List Login} → length ls ≡ 8 → Reached c ms (reached_by c ms ls) ls 0
  reached_starts long = record { bound = omega arith; long = long; rest = refl }

  module _ {whole ls : List Login} where
    -- a place that is not marked is passed over
    pub reached_pass : {i : ℕ} → i < 8 → get_or ms i false ≡ false → Reached c ms whole ls i → Reached c ms whole ls (i + 1)
    reached_pass {i} h e s =
        let k : i < length ms = rw len h in
        let l : i < length ls = rw s.long h in
        record { bound = omega arith; long = s.long; rest = s.rest ∙ rw (add-one, drop-cons ms i false k, drop-cons ls i no_login l, take-suc ls i no_login l, e, append_assoc) }

    -- the login at a place that is marked is changed
    pub reached_store : {i : ℕ} {m : Login} → i < 8 → get_or ms i false ≡ true → m ≡ changed_of c (get_or ls i no_login) → Reached c ms whole ls i → Reached c ms whole (set ls i m) (i + 1)
    reached_store {i} {m} h e f s =
        let k : i < length ms = rw len h in
        let l : i < length ls = rw s.long h in
        record {
          bound = omega arith;
          long = length-set ls i m ∙ s.long;
          rest = s.rest ∙ rw (add-one, drop-cons ms i false k, drop-cons ls i no_login l, take-suc-set ls i m l, drop-set-lt (suc i) ls i m (le_refl (suc i)), e, f, append_assoc);
        }

    pub reached_out : {i : ℕ} → 8 ≤ i → Reached c ms whole ls i → ls ≡ whole
    reached_out {i} h s =
        let k : length ms ≤ i = rw len h in
        let l : length ls ≤ i = rw s.long h in
        sym (s.rest ∙ rw (take_all i ls l, drop_of_length-le ms k, drop_of_length-le ls l, append-nil))

-- the mark of a place does not matter where the login there is stored after
reached_spare : (c : Change) (ms : List Bool) (ls : List Login) (i : ℕ) (b : Bool) (l : Login) → set (reached_by c (set ms i b) ls) i l ≡ set (reached_by c ms ls) i l
reached_spare c [] ls i b l = refl
reached_spare c (x ∷ ms) [] zero b l = refl
reached_spare c (x ∷ ms) [] (suc i) b l = refl
reached_spare c (x ∷ ms) (y ∷ ls) zero b l = refl
reached_spare c (x ∷ ms) (y ∷ ls) (suc i) b l = ap (λ (ys : List Login). cond x (changed_of c y) y ∷ ys) (reached_spare c ms ls i b l)

-- so the place that is stored last may be spared
pub spared_last : (p : Port) (ms : List Bool) (c : Change) (l : Login) (f : Option ℕ) → stored_at f l (reached_of p (spared_marks ms f) c) ≡ stored_at f l (reached_of p ms c)
unfolding with_login reached_of
spared_last p ms c l (Some i) = ap (with_logins p) (reached_spare c ms p.logins i false l)
spared_last p ms c l None = refl

-- the port with a login at the place that is told, which may be past the table
module _ (p : Port) (l : Login) (f : Option ℕ) {i : ℕ} (e : f ≡ Some i) where
  pub stored_here : with_logins p (set p.logins i l) ≡ stored_at f l p
  unfolding with_login
  stored_here = rw e

  pub stored_past : length p.logins ≡ 8 → 8 ≤ i → p ≡ stored_at f l p
  unfolding with_login
  stored_past long h = rw e (ap (with_logins p) (sym (set_out p.logins i l (omega (arith, long, h)))))

-- a seat that is told is one of the table's eight
pub seat_below : (f : Option ℕ) {i : ℕ} → f ≡ Some i → AtBelow f → i < 8
seat_below f e h = subst AtBelow e h

-- whether the login there is unproven
pub seat_unproven : (p : Port) (f : Option ℕ) {i : ℕ} → f ≡ Some i → i < length p.logins → {b : Bool} → b ≡ unproven_at (Some i) (get_or p.logins i no_login).proven → b ≡ unproven_at f (login_in p f).proven
seat_unproven p f {i} e h eb = eb ∙ ap (λ (l : Login). unproven_at (Some i) l.proven) (login_here p (Some i) refl h) ∙ ap (λ (g : Option ℕ). unproven_at g (login_in p g).proven) (sym e)

-- and where there is none, no login is unproven
pub none_unproven : (p : Port) (f : Option ℕ) → f ≡ None → false ≡ unproven_at f (login_in p f).proven
unfolding unproven_at
none_unproven p f e = rw e

-- the mark of a place: the change reaches the login there, by its key, and the place is not spared
module _ (c : Change) (keys : List Key) (long : length keys ≡ 8) where
  abbrev marks : Option ℕ → List Bool
  marks f = spared_marks (marks_of c keys) f

  all_long : length (marks_of c keys) ≡ 8
  all_long = length-map keys (reaches c) ∙ long

  pub marks_long : (f : Option ℕ) → length (marks f) ≡ 8
  marks_long (Some i) = length-set (marks_of c keys) i false ∙ all_long
  marks_long None = all_long

  module _ (i : ℕ) (here : i < 8) where
    in_keys : i < length keys
    in_keys = rw long here

    in_marks : i < length (marks_of c keys)
    in_marks = rw all_long here

    by_key : get_or (marks_of c keys) i false ≡ reaches c (get_or keys i no_key)
    by_key = get_or-map (reaches c) keys i no_key false in_keys

    pub mark_at : (f : Option ℕ) → get_or (marks f) i false ≡ (not (on_found f (λ j. eqb j i) false) && reaches c (get_or keys i no_key))
    mark_at (Some j) = by (eqb j i) refl
      where
        by : (b : Bool) → eqb j i ≡ b → get_or (set (marks_of c keys) j false) i false ≡ (not b && reaches c (get_or keys i no_key))
        by true e = rw (eqb-true j i e) (get_or-set_same (marks_of c keys) i false false in_marks)
        by false e = get_or-set_other (marks_of c keys) j i false false (λ z. subst T (sym (eq-eqb j i (sym z)) ∙ e) tt) ∙ by_key
    mark_at None = by_key
