-- A table's test by the numbers or the keys of its places is the test of each place and of each two. Assumes nothing.
use Prim.Native.Nat.{ℕ, ◌+◌}
use mathlib.Core.Path.{◌≡◌, refl, sym, ap, ◌∙◌}
use mathlib.Core.List.{List, [], ◌∷◌, map}
use mathlib.Core.Bool.{Bool, true, false, cond, not, ◌&&◌, ◌||◌, and-false}
use native.Mathlib.Decide.{ℕ_discrete}
use native.Mathlib.Omega.{arith}
use lib.Dec.{eqb}
use borrow.Author.Tests.{eq-eqb, ne_eqb, not-true, not-false}
use Rattle.tables.specs.Lists.{all, pairs}
use Rattle.tables.proofs.Bools.{and_left, and_right}
use Rattle.tables.proofs.Keeping.{all_always}
use Rattle.wire.specs.Bytes.{name_of}
use Rattle.params.specs.Words.{size_fails, zero_name}
use Rattle.params.proofs.Names.{name_number}
use Rattle.state.specs.declared.Login.{Login}
use Rattle.state.specs.declared.Port.{Port}
use Rattle.state.specs.declared.Unit.{Unit}
use Rattle.state.specs.Changes.{is_used, is_closed, has_name, own_of}
use Rattle.state.specs.Tables.{is_free}
use Rattle.formed.specs.declared.Key.{Key}
use Rattle.formed.specs.Formed.{setup_rules, setup_of, full_frame, exchange_fine, apart_id, params_fine, login_fine, apart_login, well_formed}
use Rattle.formed.specs.Keys.{number_of, key_of, place_fine, places_fine, apart_number, numbers_fine, key_named, apart_key, keys_fine, exchange_number, login_key, keys_of, fine_by}
use Rattle.formed.proofs.Parts.{fine_used}

-- what reading past the end of a list of keys gives
abbrev pub no_key : Key
no_key = record { id = 0; name = 0 }

-- the keys of two places in use are the same exactly when the numbers are
pub two_more : (a b : ℕ) → eqb (2 + a) (2 + b) ≡ eqb a b
two_more a b =
    elim (ℕ_discrete a b) [
      | yes h ↦ eq-eqb (2 + a) (2 + b) (omega arith) ∙ sym (eq-eqb a b h)
      | no h ↦ ne_eqb (2 + a) (2 + b) (λ e. h (omega arith)) ∙ sym (ne_eqb a b h)
    ]

-- and no key of a place in use is 1, that of a free one, or 0
pub used_free : (a : ℕ) → eqb (2 + a) 1 ≡ false
used_free a = ne_eqb (2 + a) 1 (λ e. omega arith)

pub free_used : (a : ℕ) → eqb 1 (2 + a) ≡ false
free_used a = ne_eqb 1 (2 + a) (λ e. omega arith)

-- a free place has no name
free_unnamed : (m : ℕ) → (not (eqb m 0) && eqb 0 m) ≡ false
free_unnamed m =
    elim (ℕ_discrete m 0) [
      | yes h ↦ rw (eq-eqb m 0 h)
      | no h ↦ rw (ne_eqb m 0 h, ne_eqb 0 m (λ e. h (sym e)))
    ]

-- the number of a place in use, and that of one that is fine behind it: free, or another
number_apart : (g : Bool) (a b : ℕ) → apart_number (number_of true false a) (number_of true g b) ≡ (g || not (eqb a b))
number_apart true a b = rw (used_free a)
number_apart false a b = rw (two_more a b)

-- the key of a place in use that has a name, and one that is fine behind it: free, or with another number and another name
key_apart : (g : Bool) (a b m n : ℕ) → eqb m 0 ≡ false → apart_key (key_of true false a m) (key_of true g b n) ≡ (g || (not (eqb a b) && not (eqb m n)))
unfolding key_of apart_key
key_apart true a b m n h = rw (used_free a, h)
key_apart false a b m n h = rw (two_more a b)

-- places known by keys that have the numbers of the places, where two places that are fine, the first in use, are apart exactly when their keys are, and a free one is apart from all
module _ {A K : Type 0} (fine free : A → Bool) (id : A → ℕ) (apart : A → A → Bool) (key : A → K) (number : K → ℕ) (apart_keys : K → K → Bool)
    (numbered : (x : A) → number (key x) ≡ number_of (fine x) (free x) (id x))
    (two : (x y : A) → fine x ≡ true → free x ≡ false → fine y ≡ true → apart_keys (key x) (key y) ≡ apart x y)
    (alone : (x y : A) → free x ≡ true → apart x y ≡ true) where
  abbrev fine_by_key : A → List A → Bool
  fine_by_key x xs = place_fine number apart_keys (key x) (map key xs)

  abbrev fine_by_keys : List A → Bool
  fine_by_keys xs = places_fine number apart_keys (map key xs)

  -- a place that is fine and in use, before places that are fine
  key_before : (x : A) → fine x ≡ true → free x ≡ false → (xs : List A) → all fine xs ≡ true → all (apart_keys (key x)) (map key xs) ≡ all (apart x) xs
  key_before x h u [] e = refl
  key_before x h u (y ∷ ys) e =
      rw (two x y h u (and_left (fine y) (all fine ys) e), key_before x h u ys (and_right (fine y) (all fine ys) e))

  in_use : (x : A) → fine x ≡ true → free x ≡ false → (eqb (number (key x)) 0 ≡ false) × (eqb (number (key x)) 1 ≡ false)
  in_use x h u = rw (numbered x, h, u) (ne_eqb (2 + id x) 0 (λ e. omega arith), used_free (id x))

  key_here : (x : A) (xs : List A) (u : Bool) → free x ≡ u → fine x ≡ true → all fine xs ≡ true → fine_by_key x xs ≡ all (apart x) xs
  key_here x xs true u h e = rw (numbered x, h, u) (sym (all_always (apart x) (λ y. alone x y u) xs))
  key_here x xs false u h e = rw ((in_use x h u).0, (in_use x h u).1) (key_before x h u xs e)

  -- a place that is not fine
  key_fails : (x : A) (xs : List A) → fine x ≡ false → fine_by_key x xs ≡ false
  key_fails x xs h = rw (numbered x, h)

  keys_step : (x : A) (xs : List A) (f g : Bool) → fine x ≡ f → all fine xs ≡ g → fine_by_keys xs ≡ (g && pairs apart xs)
      → fine_by_keys (x ∷ xs) ≡ (all fine (x ∷ xs) && pairs apart (x ∷ xs))
  keys_step x xs false g h e r = rw (key_fails x xs h, h)
  keys_step x xs true false h e r = ap (λ (b : Bool). fine_by_key x xs && b) r ∙ and-false (fine_by_key x xs) ∙ rw (h, e)
  keys_step x xs true true h e r = ap (λ (b : Bool). fine_by_key x xs && b) r ∙ rw (key_here x xs (free x) refl h e, h, e)

  pub keys_are : (xs : List A) → fine_by_keys xs ≡ (all fine xs && pairs apart xs)
  keys_are [] = refl
  keys_are (x ∷ xs) = keys_step x xs (fine x) (all fine xs) refl refl (keys_are xs)

-- what the numbers of a login's exchanges say, where full is the bytes of a full frame to it
pub exchanges_are : (u : Unit) (full : ℕ) (l : Login) {ns : List ℕ} {r : Bool} → full ≡ full_frame l.size → ns ≡ map (exchange_number u full l.paired) l.places
    → r ≡ numbers_fine ns → r ≡ (all (exchange_fine u (full_frame l.size) l.paired) l.places && pairs apart_id l.places)
unfolding exchange_number apart_id
exchanges_are u full l f k e =
    e ∙ ap numbers_fine (k ∙ ap (λ (n : ℕ). map (exchange_number u n l.paired) l.places) f)
    ∙ keys_are (exchange_fine u (full_frame l.size) l.paired) is_closed (λ x. x.ox_id) apart_id (exchange_number u (full_frame l.size) l.paired) (λ n. n) apart_number
    (λ x. refl) (λ x y h c g. rw (h, c, g) (number_apart (is_closed y) x.ox_id y.ox_id)) (λ x y c. rw c) l.places

-- a login that is fine and in use has a name
pub fine_named : (u : Unit) (own : ℕ) (l : Login) → is_used l ≡ true → login_fine u own l ≡ true → eqb (name_of l.port_name) 0 ≡ false
unfolding params_fine
fine_named u own l used fine =
    let z = zero_name l.port_name in
    let n = zero_name l.node_name in
    let s = size_fails l.size in
    let c = eqb l.concurrent 0 in
    let p = (fine_used {u = u} {own = own} {l = l} used fine).params in
    name_number l.port_name (not-true z (and_left (not z) (not n) (and_left (not z && not n) (not s) (and_left (not z && not n && not s) (not c) (and_left (not z && not n && not s && not c) (not (eqb l.sequences 0)) p)))))

-- what the keys of a port's logins say
pub logins_are : (u : Unit) (own : ℕ) (ls : List Login) {ks : List Key} {r : Bool} → ks ≡ map (login_key u own) ls
    → r ≡ keys_fine ks → r ≡ (all (login_fine u own) ls && pairs apart_login ls)
unfolding login_key key_of apart_login
logins_are u own ls k e =
    e ∙ ap keys_fine k
    ∙ keys_are (login_fine u own) is_free (λ l. l.address) apart_login (login_key u own) (λ n. n.id) apart_key (λ l. refl)
    (λ l m h f g. rw (h, f, g) (key_apart (is_free m) l.address m.address (name_of l.port_name) (name_of m.port_name) (fine_named u own l (not-false (is_used l) f) h))) (λ l m f. rw f) ls

-- a key has the name of its login
pub key_name : (u : Unit) (own n : ℕ) (l : Login) → login_fine u own l ≡ true → key_named n (login_key u own l) ≡ has_name n l
unfolding login_key key_of key_named has_name
key_name u own n l fine = by (is_used l) refl
  where
    -- a name that is not 0 is none of number 0
    other : (m : ℕ) → eqb m 0 ≡ false → (not (eqb n 0) && eqb m n) ≡ eqb m n
    other m h =
        elim (ℕ_discrete n 0) [
          | yes e ↦ rw (e, h)
          | no e ↦ rw (ne_eqb n 0 e)
        ]

    by : (b : Bool) → is_used l ≡ b
        → (not (eqb n 0) && eqb (cond (login_fine u own l) (cond (is_free l) 0 (name_of l.port_name)) 0) n) ≡ (is_used l && eqb (name_of l.port_name) n)
    by true h = rw (fine, h) (other (name_of l.port_name) (fine_named u own l h fine))
    by false h = rw (fine, h) (free_unnamed n)

-- well formed by the keys is well formed
pub fine_by_lem : (u : Unit) (p : Port) → fine_by u (own_of p) (keys_of u p) ≡ well_formed u p
unfolding fine_by keys_of well_formed
fine_by_lem u p =
    step (setup_rules (setup_of u (own_of p))) (all (login_fine u p.address) p.logins) (pairs apart_login p.logins)
    (logins_are u p.address p.logins refl refl)
  where
    step : (s b c : Bool) {k : Bool} → k ≡ (b && c) → (s && k) ≡ (s && b && c)
    step true b c e = e
    step false b c e = refl
