-- A WRITE that fits: what is asked of it, and that it fits once its data are asked for and once a data frame of it is taken. Assumes nothing.
use mathlib.Core.Path.{◌≡◌, refl, sym}
use mathlib.Core.Bool.{Bool, true, false, cond, ◌&&◌, ◌||◌, or-true, and-true, and-false}
use Prim.Native.Nat.{ℕ, ◌+◌, ◌%◌, ◌≤◌, ◌<◌}
use native.Mathlib.Nat.{mod-eq_of_lt}
use native.Mathlib.Decide.{dec_le, ℕ_discrete}
use native.Mathlib.Omega.{arith}
use lib.Dec.{eqb, leb, ltb}
use borrow.Author.Tests.{le-leb, lt-leb, lt-ltb, leb-true, ltb-true, eqb-true, eq-eqb, ne_eqb}
use Rattle.tables.proofs.Bools.{and_left, and_right, or_short}
use Rattle.state.specs.declared.Exchange.{Exchange}
use Rattle.state.specs.declared.Unit.{Unit}
use Rattle.state.specs.Changes.{asked, taken, is_closed}
use Rattle.state.specs.Kinds.{kind_blocks, to_host, from_host, is_write}
use Rattle.formed.specs.Formed.{total, blocks_fit, made_fits, wanted_fits, direction_fits, taken_fits, moved_fits, exchange_fine}
use Rattle.formed.proofs.Advance.{Running, running, is_read}

-- how data are awaited once so much of all was taken: short of it they may be, and are not where all came or a whole number of bursts
pub data Awaits (all sent awaited : ℕ) : Type 0 where
  more : awaited ≡ 1 → sent < all → Awaits all sent awaited
  done : awaited ≡ 0 → sent ≡ all → Awaits all sent awaited
  burst : awaited ≡ 0 → sent % 65536 ≡ 0 → Awaits all sent awaited

-- the test of it, for a flag that is 0 or 1
abbrev awaits_fit : ℕ → ℕ → ℕ → Bool
awaits_fit all sent awaited = cond (eqb awaited 1) (ltb sent all) (leb all sent || eqb (sent % 65536) 0)

-- a flag that is not 1 is 0
flag_zero : {n : ℕ} → n ≤ 1 → (n ≡ 1 → ⊥) → n ≡ 0
flag_zero {n} l a =
    elim (ℕ_discrete n 0) [
      | yes h ↦ h
      | no h ↦ absurd (a (omega arith))
    ]

module _ {all sent awaited : ℕ} where
  awaits_flag : Awaits all sent awaited → leb awaited 1 ≡ true
  awaits_flag (more a h) = rw a
  awaits_flag (done a h) = rw a
  awaits_flag (burst a h) = rw a

  awaits_fit_lem : Awaits all sent awaited → awaits_fit all sent awaited ≡ true
  awaits_fit_lem (more a h) = rw (a, lt-ltb sent all h)
  awaits_fit_lem (done a h) = rw (a, le-leb all sent (omega arith))
  awaits_fit_lem (burst a h) = rw (a, eq-eqb (sent % 65536) 0 h, or-true (leb all sent))

  fit_awaits : sent ≤ all → leb awaited 1 ≡ true → awaits_fit all sent awaited ≡ true → Awaits all sent awaited
  fit_awaits within flag fit =
      elim (ℕ_discrete awaited 1) [
        | yes a ↦ more a (ltb-true sent all (rw (eq-eqb awaited 1 a) at fit))
        | no a ↦ (let f : awaited ≤ 1 = leb-true awaited 1 flag in
            let z : awaited ≡ 0 = flag_zero f a in
            elim (dec_le all sent) [
              | yes l ↦ done z (omega arith)
              | no l ↦ burst z (eqb-true (sent % 65536) 0 (or_short (leb all sent) (eqb (sent % 65536) 0) (rw (ne_eqb awaited 1 a) at fit) (lt-leb all sent (omega arith))))
            ])
      ]

-- what is asked of what was taken
pub record Taken (e : Exchange) : Type 0 where
  pub within : e.sent ≤ total e
  pub awaits : Awaits (total e) e.sent e.awaited
  pub uncounted : e.count ≡ 0

pub taken_parts : (e : Exchange) → taken_fits e ≡ true → Taken e
unfolding taken_fits
taken_parts e h =
    let a = leb e.sent (total e) in
    let b = leb e.awaited 1 in
    let c = awaits_fit (total e) e.sent e.awaited in
    let d = eqb e.count 0 in
    let h₃ = and_left (a && b && c) d h in
    let h₂ = and_left (a && b) c h₃ in
    let w = leb-true e.sent (total e) (and_left a b h₂) in
    record {
      within = w;
      awaits = fit_awaits w (and_right a b h₂) (and_right (a && b) c h₃);
      uncounted = eqb-true e.count 0 (and_right (a && b && c) d h);
    }

pub taken_whole : (e : Exchange) → Taken e → taken_fits e ≡ true
unfolding taken_fits
taken_whole e t = rw (le-leb e.sent (total e) t.within, awaits_flag t.awaits, awaits_fit_lem t.awaits, eq-eqb e.count 0 t.uncounted)

-- the test made in turn, all being the bytes to take: a data frame was sent
pub taken_counted : (e : Exchange) → (e.count ≡ 0 → ⊥) → taken_fits e ≡ false
unfolding taken_fits
taken_counted e n = rw (ne_eqb e.count 0 n) (and-false (leb e.sent (total e) && leb e.awaited 1 && awaits_fit (total e) e.sent e.awaited))

-- none was, and what came is within the total
pub taken_is : (e : Exchange) {all : ℕ} → all ≡ total e → e.sent ≤ all → e.count ≡ 0 → taken_fits e ≡ (leb e.awaited 1 && awaits_fit all e.sent e.awaited)
unfolding taken_fits
taken_is e {all} t within count =
    rw (sym t, le-leb e.sent all within, eq-eqb e.count 0 count) (and-true (leb e.awaited 1 && awaits_fit all e.sent e.awaited))

-- a flag that is neither 1 nor 0
pub two_flag : (n : ℕ) → (n ≡ 1 → ⊥) → (n ≡ 0 → ⊥) → leb n 1 ≡ false
two_flag n a b =
    elim (dec_le n 1) [
      | yes l ↦ absurd (b (flag_zero l a))
      | no l ↦ lt-leb n 1 (omega arith)
    ]

-- no data are awaited: all came, or it is short of the total
pub awaits_all : (all sent : ℕ) → sent ≡ all → awaits_fit all sent 0 ≡ true
awaits_all all sent h = rw (le-leb all sent (omega arith))

pub awaits_short : (all sent : ℕ) → sent ≤ all → (sent ≡ all → ⊥) → awaits_fit all sent 0 ≡ eqb (sent % 65536) 0
awaits_short all sent l n =
    elim (dec_le all sent) [
      | yes h ↦ absurd (n (omega arith))
      | no h ↦ rw (lt-leb all sent (omega arith))
    ]

-- what is asked of an open WRITE
pub record Taking (u : Unit) (e : Exchange) : Type 0 where
  pub blocks : e.kind ≡ kind_blocks
  pub writable : u.writable ≡ 1
  pub fits : taken_fits e ≡ true

module _ {u : Unit} {full paired : ℕ} {e : Exchange} (r : Running u full paired e) where
  pub taking : is_write e ≡ true → Taking u e
  unfolding direction_fits moved_fits
  taking from =
      let k = eqb e.kind kind_blocks in
      let w = eqb u.writable 1 in
      let d : (is_write e && k && w) ≡ true = or_short (eqb e.direction to_host) (is_write e && k && w) r.direction (away (eqb-true e.direction from_host from)) in
      let m = r.moved in
      record {
        blocks = eqb-true e.kind kind_blocks (and_right (is_write e) k (and_left (is_write e && k) w d));
        writable = eqb-true u.writable 1 (and_right (is_write e && k) w d);
        fits = rw from at m;
      }
    where
      away : e.direction ≡ from_host → eqb e.direction to_host ≡ false
      away h = rw h

  -- an open READ or WRITE names blocks of the unit
  pub blocks_fine : e.kind ≡ kind_blocks → blocks_fit u e ≡ true
  unfolding wanted_fits
  blocks_fine k = let w = r.wanted in rw (eq-eqb e.kind kind_blocks k) at w

  -- and its total is that of 65,535 blocks at most, so that no sum up to it wraps
  pub total_below : e.kind ≡ kind_blocks → total e ≤ 33553920
  total_below k = let b = is_read u e k r.wanted in omega arith

  -- what is taken then, which does not wrap
  pub then_taken : (n : ℕ) → is_write e ≡ true → e.sent + n ≤ total e → (e.sent + n) % 4294967296 ≡ e.sent + n
  then_taken n from within = let b = total_below (taking from).blocks in mod-eq_of_lt (omega arith)

module _ (u : Unit) (full paired : ℕ) (e : Exchange) (op : is_closed e ≡ false) (from : is_write e ≡ true) where
  -- an open WRITE that is fine is fine once data of it are awaited
  pub asked_fine : ltb e.sent (total e) ≡ true → exchange_fine u full paired e ≡ true → exchange_fine u full paired (asked e) ≡ true
  unfolding exchange_fine wanted_fits blocks_fit made_fits direction_fits moved_fits
  asked_fine short fine =
      let r = running u full paired e op fine in
      let t = taken_parts e (taking r from).fits in
      let f = taken_whole (asked e) record { within = t.within; awaits = more refl (ltb-true e.sent (total e) short); uncounted = t.uncounted } in
      rw (op, r.pair, r.could, from, f)

  -- and once a data frame of n bytes more is taken
  pub taken_fine : (n awaited : ℕ) → e.sent + n ≤ total e → Awaits (total e) (e.sent + n) awaited → exchange_fine u full paired e ≡ true
      → exchange_fine u full paired (taken e n awaited) ≡ true
  unfolding exchange_fine wanted_fits blocks_fit made_fits direction_fits moved_fits
  taken_fine n awaited within awaits fine =
      let r = running u full paired e op fine in
      let t = taken_parts e (taking r from).fits in
      let s = then_taken r n from within in
      let f = taken_whole (taken e n awaited) record { within = rw s within; awaits = rw s awaits; uncounted = t.uncounted } in
      rw (op, r.pair, r.could, from, f)
