-- The next data frame of an exchange that fits leaves one that fits, and its count is the number of the frames sent, modulo 65,536; what fits by one quotient.
-- Assumes nothing.
use mathlib.Core.Path.{◌≡◌, sym, ap, ◌∙◌}
use mathlib.Core.Bool.{Bool, true, false, cond, ◌&&◌, ◌||◌, or-false}
use Prim.Native.Nat.{ℕ, ◌+◌, ◌-◌, ◌*◌, ◌/◌, ◌%◌, min, ◌≤◌, ◌<◌}
use native.Mathlib.Nat.{div-add-mod', mod-lt, mod-eq_of_lt, add-mul, one-mul, le-mul_of_pos_right}
use native.Mathlib.Decide.{dec_le, ℕ_discrete}
use native.Mathlib.Omega.{arith}
use lib.Arith.{digits_div, digits_mod}
use lib.Dec.{eqb, leb, ltb}
use borrow.Author.Tests.{le-leb, lt-leb, leb-true, eqb-true, eq-eqb}
use Rattle.tables.proofs.Bools.{and_left, and_right, or_short}
use Rattle.state.specs.declared.Exchange.{Exchange}
use Rattle.state.specs.declared.Unit.{Unit}
use Rattle.state.specs.Changes.{advanced, is_closed}
use Rattle.state.specs.Kinds.{kind_blocks, kind_inquiry_other, kind_capacity, kind_sense_other, to_host, is_write}
use Rattle.formed.specs.Formed.{total, next_bytes, frames_of, blocks_fit, made_wants, made_fits, wanted_fits, direction_fits, openable, sent_fits, moved_fits, exchange_fine}

-- a whole number of full frames, and then one more of n bytes
frames_at : (q full : ℕ) → 0 < full → frames_of (q * full) full ≡ q
frames_at q full h = digits_div q {m = full} {r = full - 1} (omega arith)

-- nothing takes no frame
pub no_frames : (full : ℕ) → 0 < full → frames_of 0 full ≡ 0
no_frames full h = let z : 0 ≡ 0 * full = omega arith in ap (λ (s : ℕ). frames_of s full) z ∙ frames_at 0 full h

one_more : (q full : ℕ) → (q + 1) * full ≡ q * full + full
one_more q full = add-mul q 1 full ∙ rw one-mul

frames_more : (q full n : ℕ) → 0 < n → n ≤ full → frames_of (q * full + n) full ≡ q + 1
frames_more q full n h l =
    let e : q * full + n + (full - 1) ≡ (q + 1) * full + (n - 1) = let d = one_more q full in omega arith in
    ap (λ (m : ℕ). m / full) e ∙ digits_div (q + 1) {m = full} {r = n - 1} (omega arith)

-- the frames are the quotient, rounded up
pub frames_ceil : (n full : ℕ) → 0 < full → frames_of n full ≡ n / full + min 1 (n % full)
frames_ceil n full h =
    let d = div-add-mod' n full in
    let m = mod-lt n h in
    elim (ℕ_discrete (n % full) 0) [
      | yes z ↦ (let w : n / full * full ≡ n = omega arith in
          let e : n / full ≡ n / full + min 1 (n % full) = omega arith in
          ap (λ (s : ℕ). frames_of s full) (sym w) ∙ frames_at (n / full) full h ∙ e)
      | no z ↦ (let e : n / full + 1 ≡ n / full + min 1 (n % full) = omega arith in
          ap (λ (s : ℕ). frames_of s full) (sym d) ∙ frames_more (n / full) full (n % full) (omega arith) (omega arith) ∙ e)
    ]

-- where bytes are left past full frames, all being the bytes to send
module _ (full : ℕ) (e : Exchange) {all : ℕ} (t : all ≡ total e) (pos : 0 < full) (within : e.sent ≤ all) (part : e.sent / full * full ≡ e.sent → ⊥) where
  left_over : 0 < e.sent % full
  left_over = elim (ℕ_discrete (e.sent % full) 0) [
    | yes h ↦ absurd (part (let d = div-add-mod' e.sent full in omega arith))
    | no h ↦ omega arith
  ]

  -- the frames, with the one that is not full, are no more than the bytes
  pub frames_few : e.sent / full + 1 ≤ e.sent
  frames_few =
      let d = div-add-mod' e.sent full in
      let q = le-mul_of_pos_right (e.sent / full) pos in
      let l = left_over in
      omega arith

module _ (full : ℕ) (e : Exchange) (fits : sent_fits full e ≡ true) where
  -- the count is the number of the data frames sent, modulo 65,536
  pub sent_counted : e.count ≡ frames_of e.sent full % 65536
  unfolding sent_fits
  sent_counted =
      eqb-true e.count (frames_of e.sent full % 65536)
      (and_right (leb e.sent (total e) && (leb (total e) e.sent || eqb (e.sent % full) 0)) (eqb e.count (frames_of e.sent full % 65536)) fits)

  -- no more was sent than there is to send
  pub sent_within : e.sent ≤ total e
  unfolding sent_fits
  sent_within =
      leb-true e.sent (total e)
      (and_left (leb e.sent (total e)) (leb (total e) e.sent || eqb (e.sent % full) 0)
      (and_left (leb e.sent (total e) && (leb (total e) e.sent || eqb (e.sent % full) 0)) (eqb e.count (frames_of e.sent full % 65536)) fits))

module _ (full : ℕ) (e : Exchange) (pos : 0 < full) (fits : sent_fits full e ≡ true) (short : e.sent < total e) (small : total e < 4294967296) where
  -- what was sent is a whole number of full frames
  whole : e.sent % full ≡ 0
  unfolding sent_fits
  whole =
      eqb-true (e.sent % full) 0
      (or_short (leb (total e) e.sent) (eqb (e.sent % full) 0)
      (and_right (leb e.sent (total e)) (leb (total e) e.sent || eqb (e.sent % full) 0)
      (and_left (leb e.sent (total e) && (leb (total e) e.sent || eqb (e.sent % full) 0)) (eqb e.count (frames_of e.sent full % 65536)) fits))
      (lt-leb (total e) e.sent short))

  -- the number of frames sent so far
  number : ℕ
  number = e.sent / full

  sent_is : e.sent ≡ number * full
  unfolding number
  sent_is = let d = div-add-mod' e.sent full in let w = whole in omega arith

  abbrev next : ℕ
  next = next_bytes full e

  -- what is sent then, which does not wrap
  pub then_sent : (e.sent + next_bytes full e) % 4294967296 ≡ e.sent + next_bytes full e
  then_sent = mod-eq_of_lt (omega arith)

  then_within : leb (e.sent + next) (total e) ≡ true
  then_within = le-leb (e.sent + next) (total e) (omega arith)

  then_whole : (leb (total e) (e.sent + next) || eqb ((e.sent + next) % full) 0) ≡ true
  then_whole =
      elim (dec_le (total e) (e.sent + next)) [
        | yes l ↦ rw (le-leb (total e) (e.sent + next) l)
        | no l ↦ (let f : next ≡ full = omega arith in
            let s : e.sent + next ≡ (number + 1) * full + 0 = let a = sent_is in let b = one_more number full in omega arith in
            rw (lt-leb (total e) (e.sent + next) (omega arith), s, digits_mod (number + 1) {m = full} {r = 0} pos))
      ]

  frames_sent : frames_of e.sent full ≡ number
  frames_sent = ap (λ (s : ℕ). frames_of s full) sent_is ∙ frames_at number full pos

  -- the next data frame is one frame more
  pub frames_then : frames_of (e.sent + next_bytes full e) full ≡ frames_of e.sent full + 1
  frames_then =
      ap (λ (s : ℕ). frames_of (s + next) full) sent_is ∙ frames_more number full next (omega arith) (omega arith) ∙ sym (ap (λ (n : ℕ). n + 1) frames_sent)

  -- the count goes on with the frames' number
  pub then_counted : (e.count + 1) % 65536 ≡ frames_of (e.sent + next_bytes full e) full % 65536
  then_counted = ap (λ (n : ℕ). (n + 1) % 65536) (sent_counted full e fits) ∙ round (frames_of e.sent full) ∙ sym (ap (λ (n : ℕ). n % 65536) frames_then)
    where
      round : (n : ℕ) → (n % 65536 + 1) % 65536 ≡ (n + 1) % 65536
      round n = omega arith

  -- the exchange after its next data frame fits
  pub advance_fits : sent_fits full (advanced e (next_bytes full e)) ≡ true
  unfolding sent_fits
  advance_fits = rw (then_sent, then_within, then_whole, eq-eqb _ _ then_counted)

-- what a command of any kind wants fits 32 bits
cond_small : (b : Bool) (x y : Bool) (n : ℕ) → (x ≡ true → n < 4294967296) → (y ≡ true → n < 4294967296) → cond b x y ≡ true → n < 4294967296
cond_small true x y n p q e = p e
cond_small false x y n p q e = q e

-- what is asked of a READ or WRITE
pub record Reads (u : Unit) (e : Exchange) : Type 0 where
  pub few : e.blocks ≤ 65535
  pub wanted : e.wanted ≡ 512 * e.blocks
  pub inside : e.start + e.blocks ≤ u.capacity

pub read_parts : (u : Unit) (e : Exchange) → blocks_fit u e ≡ true → Reads u e
unfolding blocks_fit
read_parts u e h =
    let a = leb 1 e.blocks in
    let b = leb e.blocks 65535 in
    let c = eqb e.wanted (512 * e.blocks) in
    let d = ltb e.start u.capacity in
    let f = leb (e.start + e.blocks) u.capacity in
    let h₃ = and_left (a && b && c) d (and_left (a && b && c && d) f h) in
    record {
      few = leb-true e.blocks 65535 (and_right a b (and_left (a && b) c h₃));
      wanted = eqb-true e.wanted (512 * e.blocks) (and_right (a && b) c h₃);
      inside = leb-true (e.start + e.blocks) u.capacity (and_right (a && b && c && d) f h);
    }

pub is_read : (u : Unit) (e : Exchange) → e.kind ≡ kind_blocks → wanted_fits u e ≡ true → Reads u e
unfolding wanted_fits
is_read u e k h = read_parts u e (rw (eq-eqb e.kind kind_blocks k) at h)

read_small : (u : Unit) (e : Exchange) → blocks_fit u e ≡ true → e.wanted < 4294967296
read_small u e h = let r = read_parts u e h in omega arith

made_wants_lem : (e : Exchange) → made_fits e ≡ true → made_wants e ≡ true
unfolding made_fits
made_wants_lem e h = and_right (eqb e.start 0 && eqb e.blocks 0) (made_wants e) h

-- what is wanted of made data
pub is_made : (u : Unit) (e : Exchange) → eqb e.kind kind_blocks ≡ false → wanted_fits u e ≡ true → made_wants e ≡ true
unfolding wanted_fits
is_made u e k h = made_wants_lem e (rw k at h)

pub wanted_small : (u : Unit) (e : Exchange) → wanted_fits u e ≡ true → e.wanted < 4294967296
unfolding wanted_fits
wanted_small u e =
    cond_small (eqb e.kind kind_blocks) _ _ e.wanted (read_small u e) (λ h. made (made_wants_lem e h))
  where
    most : (n : ℕ) → leb e.wanted n ≡ true → n < 4294967296 → e.wanted < 4294967296
    most n h l = let i : e.wanted ≤ n = leb-true e.wanted n h in omega arith

    made : made_wants e ≡ true → e.wanted < 4294967296
    made =
        cond_small (leb e.kind kind_inquiry_other) _ _ e.wanted (λ h. most 36 (and_right (leb 1 e.wanted) (leb e.wanted 36) h) (omega arith))
        (cond_small (eqb e.kind kind_capacity) _ _ e.wanted (λ h. let i : e.wanted ≡ 8 = eqb-true e.wanted 8 h in omega arith)
        (λ h. most 18 (and_right (leb e.kind kind_sense_other && leb 1 e.wanted) (leb e.wanted 18) h) (omega arith)))

-- what is asked of an open exchange
pub record Running (u : Unit) (full paired : ℕ) (e : Exchange) : Type 0 where
  pub pair : eqb paired 1 ≡ true
  pub could : openable u e ≡ true
  pub some : leb 1 e.expected ≡ true
  pub wanted : wanted_fits u e ≡ true
  pub direction : direction_fits u e ≡ true
  pub moved : moved_fits full e ≡ true

pub running : (u : Unit) (full paired : ℕ) (e : Exchange) → is_closed e ≡ false → exchange_fine u full paired e ≡ true → Running u full paired e
unfolding exchange_fine
running u full paired e op fine =
    let f = or_short (is_closed e) (eqb paired 1 && openable u e && moved_fits full e) fine op in
    let g = and_left (eqb paired 1 && openable u e) (moved_fits full e) f in
    let o = and_right (eqb paired 1) (openable u e) g in
    let w = and_left (leb 1 e.expected && wanted_fits u e) (direction_fits u e) o in
    record {
      pair = and_left (eqb paired 1) (openable u e) g;
      could = o;
      some = and_left (leb 1 e.expected) (wanted_fits u e) w;
      wanted = and_right (leb 1 e.expected) (wanted_fits u e) w;
      direction = and_right (leb 1 e.expected && wanted_fits u e) (direction_fits u e) o;
      moved = and_right (eqb paired 1 && openable u e) (moved_fits full e) f;
    }

-- what is asked of one whose data go to the host
pub record Sending (full : ℕ) (e : Exchange) : Type 0 where
  pub to_host_lem : e.direction ≡ to_host
  pub unasked : e.awaited ≡ 0
  pub fits : sent_fits full e ≡ true

pub sending : {u : Unit} {full paired : ℕ} {e : Exchange} → Running u full paired e → is_write e ≡ false → Sending full e
unfolding direction_fits moved_fits
sending {full = full} {e = e} r to =
    let d = r.direction in
    let m = r.moved in
    let n : (eqb e.awaited 0 && sent_fits full e) ≡ true = rw to at m in
    record {
      to_host_lem = eqb-true e.direction to_host (sym (or-false (eqb e.direction to_host)) ∙ (rw to at d));
      unasked = eqb-true e.awaited 0 (and_left (eqb e.awaited 0) (sent_fits full e) n);
      fits = and_right (eqb e.awaited 0) (sent_fits full e) n;
    }

-- an open exchange that is fine and goes to the host is fine after its next data frame
pub advance_fine : (u : Unit) (full paired : ℕ) (e : Exchange) → 0 < full → is_closed e ≡ false → is_write e ≡ false → e.sent < total e → exchange_fine u full paired e ≡ true
    → exchange_fine u full paired (advanced e (next_bytes full e)) ≡ true
unfolding exchange_fine wanted_fits blocks_fit made_fits direction_fits moved_fits
advance_fine u full paired e pos op to short fine =
    let r = running u full paired e op fine in
    let g = sending r to in
    let w = wanted_small u e r.wanted in
    let s = advance_fits full e pos g.fits short (omega arith) in
    rw (op, r.pair, r.could, to, s, g.unasked)
