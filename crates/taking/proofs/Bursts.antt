-- The burst of an open WRITE that fits, and that what is taken within it leaves one that fits. Assumes nothing.
use Prim.Native.Nat.{ℕ, ◌+◌, ◌-◌, ◌*◌, ◌/◌, ◌%◌, ◌≤◌, ◌<◌, min}
use mathlib.Core.Path.{◌≡◌, refl, ◌∙◌}
use mathlib.Core.Bool.{true, false, cond}
use native.Mathlib.Decide.{dec_le, ℕ_discrete}
use native.Mathlib.Omega.{arith}
use lib.Dec.{eqb}
use borrow.Author.Tests.{eq-eqb, ne_eqb}
use Rattle.state.specs.declared.Exchange.{Exchange}
use Rattle.state.specs.declared.Unit.{Unit}
use Rattle.state.specs.Changes.{asked, is_closed}
use Rattle.state.specs.Kinds.{is_write}
use Rattle.formed.specs.Formed.{total, exchange_fine}
use Rattle.formed.proofs.Advance.{running}
use Rattle.formed.proofs.Taking.{Awaits, more, done, burst, Taken, taken_parts, taking, taken_fine}
use Rattle.taking.specs.Taking.{burst_end, taken_on}

-- what is asked of an open WRITE that is fine
pub write_taken : (u : Unit) (full paired : ℕ) (e : Exchange) → is_closed e ≡ false → is_write e ≡ true → exchange_fine u full paired e ≡ true → Taken e
write_taken u full paired e op from fine = taken_parts e (taking (running u full paired e op fine) from).fits

-- the end of the burst where data are awaited, and where none are
module _ (e : Exchange) where
  pub burst_awaited : e.awaited ≡ 1 → burst_end e ≡ min (total e) ((e.sent / 65536 + 1) * 65536)
  unfolding burst_end
  burst_awaited a = rw (eq-eqb e.awaited 1 a)

  pub burst_unasked : e.awaited ≡ 0 → burst_end e ≡ e.sent
  unfolding burst_end
  burst_unasked a = rw a

module _ {e : Exchange} (t : Taken e) where
  -- the burst is within the total, and what was sent within the burst
  pub burst_total : burst_end e ≤ total e
  burst_total = by t.awaits
    where
      by : Awaits (total e) e.sent e.awaited → burst_end e ≤ total e
      by (more a h) = let b = burst_awaited e a in omega arith
      by (done a h) = let b = burst_unasked e a in let w = t.within in omega arith
      by (burst a h) = let b = burst_unasked e a in let w = t.within in omega arith

  pub burst_sent : e.sent ≤ burst_end e
  burst_sent = by t.awaits
    where
      by : Awaits (total e) e.sent e.awaited → e.sent ≤ burst_end e
      by (more a h) = let b = burst_awaited e a in omega arith
      by (done a h) = let b = burst_unasked e a in omega arith
      by (burst a h) = let b = burst_unasked e a in omega arith

  -- short of it where data are awaited
  pub burst_short : e.awaited ≡ 1 → e.sent < burst_end e
  burst_short a = by t.awaits
    where
      by : Awaits (total e) e.sent e.awaited → e.sent < burst_end e
      by (more _ h) = let b = burst_awaited e a in omega arith
      by (done z h) = absurd (omega arith)
      by (burst z h) = absurd (omega arith)

  -- where none are, short of the total, a whole number of bursts was sent
  pub sent_whole : e.awaited ≡ 0 → e.sent < total e → e.sent % 65536 ≡ 0
  sent_whole a short = by t.awaits
    where
      by : Awaits (total e) e.sent e.awaited → e.sent % 65536 ≡ 0
      by (more z h) = absurd (omega arith)
      by (done z h) = absurd (omega arith)
      by (burst z h) = h

  -- and the burst that is asked for then is what is left, 65,536 bytes at most
  pub burst_asked : e.awaited ≡ 0 → e.sent < total e → burst_end (asked e) ≡ e.sent + min (total e - e.sent) 65536
  burst_asked a short = let w = sent_whole a short in burst_awaited (asked e) refl ∙ (let s : min (total e) ((e.sent / 65536 + 1) * 65536) ≡ e.sent + min (total e - e.sent) 65536 = omega arith in s)

  -- n bytes more, within the burst
  module _ (n : ℕ) (within : e.sent + n ≤ burst_end e) where
    pub then_within : e.sent + n ≤ total e
    then_within = let b = burst_total in omega arith

    -- at the burst's end all came, or a whole number of bursts
    burst_ends : e.sent + n ≡ burst_end e → Awaits (total e) (e.sent + n) 0
    burst_ends q = by t.awaits
      where
        by : Awaits (total e) e.sent e.awaited → Awaits (total e) (e.sent + n) 0
        by (more a h) =
            let b = burst_awaited e a in
            elim (dec_le (total e) ((e.sent / 65536 + 1) * 65536)) [
              | yes l ↦ done refl (omega arith)
              | no l ↦ burst refl (omega arith)
            ]
        by (done a h) = let b = burst_unasked e a in done refl (omega arith)
        by (burst a h) = let b = burst_unasked e a in burst refl (omega arith)

    -- how data are awaited then
    pub then_awaits : Awaits (total e) (e.sent + n) (cond (eqb (e.sent + n) (burst_end e)) 0 1)
    then_awaits =
        elim (ℕ_discrete (e.sent + n) (burst_end e)) [
          | yes q ↦ rw (eq-eqb (e.sent + n) (burst_end e) q) (burst_ends q)
          | no q ↦ (let b = burst_total in rw (ne_eqb (e.sent + n) (burst_end e) q) (more refl (omega arith)))
        ]

-- an open WRITE that is fine is fine after n bytes more within its burst
pub taken_on_fine : (u : Unit) (full paired : ℕ) (e : Exchange) (n : ℕ) → is_closed e ≡ false → is_write e ≡ true → e.sent + n ≤ burst_end e
    → exchange_fine u full paired e ≡ true → exchange_fine u full paired (taken_on e n) ≡ true
taken_on_fine u full paired e n op from within fine =
    let t = write_taken u full paired e op from fine in
    taken_fine u full paired e op from n (cond (eqb (e.sent + n) (burst_end e)) 0 1) (then_within t n within) (then_awaits t n within) fine
