-- The burst of a WRITE at its end, and after a data frame within it. Assumes nothing.
use mathlib.Core.Path.{◌≡◌, refl, sym, ap, ◌∙◌}
use mathlib.Core.Bool.{cond}
use Prim.Native.Nat.{ℕ, ◌+◌, ◌*◌, ◌/◌, ◌%◌, ◌≤◌, ◌<◌, min}
use native.Mathlib.Decide.{ℕ_discrete}
use native.Mathlib.Omega.{arith}
use borrow.Author.Tests.{eq-eqb, ne_eqb}
use Rattle.state.specs.declared.Exchange.{Exchange}
use Rattle.state.specs.Changes.{taken}
use Rattle.formed.specs.Formed.{total}
use Rattle.formed.proofs.Taking.{Awaits, more, done, burst, Taken}
use Rattle.taking.specs.Taking.{burst_end, taken_on}
use Rattle.taking.proofs.Bursts.{burst_awaited, burst_unasked}

module _ {e : Exchange} (t : Taken e) where
  -- data are awaited or not
  pub unasked : (e.awaited ≡ 1 → ⊥) → e.awaited ≡ 0
  unasked idle = by t.awaits
    where
      by : Awaits (total e) e.sent e.awaited → e.awaited ≡ 0
      by (more a h) = absurd (idle a)
      by (done a h) = a
      by (burst a h) = a

  -- all came: its end is the total
  pub burst_all : total e ≤ e.sent → burst_end e ≡ total e
  burst_all l = by t.awaits
    where
      by : Awaits (total e) e.sent e.awaited → burst_end e ≡ total e
      by (more a h) = absurd (omega arith)
      by (done a h) = burst_unasked e a ∙ h
      by (burst a h) = let w = t.within in burst_unasked e a ∙ (omega arith)

  -- a data frame within it leaves its end
  pub burst_taken : (n : ℕ) → e.sent + n ≤ burst_end e → (e.sent + n) % 4294967296 ≡ e.sent + n → burst_end (taken_on e n) ≡ burst_end e
  burst_taken n within wrap =
      elim (ℕ_discrete (e.sent + n) (burst_end e)) [
        | yes h ↦ (let f : taken_on e n ≡ taken e n 0 = ap (λ b. taken e n (cond b 0 1)) (eq-eqb (e.sent + n) (burst_end e) h) in
            ap burst_end f ∙ burst_unasked (taken e n 0) refl ∙ wrap ∙ h)
        | no h ↦ (elim (ℕ_discrete e.awaited 1) [
          | yes a ↦ (let f : taken_on e n ≡ taken e n 1 = ap (λ b. taken e n (cond b 0 1)) (ne_eqb (e.sent + n) (burst_end e) h) in
              let b = burst_awaited e a in
              ap burst_end f ∙ burst_awaited (taken e n 1) refl ∙ ap (λ (s : ℕ). min (total e) ((s / 65536 + 1) * 65536)) wrap ∙ same e.sent n (total e) (omega arith) ∙ sym b)
          | no a ↦ (let b = burst_unasked e (unasked a) in absurd (omega arith))
        ])
      ]
    where
      same : (sent n all : ℕ) → sent + n < min all ((sent / 65536 + 1) * 65536) → min all (((sent + n) / 65536 + 1) * 65536) ≡ min all ((sent / 65536 + 1) * 65536)
      same sent n all h = omega arith
