-- No data frame makes a state ill formed. Assumes nothing.
use Rattle.std.specs.Prelude.{Ok, Err, Result}
use Prim.Native.Nat.{ℕ, ◌+◌, ◌≤◌}
use mathlib.Core.Path.{◌≡◌, refl, subst}
use mathlib.Core.Bool.{true}
use Rattle.frame.specs.declared.Header.{Header}
use Rattle.state.specs.declared.Login.{Login}
use Rattle.state.specs.declared.Port.{Port}
use Rattle.state.specs.declared.Unit.{Unit}
use Rattle.state.specs.Changes.{login_at, exchange_at, with_exchange}
use Rattle.state.specs.Tables.{find_login}
use Rattle.formed.specs.Formed.{full_frame, well_formed}
use Rattle.formed.proofs.Keeping.{change_used, end_used}
use Rattle.calls.specs.Turn.{Decided}
use Rattle.calls.proofs.Decisions.{on_found_lem}
use Rattle.calls.proofs.Keeping.{Keeps, stays, stored_kept}
use Rattle.taking.specs.declared.Step.{Step}
use Rattle.taking.specs.declared.Untaken.{Untaken}
use Rattle.taking.specs.declared.Step.TheVariants.{Fault, Take}
use Rattle.taking.specs.declared.Untaken.TheVariants.{NoWrite, Uncovered}
use Rattle.taking.specs.Taking.{data_size, burst_end, step_in, taken_on, served_by, served_data, data_decided}
use Rattle.taking.proofs.Steps.{found_open, Takes, Means, step_means}
use Rattle.taking.proofs.Bursts.{taken_on_fine}

-- what a data frame makes of its sender's login is fine
module _ (u : Unit) (own : ℕ) (l : Login) (x offset n start len : ℕ) where
  -- n bytes from the next on are within the burst
  within : {j k : ℕ} → Takes l x offset n start len j k → (exchange_at l j).sent + n ≤ burst_end (exchange_at l j)
  within {j} t = subst (λ (s : ℕ). s + n ≤ burst_end (exchange_at l j)) t.next t.burst

  step_keeps : (s : Result Step Untaken) → Means l x offset n start len s → Keeps u own l (served_by s l n).login
  unfolding with_exchange
  step_keeps (Err NoWrite) m = stays refl refl refl (λ h. h)
  step_keeps (Ok (Fault j code)) m = stays refl refl refl (λ h. end_used h j)
  step_keeps (Err Uncovered) m = stays refl refl refl (λ h. h)
  step_keeps (Ok (Take j k)) m =
      let e = exchange_at l j in
      stays refl refl refl (λ h. change_used h j (taken_on e n) refl refl (taken_on_fine u (full_frame l.size) l.paired e n (found_open l x j m.found) m.write (within m)))

module _ (u : Unit) (p : Port) (h : Header) (size start len : ℕ) (w : well_formed u p ≡ true) where
  abbrev Kept : Decided → Type 0
  Kept d = well_formed u d.port ≡ true

  -- no data frame makes a state ill formed
  pub data_kept : well_formed u (data_decided p h size start len).port ≡ true
  unfolding data_decided served_data
  data_kept =
      on_found_lem Kept (find_login p h.s_id) _ _
      (λ i at. let l = login_at p i in
      stored_kept u p w h.s_id i _ at
      (step_keeps u p.address l h.ox_id h.offset (data_size h size) start len (step_in l h size start len) (step_means l h.ox_id h.offset (data_size h size) start len)))
      (λ _. w)
