-- No next frame makes a state ill formed. Assumes nothing.
use mathlib.Core.Path.{◌≡◌, refl}
use mathlib.Core.Bool.{Bool, true, false, cond}
use mathlib.Core.List.{List}
use Prim.Native.Nat.{ℕ, ◌<◌}
use native.Mathlib.Omega.{arith}
use lib.ListN.{length}
use borrow.Author.Tests.{ltb-true}
use Rattle.state.specs.declared.Login.{Login}
use Rattle.state.specs.declared.Port.{Port}
use Rattle.state.specs.declared.Unit.{Unit}
use Rattle.state.specs.Standing.{Open}
use Rattle.state.specs.Changes.{empty_exchange, login_at, exchange_at, with_exchange, advanced, asked, is_closed}
use Rattle.state.specs.Kinds.{is_write}
use Rattle.state.specs.Tables.{lookup_of}
use Rattle.state.proofs.Places.{open_used, open_open}
use Rattle.formed.specs.Formed.{full_frame, total, next_bytes, well_formed}
use Rattle.formed.proofs.Parts.{Used, fine_used, used_fine_lem}
use Rattle.formed.proofs.Sizes.{stored_size}
use Rattle.formed.proofs.Keeping.{change_used, end_used, update_kept}
use Rattle.formed.proofs.Advance.{advance_fine}
use Rattle.formed.proofs.Taking.{asked_fine}
use Rattle.serve.specs.Next.{has_more, next_exchange, Step, Refused, Frame, step_of, moved_on, next_at, next_of}
use Rattle.serve.proofs.Steps.{passed}

-- a full frame to a login that is fine has bytes
pub full_some : {u : Unit} {own : ℕ} {l : Login} → Used u own l → 0 < full_frame l.size
full_some {l = l} used = let s = stored_size l used.params in omega arith

-- the exchange with its data asked for, or one data frame on, at its place
more_used : {u : Unit} {own : ℕ} {l : Login} (j : ℕ) (w : Bool) → is_write (exchange_at l j) ≡ w → has_more (exchange_at l j) ≡ true → is_closed (exchange_at l j) ≡ false → Used u own l
    → Used u own (with_exchange l j (cond w (asked (exchange_at l j)) (advanced (exchange_at l j) (next_bytes (full_frame l.size) (exchange_at l j)))))
unfolding has_more
more_used {u} {own} {l} j true from more op used =
    let e = exchange_at l j in
    change_used used j (asked e) refl refl (asked_fine u (full_frame l.size) l.paired e op from more)
more_used {u} {own} {l} j false to more op used =
    let e = exchange_at l j in
    change_used used j (advanced e (next_bytes (full_frame l.size) e)) refl refl (advance_fine u (full_frame l.size) l.paired e (full_some used) op to (ltb-true e.sent (total e) more))

-- or ended
next_used : {u : Unit} {own : ℕ} {l : Login} (j : ℕ) (b : Bool) → has_more (exchange_at l j) ≡ b → is_closed (exchange_at l j) ≡ false → Used u own l
    → Used u own (with_exchange l j (cond b (cond (is_write (exchange_at l j)) (asked (exchange_at l j)) (advanced (exchange_at l j) (next_bytes (full_frame l.size) (exchange_at l j)))) empty_exchange))
next_used {l = l} j true more op used = more_used j (is_write (exchange_at l j)) refl more op used
next_used j false more op used = end_used used j

-- the port after a frame
pub after_kept : (u : Unit) (p : Port) (a x i j : ℕ) → lookup_of p a x ≡ Open i j → well_formed u p ≡ true → well_formed u (moved_on p i j) ≡ true
unfolding moved_on next_exchange with_exchange
after_kept u p a x i j o w =
    let l = login_at p i in
    let used = open_used p a x i j o in
    let m = with_exchange l j (next_exchange (full_frame l.size) (exchange_at l j)) in
    update_kept u p w i m refl refl refl (λ f. used_fine_lem {l = m} used (next_used j (has_more (exchange_at l j)) refl (open_open p a x i j o) (fine_used used f)))

next_at_lem : (u : Unit) (p : Port) (a x start : ℕ) (W : List ℕ) (s : Step) → step_of p a x start (length W) ≡ s → well_formed u p ≡ true → well_formed u (next_at s u p a x W).port ≡ true
next_at_lem u p a x start W (Refused y) e w = w
next_at_lem u p a x start W (Frame i j k) e w = after_kept u p a x i j (passed p a x start (length W) i j k e).stands w

-- no call, refused or not, makes a state ill formed
pub next_kept : (u : Unit) (p : Port) (a x start : ℕ) (W : List ℕ) → well_formed u p ≡ true → well_formed u (next_of u p a x start W).port ≡ true
unfolding next_of
next_kept u p a x start W w = next_at_lem u p a x start W (step_of p a x start (length W)) refl w
