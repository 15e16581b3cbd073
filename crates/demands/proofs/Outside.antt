-- Bytes of the unit that no open WRITE has in its range stay as they were. Assumes nothing.
use mathlib.Core.Path.{◌≡◌, refl, ap, ◌∙◌}
use mathlib.Core.Bool.{true}
use mathlib.Core.List.{List, [], ◌∷◌}
use Prim.Native.Nat.{ℕ, ◌+◌, ◌*◌, ◌≤◌, ◌<◌}
use native.Mathlib.Decide.{dec_le}
use native.Mathlib.Omega.{arith}
use lib.ListN.{length, get_or}
use Rattle.wire.specs.Bytes.{over}
use Rattle.wire.specs.Layout.{AllBytes}
use Rattle.frame.specs.Head.{header_of}
use Rattle.cover.specs.Cover.{position_of, cut}
use Rattle.state.specs.declared.Exchange.{Exchange}
use Rattle.state.specs.declared.Login.{Login}
use Rattle.state.specs.Changes.{login_at, exchange_at}
use Rattle.formed.specs.Formed.{well_formed}
use Rattle.formed.proofs.Taking.{taken_parts, taking}
use Rattle.serve.specs.Next.{exchange_of}
use Rattle.serve.proofs.Frames.{runs}
use Rattle.taking.specs.Taking.{data_size, data_in}
use Rattle.taking.proofs.Bursts.{burst_total}
use Rattle.taking.proofs.Steps.{Takes}
use Rattle.taking.proofs.Silent.{TakeAt}
use Rattle.drive.specs.declared.Drive.{Drive}
use Rattle.drive.specs.Entry.{frame_in_window}
use Rattle.demands.specs.Writing.{World, Act, frame, next, event, back, unit_after, acted, ran, InWrite, Reaches, Outside, none, one}
use Rattle.demands.proofs.Windows.{length_over, over_past, over_before, back_same, back_over}
use Rattle.demands.proofs.Storing.{carried_long, window_cases}

-- a data frame that is taken of an exchange e, at a window cut from the unit
module _ (unit : List ℕ) (l : Login) (x offset n start len j k : ℕ) (t : Takes l x offset n start (length (cut unit start len)) j k) where
  abbrev e : Exchange
  e = exchange_at l j

  abbrev lent : List ℕ
  lent = cut unit start len

  -- its bytes go where the next of the exchange are on the unit
  pub back_stored : (carried : List ℕ) → length carried ≡ n → back unit start (over lent k carried) ≡ over unit (position_of e.start e.sent) carried
  back_stored carried long =
      let c = t.holds in
      let fits : k + length carried ≤ length lent = let y = c.inside in omega arith in
      let is : 512 * start + k ≡ position_of e.start e.sent = let x = c.after in let z = c.is in omega arith in
      back_over unit (512 * start) len k carried fits ∙ ap (λ (i : ℕ). over unit i carried) is

-- a byte that is not among n from `at` on
apart_over : (unit : List ℕ) (at n : ℕ) (carried : List ℕ) (b : ℕ) → length carried ≡ n → (at ≤ b → b < at + n → ⊥) → get_or (over unit at carried) b 0 ≡ get_or unit b 0
apart_over unit at n carried b long out =
    elim (dec_le at b) [
      | yes l ↦ (elim (dec_le (at + n) b) [
        | yes m ↦ over_past unit at carried b (omega arith)
        | no m ↦ absurd (out l (omega arith))
      ])
      | no l ↦ over_before unit at carried b (omega arith)
    ]

module _ (w : World) where
  abbrev d : Drive
  d = w.drive

  abbrev unit : List ℕ
  unit = w.unit

  -- the unit has so many bytes as it had, and this one is as it was
  abbrev Kept : ℕ → List ℕ → Type 0
  Kept b unit₁ = (length unit₁ ≡ length unit) × (get_or unit₁ b 0 ≡ get_or unit b 0)

  module _ (f : List ℕ) (start len room : ℕ) (known : AllBytes f) (b : ℕ) (out : InWrite d (header_of f).s_id (header_of f).ox_id b → ⊥) where
    abbrev W : List ℕ
    W = cut unit start len

    same_back : Kept b (back unit start W)
    same_back = let s = back_same unit (512 * start) len in (ap length s, ap (λ (l : List ℕ). get_or l b 0) s)

    stored_back : (j k : ℕ) → well_formed d.unit d.port ≡ true → TakeAt d.port (header_of f) (length f) start (length W) j k → Kept b (back unit start (over W k (data_in (header_of f) f)))
    stored_back j k fine t =
        let a = (header_of f).s_id in
        let x = (header_of f).ox_id in
        let n = data_size (header_of f) (length f) in
        let carried = data_in (header_of f) f in
        let long = carried_long (header_of f) f in
        let s = t.takes in
        let e = exchange_of d.port t.i j in
        let most = burst_total (taken_parts e (taking (runs d.unit d.port a x t.i j fine t.stood) s.write).fits) in
        let within = s.burst in
        let next = s.next in
        let is = back_stored unit (login_at d.port t.i) x (header_of f).offset n start len j k s carried long in
        let at = position_of e.start e.sent in
        let clear : at ≤ b → b < at + n → ⊥ = λ p q. out record { i = t.i; j = j; stands = t.stood; write = s.write; from = omega arith; below = omega arith } in
        (ap length is ∙ length_over unit at carried, ap (λ (l : List ℕ). get_or l b 0) is ∙ apart_over unit at n carried b long clear)

    frame_local : Kept b (back unit start (frame_in_window d f start W room))
    frame_local = window_cases d f start W room (λ r. Kept b (back unit start r)) same_back (λ j k s t. stored_back j k s.arrived.fine t)

  pub write_local : (c : Act) (b : ℕ) → (Reaches w c b → ⊥) → (length (unit_after w c) ≡ length w.unit) × (get_or (unit_after w c) b 0 ≡ get_or w.unit b 0)
  write_local (frame f start len room known) b out = frame_local f start len room known b out
  write_local (next a x start len room) b out = (refl, refl)
  write_local (event e) b out = (refl, refl)

  -- in none's range, in that of no frame
  unreached : (c : Act) (b : ℕ) → ((a x : ℕ) → InWrite d a x b → ⊥) → Reaches w c b → ⊥
  unreached (frame f start len room known) b out r = out (header_of f).s_id (header_of f).ox_id r
  unreached (next a x start len room) b out r = r
  unreached (event e) b out r = r

  -- whatever the call, the unit has as many bytes as it had
  pub unit_long : (c : Act) → length (unit_after w c) ≡ length w.unit
  unit_long (frame f start len room known) = length_over unit (512 * start) (frame_in_window d f start (cut unit start len) room)
  unit_long (next a x start len room) = refl
  unit_long (event e) = refl

pub write_outside : (w : World) (cs : List Act) (b : ℕ) → Outside b w cs → get_or (ran w cs).unit b 0 ≡ get_or w.unit b 0
write_outside w [] b none = refl
write_outside w (c ∷ cs) b (one out rest) = write_outside (acted w c) cs b rest ∙ (write_local w c b (unreached w c b out)).1
