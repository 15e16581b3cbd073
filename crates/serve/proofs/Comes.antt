-- Every open exchange of a proven login whose data go to the host is served to its end, with windows that there are. Assumes nothing.
use Rattle.std.specs.Prelude.{Some}
use mathlib.Core.Path.{◌≡◌, refl, ap, ◌∙◌}
use mathlib.Core.Bool.{Bool, true, false, not, ◌&&◌, and-false}
use mathlib.Core.List.{List, []}
use Prim.Native.Nat.{ℕ, zero, suc, ◌+◌, ◌-◌, ◌*◌, ◌/◌, ◌%◌, ◌≤◌, ◌<◌, min}
use native.Mathlib.Nat.{le_refl}
use native.Mathlib.Omega.{arith}
use lib.Dec.{eqb}
use lib.ListN.{length, take, drop, length-take}
use borrow.Author.Tests.{eqb-true}
use Rattle.cover.specs.Cover.{cut}
use Rattle.cover.proofs.Cuts.{cut_covers}
use Rattle.state.specs.declared.Exchange.{Exchange}
use Rattle.state.specs.declared.Port.{Port}
use Rattle.state.specs.declared.Unit.{Unit}
use Rattle.state.specs.Standing.{Open}
use Rattle.state.specs.Changes.{login_at, advanced}
use Rattle.state.specs.Kinds.{kind_blocks, is_write}
use Rattle.state.specs.Tables.{lookup_of}
use Rattle.formed.specs.Formed.{total, next_bytes, well_formed}
use Rattle.formed.proofs.Advance.{Reads, sending, is_read, then_sent}
use Rattle.serve.specs.Next.{has_more, reads_more, position, place_of, frame_of, exchange_of, full_of, Frame, step_of, next_of}
use Rattle.serve.specs.Whole.{piece, ends, Ends}
use Rattle.serve.proofs.Steps.{Passed, given}
use Rattle.serve.proofs.Asking.{sends_reply, ends_reply}
use Rattle.serve.proofs.Keeping.{next_kept}
use Rattle.serve.proofs.Frames.{runs, full_pos, total_small, more_left, port_is}
use Rattle.serve.proofs.Whole.{next_open, next_exchange_lem, next_proven}

-- the block in which the next READ data begin
abbrev block : Exchange → ℕ
block e = e.start + e.sent / 512

-- a window of so many bytes from there on
abbrev window_at : List ℕ → ℕ → Exchange → List ℕ
window_at unit len e = cut unit (block e) len

-- the next READ data are on the unit
on_unit_lem : (full : ℕ) (e : Exchange) (u : Unit) → e.sent < total e → Reads u e → position e + next_bytes full e ≤ 512 * u.capacity
on_unit_lem full e u short reads = let w = reads.wanted in let c = reads.inside in omega arith

-- where the frame's bytes begin in that window
record Placed (unit : List ℕ) (len full : ℕ) (e : Exchange) : Type 0 where
  k : ℕ
  is : place_of full e (block e) (length (window_at unit len e)) ≡ Some k

module _ (u : Unit) (unit : List ℕ) (long : length unit ≡ 512 * u.capacity) (len : ℕ) (least : 2560 ≤ len) (full : ℕ) (e : Exchange) (most : next_bytes full e ≤ 2048) (more : has_more e ≡ true) (to : is_write e ≡ false) where
  placed_case : (b : Bool) → eqb e.kind kind_blocks ≡ b → (b ≡ true → Reads u e) → Placed unit len full e
  unfolding place_of reads_more
  placed_case true h reads =
      let inside = on_unit_lem full e u (more_left full e more) (reads refl) in
      record {
        k = e.sent % 512;
        is = rw (h, to, more) (cut_covers unit e.start e.sent (next_bytes full e) len (omega arith) (rw long inside));
      }
  placed_case false h reads = record { k = e.sent; is = rw h }

-- with nothing left, any window will do
none_placed : (full : ℕ) (e : Exchange) → has_more e ≡ false → place_of full e 0 0 ≡ Some e.sent
unfolding place_of reads_more
none_placed full e h = rw (h, and-false (eqb e.kind kind_blocks && not (is_write e)))

-- the bytes that are left grow fewer
abbrev left : Exchange → ℕ
left e = total e - e.sent

fewer : (full : ℕ) (e : Exchange) → 0 < full → e.sent < total e → (e.sent + next_bytes full e) % 4294967296 ≡ e.sent + next_bytes full e → left (advanced e (next_bytes full e)) < left e
fewer full e pos short wrap = rw wrap (omega arith)

-- with windows of so many bytes, or what the unit has of them
module _ (u : Unit) (unit : List ℕ) (long : length unit ≡ 512 * u.capacity) (len : ℕ) (least : 2560 ≤ len) (most : len ≤ 65536) (a x i j : ℕ) where
  -- what is known of the port before each frame
  record Ready (p : Port) : Type 0 where
    formed : well_formed u p ≡ true
    stands : lookup_of p a x ≡ Open i j
    proven : (login_at p i).proven ≡ 1
    to : is_write (exchange_of p i j) ≡ false

  -- nothing is left but the response
  ends_here : (p : Port) → has_more (exchange_of p i j) ≡ false → Ready p → Ends u unit a x p
  ends_here p more ready =
      let e = exchange_of p i j in
      let step : Passed p a x 0 0 i j e.sent = record { stands = ready.stands; proven = ready.proven; short = omega arith; place = none_placed (full_of p i) e more } in
      record { pieces = []; response = _; after = _; run = ends 0 0 i j e.sent (given step) (ends_reply (full_of p i) e more); lone = refl }

  -- the window of the next data frame
  placed : (p : Port) → has_more (exchange_of p i j) ≡ true → Ready p → Placed unit len (full_of p i) (exchange_of p i j)
  placed p more ready =
      let e = exchange_of p i j in
      placed_case u unit long len least (full_of p i) e (few (login_at p i).size (left e)) more ready.to (eqb e.kind kind_blocks) refl
      (λ k. is_read u e (eqb-true e.kind kind_blocks k) (runs u p a x i j ready.formed ready.stands).wanted)
    where
      few : (size m : ℕ) → min (min size 2048) m ≤ 2048
      few size m = omega arith

  step_given : (p : Port) (at : Placed unit len (full_of p i) (exchange_of p i j)) → Ready p → step_of p a x (block (exchange_of p i j)) (length (window_at unit len (exchange_of p i j))) ≡ Frame i j at.k
  step_given p at ready = given record { stands = ready.stands; proven = ready.proven; short = short_window (512 * block (exchange_of p i j)); place = at.is }
    where
      short_window : (n : ℕ) → length (take len (drop n unit)) ≤ 65536
      short_window n = let t = length-take len (drop n unit) in omega arith

  -- a data frame, and what comes after it
  module _ (p : Port) (start k : ℕ) (more : has_more (exchange_of p i j) ≡ true) (step : step_of p a x start (length (cut unit start len)) ≡ Frame i j k) where
    abbrev then : Port
    then = (next_of u p a x start (cut unit start len)).port

    then_ready : Ready p → Ready then
    then_ready ready =
        let is = port_is u p a x start (cut unit start len) i j k step in
        record {
          formed = next_kept u p a x start (cut unit start len) ready.formed;
          stands = next_open u p a x i j ready.stands then more is;
          proven = next_proven u p a x i j ready.stands then more is ∙ ready.proven;
          to = ap (λ e. is_write e) (next_exchange_lem u p a x i j ready.stands then more is ready.to) ∙ ready.to;
        }

    then_fewer : Ready p → left (exchange_of then i j) < left (exchange_of p i j)
    then_fewer ready =
        let e = exchange_of p i j in
        let w = ready.formed in
        let o = ready.stands in
        let pos = full_pos u p a x i j w o in
        let short = more_left (full_of p i) e more in
        let wrap = then_sent (full_of p i) e pos (sending (runs u p a x i j w o) ready.to).fits short (total_small u p a x i j w o) in
        rw (next_exchange_lem u p a x i j o then more (port_is u p a x start (cut unit start len) i j k step) ready.to) (fewer (full_of p i) e pos short wrap)

    then_runs : Ready p → Ends u unit a x then → Ends u unit a x p
    then_runs ready rest =
        record {
          pieces = _;
          response = rest.response;
          after = rest.after;
          run = piece start len i j k (frame_of (full_of p i) (exchange_of p i j)) step (sends_reply (full_of p i) (exchange_of p i j) more ready.to) rest.run;
          lone = rest.lone;
        }

  comes_next : (p : Port) (b : Bool) → has_more (exchange_of p i j) ≡ b → Ready p → ((q : Port) → Ready q → left (exchange_of q i j) < left (exchange_of p i j) → Ends u unit a x q) → Ends u unit a x p
  comes_next p false more ready rest = ends_here p more ready
  comes_next p true more ready rest = with_place (placed p more ready)
    where
      with_place : Placed unit len (full_of p i) (exchange_of p i j) → Ends u unit a x p
      with_place at =
          let start = block (exchange_of p i j) in
          let step = step_given p at ready in
          then_runs p start at.k more step ready (rest (then p start at.k more step) (then_ready p start at.k more step ready) (then_fewer p start at.k more step ready))

  comes : (fuel : ℕ) (p : Port) → left (exchange_of p i j) ≤ fuel → Ready p → Ends u unit a x p
  comes zero p h ready = comes_next p (has_more (exchange_of p i j)) refl ready (λ q on l. absurd (no_fewer (left (exchange_of q i j)) (left (exchange_of p i j)) h l))
    where
      no_fewer : (m n : ℕ) → n ≤ 0 → m < n → ⊥
      no_fewer m n h l = omega arith
  comes (suc fuel) p h ready = comes_next p (has_more (exchange_of p i j)) refl ready (λ q on l. comes fuel q (one_fewer (left (exchange_of q i j)) (left (exchange_of p i j)) h l) on)
    where
      one_fewer : (m n : ℕ) → n ≤ suc fuel → m < n → m ≤ fuel
      one_fewer m n h l = omega arith

-- every open exchange of a proven login whose data go to the host can be served to its end, of whatever kind it is and whatever was sent of it
pub run_comes : (u : Unit) (unit : List ℕ) (p : Port) (a x i j : ℕ) → well_formed u p ≡ true → length unit ≡ 512 * u.capacity → lookup_of p a x ≡ Open i j → (login_at p i).proven ≡ 1
    → is_write (exchange_of p i j) ≡ false → Ends u unit a x p
run_comes u unit p a x i j w long o proven to =
    comes u unit long 65536 (omega arith) (omega arith) a x i j (left (exchange_of p i j)) p (le_refl (left (exchange_of p i j))) (record { formed = w; stands = o; proven = proven; to = to })
