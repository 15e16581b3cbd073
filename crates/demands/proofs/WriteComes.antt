-- Every open WRITE of a proven login comes to its end: there are windows, and data frames that carry any bytes, as many as are left. Assumes nothing.
use mathlib.Core.Path.{◌≡◌, refl, sym, ap, ◌∙◌}
use mathlib.Core.Bool.{Bool, true, false}
use mathlib.Core.List.{List, [], ◌∷◌, ◌++◌}
use Prim.Native.Nat.{ℕ, zero, suc, ◌+◌, ◌-◌, ◌*◌, ◌%◌, ◌≤◌, ◌<◌, min}
use native.Mathlib.Decide.{ℕ_discrete}
use native.Mathlib.Nat.{le_refl}
use native.Mathlib.Omega.{arith}
use lib.ListN.{length, take, drop, replicate, length-take, length-drop, length-replicate, take-append-drop}
use Rattle.wire.specs.Layout.{AllBytes}
use Rattle.cover.specs.Cover.{cut}
use Rattle.state.specs.declared.Exchange.{Exchange}
use Rattle.state.specs.declared.Login.{Login}
use Rattle.state.specs.declared.Port.{Port}
use Rattle.state.specs.declared.Unit.{Unit}
use Rattle.state.specs.Standing.{Open}
use Rattle.state.specs.Changes.{login_at, with_exchange, asked}
use Rattle.state.specs.Kinds.{is_write}
use Rattle.state.specs.Tables.{lookup_of}
use Rattle.state.proofs.Places.{login_stored}
use Rattle.formed.specs.Formed.{total, well_formed}
use Rattle.formed.proofs.Taking.{then_taken}
use Rattle.serve.specs.Next.{has_more, exchange_of, full_of, Frame, step_of, frame_bytes, moved_on}
use Rattle.serve.proofs.Asking.{write_step}
use Rattle.serve.proofs.Frames.{more_left, none_left}
use Rattle.serve.proofs.Whole.{next_proven}
use Rattle.taking.specs.Taking.{burst_end}
use Rattle.taking.proofs.Bursts.{burst_awaited, burst_total}
use Rattle.arrival.specs.Arrival.{short_buffer}
use Rattle.drive.specs.declared.Drive.{Drive}
use Rattle.demands.specs.Reading.{payload_in}
use Rattle.demands.specs.Writing.{World, frame, next, acted, Gives, Takes, asks, takes, responds, WriteComes}
use Rattle.demands.proofs.Calls.{says, front_is}
use Rattle.demands.proofs.Stepping.{ready_shown, response_shown}
use Rattle.demands.proofs.Sending.{all_take, all_drop, Sendable, sent_frame, sent_start, sent_len, payload_is, sent_known, sent_from, sent_form, sent_id, sent_stores}
use Rattle.demands.proofs.Writing.{Stands, On, stepped, moved_on_lem, taken_on_lem, fine, came, all_same, few, inside}

-- a list of no bytes
none_left_of : (l : List ℕ) → length l ≡ 0 → l ≡ []
none_left_of [] h = refl
none_left_of (n ∷ l) h = absurd (omega arith)

-- the WRITE r of a and x, at place j of the login at place i; a buffer of 2,136 bytes is lent each time
module _ (a x i j : ℕ) (r : Exchange)
    (from n : ℕ) (id_small : x < 65536) (l : List ℕ) (room : length l ≡ 2136) where
  abbrev its : World → Exchange
  its w = exchange_of w.drive.port i j

  roomy : short_buffer (length l) ≡ false
  roomy = rw room

  -- it stands at a proven login
  record Able (w : World) : Type 0 where
    on : Stands a x i j r w
    proven : (login_at w.drive.port i).proven ≡ 1

  abbrev Comes : World → List ℕ → Type 0
  Comes w bytes = WriteComes a x from n w bytes

  module _ {w : World} (able : Able w) where
    abbrev u : Unit
    u = w.drive.unit

    abbrev p : Port
    p = w.drive.port

    abbrev W : List ℕ
    W = cut w.unit 0 0

    abbrev given_frame : List ℕ
    given_frame = frame_bytes u p a x i j (its w).sent W

    abbrev later : World
    later = acted w (next a x 0 0 (length l))

    step : step_of p a x 0 (length W) ≡ Frame i j (its w).sent
    step = write_step p a x 0 (length W) i j able.on.stands able.proven able.on.write (omega arith)

    -- a call for its next frame
    gives : Gives a x w given_frame later
    gives =
        record {
          start = 0;
          len = 0;
          buffer = l;
          n = length given_frame;
          said = says w.drive a x 0 W l i j (its w).sent roomy able.on.formed step;
          frame_is = sym (front_is w.drive a x 0 W l i j (its w).sent roomy able.on.formed step);
          world = refl;
        }

    -- all came
    comes_response : (bytes : List ℕ) → has_more (its w) ≡ false → length bytes ≡ total (its w) - (its w).sent → Comes w bytes
    unfolding gives
    comes_response bytes ends long =
        let all = none_left (full_of p i) (its w) ends in
        record {
          ready = [];
          frames = [];
          last = given_frame;
          end = later;
          writes = responds gives (response_shown u p a x i j (its w).sent W ends);
          lone = refl;
          carried = sym (none_left_of bytes (omega arith));
        }

    -- data are asked for
    module _ (more : has_more (its w) ≡ true) where
      asked_on : On a x i j r later (asked (its w)) w.unit
      asked_on = moved_on_lem a x i j r able.on (stepped a x i j r able.on gives) more

      asked_able : Able later
      asked_able =
          let t = stepped a x i j r able.on gives in
          record {
            on = asked_on.stands;
            proven = ap (λ (v : World). (login_at v.drive.port i).proven) t.world ∙ next_proven u p a x i j able.on.stands (moved_on p i j) more refl ∙ able.proven;
          }

      comes_asks : (bytes : List ℕ) → ((its w).awaited ≡ 1 → ⊥) → Comes later bytes → Comes w bytes
      unfolding gives
      comes_asks bytes idle rest =
          record {
            ready = given_frame ∷ rest.ready;
            frames = rest.frames;
            last = rest.last;
            end = rest.end;
            writes = asks gives (ready_shown u p a x i j (its w).sent W more able.on.write idle) rest.writes;
            lone = rest.lone;
            carried = rest.carried;
          }

    -- and sent, the front of the bytes that are left
    module _ (bytes : List ℕ) (known : AllBytes bytes) (m : ℕ) (most : m ≤ 2048) (there : m ≤ length bytes) (within : (its w).sent + m ≤ burst_end (its w)) where
      abbrev P : List ℕ
      P = take m bytes

      front_long : length P ≡ m
      front_long = let h = length-take m bytes in omega arith

      may : Sendable w.drive w.unit a x i j P
      may =
          let s = front_long in
          let on = able.on in
          let b = inside a x i j r on in
          let all = all_same a x i j r on in
          let small = few a x i j r on in
          let ends = burst_total (came a x i j r on) in
          let start = on.start in
          record {
            formed = on.formed;
            stands = on.stands;
            proven = able.proven;
            write = on.write;
            id_small = id_small;
            few = omega arith;
            within = omega arith;
            at_small = omega arith;
            inside = omega arith;
          }

      abbrev f : List ℕ
      f = sent_frame may

      abbrev taken_later : World
      taken_later = acted w (frame f (sent_start may) (sent_len may) 2136 (sent_known may (all_take m bytes known)))

      sends : Takes a x w f taken_later
      sends =
          record {
            start = sent_start may;
            len = sent_len may;
            room = 2136;
            known = sent_known may (all_take m bytes known);
            own = record { from = sent_from may; form = sent_form may };
            exchange = sent_id may;
            said = (sent_stores may).said;
            world = refl;
          }

      taken_able : Able taken_later
      unfolding with_exchange
      taken_able =
          let t = sent_stores may in
          record {
            on = (taken_on_lem a x i j r able.on sends).1.stands;
            proven = ap (λ (v : Drive). (login_at v.port i).proven) t.drive ∙ ap (λ (k : Login). k.proven) (login_stored p a x i j able.on.stands _) ∙ able.proven;
          }

      -- as many as were left, less these
      taken_left : length bytes ≡ total (its w) - (its w).sent → length (drop m bytes) ≡ total (its taken_later) - (its taken_later).sent
      taken_left long =
          let on = able.on in
          let t = taken_on_lem a x i j r on sends in
          let size : length (payload_in f) ≡ m = ap length (payload_is may) ∙ front_long in
          let ends = burst_total (came a x i j r on) in
          let wrap = then_taken (fine a x i j r on) m on.write (omega arith) in
          let sent : (its taken_later).sent ≡ (its w).sent + m = ap (λ (e : Exchange). e.sent) t.1.exchange ∙ ap (λ (k : ℕ). ((its w).sent + k) % 4294967296) size ∙ wrap in
          let all : total (its taken_later) ≡ total (its w) = all_same a x i j r t.1.stands ∙ sym (all_same a x i j r on) in
          let d = length-drop m bytes in
          omega arith

      comes_takes : Comes taken_later (drop m bytes) → Comes w bytes
      comes_takes rest =
          record {
            ready = rest.ready;
            frames = f ∷ rest.frames;
            last = rest.last;
            end = rest.end;
            writes = takes sends rest.writes;
            lone = rest.lone;
            carried = (λ k. payload_is may k ++ rest.carried k) ∙ take-append-drop m bytes;
          }

  -- the rest of it, where fewer than so many bytes are left
  abbrev All : ℕ → Type 0
  All k = (w : World) → Able w → (bytes : List ℕ) → AllBytes bytes → length bytes ≤ k → length bytes ≡ total (its w) - (its w).sent → Comes w bytes

  -- data are awaited: the next frame takes as many as it may
  comes_awaited : (k : ℕ) → All k → (w : World) → Able w → (its w).awaited ≡ 1 → has_more (its w) ≡ true → (bytes : List ℕ) → AllBytes bytes → length bytes ≤ suc k
      → length bytes ≡ total (its w) - (its w).sent → Comes w bytes
  comes_awaited k all w able waits more bytes known most long =
      let e = its w in
      let m = min 2048 (burst_end e - e.sent) in
      let short = more_left (full_of w.drive.port i) e more in
      let ends = burst_awaited e waits in
      let some : 0 < m = omega arith in
      let there : m ≤ length bytes = omega arith in
      let within : e.sent + m ≤ burst_end e = omega arith in
      let few : m ≤ 2048 = omega arith in
      let d = length-drop m bytes in
      comes_takes able bytes known m few there within
      (all (taken_later able bytes known m few there within) (taken_able able bytes known m few there within) (drop m bytes) (all_drop m bytes known) (omega arith) (taken_left able bytes known m few there within long))

  comes_more : (k : ℕ) → All k → (w : World) → Able w → has_more (its w) ≡ true → (bytes : List ℕ) → AllBytes bytes → length bytes ≤ suc k → length bytes ≡ total (its w) - (its w).sent → Comes w bytes
  unfolding has_more
  comes_more k all w able more bytes known most long =
      elim (ℕ_discrete (its w).awaited 1) [
        | yes h ↦ comes_awaited k all w able h more bytes known most long
        | no h ↦ (let on = asked_on able more in
            let is = on.exchange in
            let waits : (its (later able)).awaited ≡ 1 = ap (λ (e : Exchange). e.awaited) is in
            let left : length bytes ≡ total (its (later able)) - (its (later able)).sent = long ∙ sym (ap (λ (e : Exchange). total e - e.sent) is) in
            comes_asks able more bytes h (comes_awaited k all (later able) (asked_able able more) waits (ap has_more is ∙ more) bytes known most left))
      ]

  by_left : (k : ℕ) → All k → (w : World) → Able w → (b : Bool) → has_more (its w) ≡ b → (bytes : List ℕ) → AllBytes bytes → length bytes ≤ suc k → length bytes ≡ total (its w) - (its w).sent → Comes w bytes
  by_left k all w able false ends bytes known most long = comes_response able bytes ends long
  by_left k all w able true more bytes known most long = comes_more k all w able more bytes known most long

  comes_none : All 0
  comes_none w able bytes known most long = by (has_more (its w)) refl
    where
      by : (b : Bool) → has_more (its w) ≡ b → Comes w bytes
      by false ends = comes_response able bytes ends long
      by true more = let short = more_left (full_of w.drive.port i) (its w) more in absurd (omega arith)

  comes : (k : ℕ) → All k
  comes zero = comes_none
  comes (suc k) = λ w able bytes known most long. by_left k (comes k) w able (has_more (its w)) refl bytes known most long

-- such a run there is
pub write_comes : (w : World) (a x i j : ℕ) (bytes : List ℕ) → well_formed w.drive.unit w.drive.port ≡ true → length w.unit ≡ 512 * w.drive.unit.capacity
    → lookup_of w.drive.port a x ≡ Open i j → x < 65536 → (login_at w.drive.port i).proven ≡ 1 → is_write (exchange_of w.drive.port i j) ≡ true → AllBytes bytes
    → length bytes ≡ total (exchange_of w.drive.port i j) - (exchange_of w.drive.port i j).sent
    → WriteComes a x (512 * (exchange_of w.drive.port i j).start) (total (exchange_of w.drive.port i j)) w bytes
write_comes w a x i j bytes formed long stands small proven write known left =
    let r = exchange_of w.drive.port i j in
    comes a x i j r (512 * r.start) (total r) small (replicate 2136 0) (length-replicate {A = ℕ} 2136 0) (length bytes) w
    record { on = record { formed = formed; long = long; stands = stands; write = write; start = refl; wanted = refl; expected = refl }; proven = proven } bytes known (le_refl (length bytes)) left
