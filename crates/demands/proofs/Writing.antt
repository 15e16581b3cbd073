-- A whole WRITE: after its FCP_RSP the unit holds the data sent, each byte of it was asked for once, and the place is free. Assumes nothing.
use mathlib.Core.Path.{◌≡◌, refl, sym, ap, ◌∙◌, subst}
use mathlib.Core.Bool.{true, false}
use mathlib.Core.List.{List, [], ◌∷◌, ◌++◌, map, append_assoc, append-nil}
use Prim.Native.Nat.{ℕ, ◌+◌, ◌-◌, ◌*◌, ◌≤◌, ◌<◌, min}
use native.Mathlib.Omega.{arith}
use lib.ListN.{length, take, drop, length-append}
use lib.Seq.{take-take}
use Rattle.wire.specs.Bytes.{num, over}
use Rattle.wire.specs.Layout.{AllBytes}
use Rattle.frame.specs.Head.{header_of}
use Rattle.cover.specs.Cover.{position_of, cut}
use Rattle.state.specs.declared.Exchange.{Exchange}
use Rattle.state.specs.declared.Port.{Port}
use Rattle.state.specs.declared.Unit.{Unit}
use Rattle.state.specs.Standing.{Open}
use Rattle.state.specs.Changes.{empty_exchange, login_at, with_login, with_exchange, is_closed, asked}
use Rattle.state.specs.Kinds.{is_write}
use Rattle.state.specs.Tables.{has_id, lookup_of}
use Rattle.state.proofs.Places.{open_has, exchange_stored, lookup_same}
use Rattle.formed.specs.Formed.{total, well_formed}
use Rattle.formed.proofs.Advance.{Running, is_read, wanted_small}
use Rattle.formed.proofs.Taking.{Taken, Taking, taken_parts, taking, total_below, then_taken}
use Rattle.residual.specs.Residual.{residual_of}
use Rattle.serve.specs.Next.{has_more, exchange_of, full_of, burst_of, Frame, step_of, frame_bytes, moved_on}
use Rattle.serve.proofs.Steps.{passed}
use Rattle.serve.proofs.Asking.{asks_exchange}
use Rattle.serve.proofs.Keeping.{after_kept}
use Rattle.serve.proofs.Frames.{runs, port_is, more_left, none_left}
use Rattle.serve.proofs.Whole.{ended_port, next_open, next_moved}
use Rattle.taking.specs.Taking.{data_size, burst_end, taken_on}
use Rattle.taking.proofs.Bursts.{burst_awaited, burst_unasked, burst_asked, burst_total}
use Rattle.drive.specs.declared.Drive.{Drive}
use Rattle.drive.specs.Entry.{frame_in, next_frame, next_frame_buffer}
use Rattle.drive.proofs.Ways.{passed_in}
use Rattle.drive.proofs.Keeping.{frame_kept}
use Rattle.demands.specs.Between.{LeavesOpen}
use Rattle.demands.specs.Reading.{is_ready, is_response, payload_in, flags_in, Fresh, CommandIn, write_of, write}
use Rattle.demands.specs.Writing.{World, Act, frame, call_of, unit_after, acted, Gives, Takes, Writes, asks, waits, takes, responds, between, data_sent, burst_in, InBursts, none, one, Stored}
use Rattle.demands.proofs.Calls.{gave, front_is, drive_is}
use Rattle.demands.proofs.Stepping.{ready_left, awaited_left, nothing_left}
use Rattle.demands.proofs.Asks.{Good, exact_total, asks_burst, ends_good}
use Rattle.demands.proofs.Bursts.{unasked, burst_all, burst_taken}
use Rattle.demands.proofs.Between.{leaves_open}
use Rattle.demands.proofs.Opening.{opens_command}
use Rattle.demands.proofs.Windows.{stored_next}
use Rattle.demands.proofs.Storing.{stores_said, carried_long}
use Rattle.demands.proofs.Outside.{back_stored, unit_long}

-- the WRITE r of a and x, at place j of the login at place i
module _ (a x i j : ℕ) (r : Exchange) where
  abbrev pub at : World → Exchange
  at w = exchange_of w.drive.port i j

  abbrev from : ℕ
  from = 512 * r.start

  -- it stands where it stood, and is the one that it was but for what came of it
  pub record Stands (w : World) : Type 0 where
    pub formed : well_formed w.drive.unit w.drive.port ≡ true
    pub long : length w.unit ≡ 512 * w.drive.unit.capacity
    pub stands : lookup_of w.drive.port a x ≡ Open i j
    pub write : is_write (at w) ≡ true
    pub start : (at w).start ≡ r.start
    pub wanted : (at w).wanted ≡ r.wanted
    pub expected : (at w).expected ≡ r.expected

  module _ {w : World} (on : Stands w) where
    abbrev u : Unit
    u = w.drive.unit

    abbrev p : Port
    p = w.drive.port

    pub fine : Running u (full_of p i) (login_at p i).paired (at w)
    fine = runs u p a x i j on.formed on.stands

    blocks : Taking u (at w)
    blocks = taking fine on.write

    pub came : Taken (at w)
    came = taken_parts (at w) blocks.fits

    pub all_same : total (at w) ≡ total r
    all_same = λ n. min (on.wanted n) (on.expected n)

    pub few : total r ≤ 33553920
    few = let t = total_below fine blocks.blocks in let s = all_same in omega arith

    pub sent_within : (at w).sent ≤ total r
    sent_within = let c = came.within in let s = all_same in omega arith

    -- all its blocks are on the unit
    pub inside : from + total r ≤ length w.unit
    inside =
        let b = is_read u (at w) blocks.blocks fine.wanted in
        let wanted = b.wanted in
        let fits = b.inside in
        let long = on.long in
        let start = on.start in
        let s = all_same in
        omega arith

    left_same : residual_of (at w).wanted (at w).expected ≡ residual_of r.wanted r.expected
    left_same = λ n. residual_of (on.wanted n) (on.expected n)

  -- the world w₁ after a call: it stands, as the exchange f, and the unit has these bytes
  pub record On (w₁ : World) (f : Exchange) (unit₁ : List ℕ) : Type 0 where
    pub stands : Stands w₁
    pub exchange : at w₁ ≡ f
    pub unit : w₁.unit ≡ unit₁

  -- a call for its next frame
  pub record Stepped (w : World) (g : List ℕ) (e : World) : Type 0 where
    pub start : ℕ
    pub len : ℕ
    pub k : ℕ
    pub frame : g ≡ frame_bytes w.drive.unit w.drive.port a x i j k (cut w.unit start len)
    pub world : e ≡ record { drive = record { unit = w.drive.unit; port = moved_on w.drive.port i j }; unit = w.unit }

  pub stepped : {w e : World} {g : List ℕ} → Stands w → Gives a x w g e → Stepped w g e
  stepped {w} {e} {g} on s =
      let d = w.drive in
      let W = cut w.unit s.start s.len in
      let l = s.buffer in
      let v = gave d a x s.start W l s.n s.said in
      let there = (passed d.port a x s.start (length W) v.i v.j v.k v.step).stands in
      let o = on.stands in
      let is_i : v.i ≡ i = cc in
      let is_j : v.j ≡ j = cc in
      let step : step_of d.port a x s.start (length W) ≡ Frame i j v.k = v.step ∙ (λ n. Frame (is_i n) (is_j n) v.k) in
      let moved : (next_frame d a x s.start W (length l)).drive ≡ record { unit = d.unit; port = moved_on d.port i j } =
      drive_is d a x s.start W l v.i v.j v.k v.room v.formed v.step ∙ ap (λ (q : Port). record { unit = d.unit; port = q }) (port_is d.unit d.port a x s.start W i j v.k step) in
      record {
        start = s.start;
        len = s.len;
        k = v.k;
        frame = s.frame_is ∙ ap (λ (n : ℕ). take n (next_frame_buffer d a x s.start W l)) (sym v.is) ∙ front_is d a x s.start W l v.i v.j v.k v.room v.formed v.step
            ∙ (λ n. frame_bytes d.unit d.port a x (is_i n) (is_j n) v.k W);
        world = s.world ∙ ap (λ (q : Drive). record { drive = q; unit = w.unit }) moved;
      }

  -- after which data are awaited, where some are left
  pub moved_on_lem : {w e : World} {g : List ℕ} → Stands w → Stepped w g e → has_more (at w) ≡ true → On e (asked (at w)) w.unit
  moved_on_lem {w} {e} {g} on t more =
      let u = w.drive.unit in
      let p = w.drive.port in
      let q = moved_on p i j in
      let is : exchange_of q i j ≡ asked (at w) = next_moved u p a x i j on.stands q more refl ∙ asks_exchange (full_of p i) (at w) more on.write in
      subst (λ (v : World). On v (asked (at w)) w.unit) (sym t.world)
      record {
        stands = record {
          formed = after_kept u p a x i j on.stands on.formed;
          long = on.long;
          stands = next_open u p a x i j on.stands q more refl;
          write = ap is_write is ∙ on.write;
          start = ap (λ (f : Exchange). f.start) is ∙ on.start;
          wanted = ap (λ (f : Exchange). f.wanted) is ∙ on.wanted;
          expected = ap (λ (f : Exchange). f.expected) is ∙ on.expected;
        };
        exchange = is;
        unit = refl;
      }

  -- a data frame of it that was taken
  pub taken_on_lem : {w e : World} {f : List ℕ} → Stands w → Takes a x w f e
      → ((at w).sent + length (payload_in f) ≤ burst_end (at w)) × On e (taken_on (at w) (length (payload_in f))) (over w.unit (position_of (at w).start (at w).sent) (payload_in f))
  unfolding has_id
  taken_on_lem {w} {e} {f} on s =
      let d = w.drive in
      let p = d.port in
      let W = cut w.unit s.start s.len in
      let there : lookup_of p (header_of f).s_id (header_of f).ox_id ≡ Open i j = (λ n. lookup_of p (s.own.from n) (s.exchange n)) ∙ on.stands in
      let t = stores_said d f s.start W s.room i j s.own.form there s.said in
      let n = data_size (header_of f) (length f) in
      let long : length (payload_in f) ≡ n = carried_long (header_of f) f in
      let q = with_login p i (with_exchange (login_at p i) j (taken_on (at w) n)) in
      let is : exchange_of q i j ≡ taken_on (at w) n = exchange_stored p a x i j on.stands (taken_on (at w) n) in
      let unit-is = ap (over w.unit (512 * s.start)) t.window ∙ back_stored w.unit (login_at p i) (header_of f).ox_id (header_of f).offset n s.start s.len j t.k t.takes (payload_in f) long in
      let kept = frame_kept d f s.start W s.room s.known on.formed in
      let world : e ≡ record { drive = record { unit = d.unit; port = q }; unit = over w.unit (position_of (at w).start (at w).sent) (payload_in f) } = s.world ∙ (λ m. record { drive = t.drive m; unit = unit-is m }) in (
        let next = t.takes.next in let within = t.takes.burst in omega arith,
        subst (λ (m : ℕ). On e (taken_on (at w) m) (over w.unit (position_of (at w).start (at w).sent) (payload_in f))) (sym long)
            (subst (λ (v : World). On v (taken_on (at w) n) (over w.unit (position_of (at w).start (at w).sent) (payload_in f))) (sym world)
            record {
              stands = record {
                formed = subst (λ (v : Drive). well_formed v.unit v.port ≡ true) t.drive kept;
                long = ap length (sym unit-is) ∙ unit_long w (frame f s.start s.len s.room s.known) ∙ on.long;
                stands = lookup_same p a x i j on.stands (taken_on (at w) n) (open_has p a x i j on.stands);
                write = ap is_write is ∙ on.write;
                start = ap (λ (g : Exchange). g.start) is ∙ on.start;
                wanted = ap (λ (g : Exchange). g.wanted) is ∙ on.wanted;
                expected = ap (λ (g : Exchange). g.expected) is ∙ on.expected;
              };
              exchange = is;
              unit = refl;
            }),
      )

  -- a call between that leaves it open
  stays_on : {w : World} → Stands w → (c : Act) → LeavesOpen w.drive a x (call_of w.unit c) → On (acted w c) (at w) (unit_after w c)
  stays_on {w} on c leaves =
      let t = leaves_open w.drive a x i j on.formed on.stands (call_of w.unit c) leaves in
      let is = t.stays.exchange in
      record {
        stands = record {
          formed = t.formed;
          long = unit_long w c ∙ on.long ∙ ap (λ (v : Unit). 512 * v.capacity) (sym t.unit);
          stands = t.stays.after;
          write = ap is_write is ∙ on.write;
          start = ap (λ (f : Exchange). f.start) is ∙ on.start;
          wanted = ap (λ (f : Exchange). f.wanted) is ∙ on.wanted;
          expected = ap (λ (f : Exchange). f.expected) is ∙ on.expected;
        };
        exchange = is;
        unit = refl;
      }

  -- what the rest of the run comes to, from a world w on, of which so much was taken
  record Ended (w : World) (ready frames : List (List ℕ)) (last : List ℕ) (e : World) : Type 0 where
    bytes : take (total r) (drop from e.unit) ≡ take (at w).sent (drop from w.unit) ++ data_sent frames
    sent : (at w).sent + length (data_sent frames) ≡ total r
    bursts : InBursts (total r) (burst_end (at w)) (map burst_in ready)
    good : Good (residual_of r.wanted r.expected) last
    closed : is_closed (at e) ≡ true

  -- the same bytes of the unit, and as many sent
  ended_as : {w w₁ e : World} {ready frames : List (List ℕ)} {last : List ℕ} {f : Exchange} {unit₁ : List ℕ} → On w₁ f unit₁ → f.sent ≡ (at w).sent → burst_end f ≡ burst_end (at w)
      → take (at w).sent (drop from unit₁) ≡ take (at w).sent (drop from w.unit) → Ended w₁ ready frames last e → Ended w ready frames last e
  ended_as {w} {w₁} {e} {ready} {frames} on sent ends same rest =
      let s : (at w₁).sent ≡ (at w).sent = ap (λ (g : Exchange). g.sent) on.exchange ∙ sent in
      record {
        bytes = rest.bytes ∙ (λ n. take (s n) (drop from (on.unit n)) ++ data_sent frames) ∙ ap (λ (l : List ℕ). l ++ data_sent frames) same;
        sent = ap (λ (n : ℕ). n + length (data_sent frames)) (sym s) ∙ rest.sent;
        bursts = subst (λ (n : ℕ). InBursts (total r) n (map burst_in ready)) (ap burst_end on.exchange ∙ ends) rest.bursts;
        good = rest.good;
        closed = rest.closed;
      }

  ended_asks : {w w₁ e : World} {g last : List ℕ} {ready frames : List (List ℕ)} (on : Stands w) (t : Stepped w g w₁) (more : has_more (at w) ≡ true) → ((at w).awaited ≡ 1 → ⊥)
      → Ended w₁ ready frames last e → Ended w (g ∷ ready) frames last e
  ended_asks {w} {w₁} {e} {g} {last} {ready} {frames} on t more idle rest =
      let then = moved_on_lem on t more in
      let E = at w in
      let short : E.sent < total E = more_left (full_of w.drive.port i) E more in
      let all = all_same on in
      let small = few on in
      let next = asks_burst w.drive.unit w.drive.port a x i j t.k (cut w.unit t.start t.len) more on.write idle (omega arith) in
      let offset : (burst_in g).offset ≡ E.sent = ap (λ (f : List ℕ). (burst_in f).offset) t.frame ∙ next.0 in
      let size : (burst_in g).size ≡ burst_of E = ap (λ (f : List ℕ). (burst_in f).size) t.frame ∙ next.1 in
      let none-asked = unasked (came on) idle in
      let start = burst_unasked E none-asked in
      let after : burst_end (at w₁) ≡ E.sent + (burst_in g).size = ap burst_end then.exchange ∙ burst_asked (came on) none-asked short ∙ ap (λ (n : ℕ). E.sent + n) (sym size) in
      let below : E.sent < total r = omega arith in
      let bursts : InBursts (total r) E.sent (burst_in g ∷ map burst_in ready) = one below offset (size ∙ ap (λ (n : ℕ). min (n - E.sent) 65536) all) (subst (λ (n : ℕ). InBursts (total r) n (map burst_in ready)) after rest.bursts) in
      let s : (at w₁).sent ≡ E.sent = ap (λ (f : Exchange). f.sent) then.exchange in
      record {
        bytes = rest.bytes ∙ (λ n. take (s n) (drop from (then.unit n)) ++ data_sent frames);
        sent = ap (λ (n : ℕ). n + length (data_sent frames)) (sym s) ∙ rest.sent;
        bursts = subst (λ (n : ℕ). InBursts (total r) n (burst_in g ∷ map burst_in ready)) (sym start) bursts;
        good = rest.good;
        closed = rest.closed;
      }

  ended_waits : {w w₁ e : World} {g last : List ℕ} {ready frames : List (List ℕ)} (on : Stands w) (t : Stepped w g w₁) (more : has_more (at w) ≡ true) → (at w).awaited ≡ 1
      → Ended w₁ ready frames last e → Ended w ready frames last e
  ended_waits {w} on t more awaited rest = ended_as (moved_on_lem on t more) refl (burst_awaited (asked (at w)) refl ∙ sym (burst_awaited (at w) awaited)) refl rest

  ended_takes : {w w₁ e : World} {f last : List ℕ} {ready frames : List (List ℕ)} → Stands w → (at w).sent + length (payload_in f) ≤ burst_end (at w)
      → On w₁ (taken_on (at w) (length (payload_in f))) (over w.unit (position_of (at w).start (at w).sent) (payload_in f)) → Ended w₁ ready frames last e → Ended w ready (f ∷ frames) last e
  ended_takes {w} {w₁} {e} {f} {last} {ready} {frames} on within then rest =
      let E = at w in
      let P = payload_in f in
      let n = length P in
      let most = burst_total (came on) in
      let all = all_same on in
      let wrap = then_taken (fine on) n on.write (omega arith) in
      let s : (at w₁).sent ≡ E.sent + n = ap (λ (g : Exchange). g.sent) then.exchange ∙ wrap in
      let place : position_of E.start E.sent ≡ from + E.sent = ap (λ (m : ℕ). 512 * m + E.sent) on.start in
      let there : from + E.sent + n ≤ length w.unit = let b = inside on in omega arith in
      let unit₁ : w₁.unit ≡ over w.unit (from + E.sent) P = then.unit ∙ ap (λ (m : ℕ). over w.unit m P) place in
      let stored = stored_next w.unit from E.sent n P refl there in
      let ends = ap burst_end then.exchange ∙ burst_taken (came on) n within wrap in
      let long = length-append P (data_sent frames) in
      let last-sent = rest.sent in
      record {
        bytes = rest.bytes ∙ (λ m. take (s m) (drop from (unit₁ m)) ++ data_sent frames) ∙ ap (λ (l : List ℕ). l ++ data_sent frames) stored
            ∙ append_assoc (take E.sent (drop from w.unit)) P (data_sent frames);
        sent = omega arith;
        bursts = subst (λ (m : ℕ). InBursts (total r) m (map burst_in ready)) ends rest.bursts;
        good = rest.good;
        closed = rest.closed;
      }

  ended_response : {w e : World} {g : List ℕ} → r.expected < 4294967296 → (on : Stands w) (t : Stepped w g e) → has_more (at w) ≡ false → Ended w [] [] g e
  ended_response {w} {e} {g} dl on t ends =
      let u = w.drive.unit in
      let p = w.drive.port in
      let E = at w in
      let all = all_same on in
      let came_all : total E ≤ E.sent = none_left (full_of p i) E ends in
      let most = sent_within on in
      let s : E.sent ≡ total r = omega arith in
      let unit : e.unit ≡ w.unit = ap (λ (v : World). v.unit) t.world in
      let good = ends_good u p a x i j t.k (cut w.unit t.start t.len) ends (wanted_small u E (fine on).wanted) (subst (λ (n : ℕ). n < 4294967296) (sym on.expected) dl) in
      let free : exchange_of (moved_on p i j) i j ≡ empty_exchange = ap (λ (q : Port). exchange_of q i j) (ended_port u p a x i j on.stands ends) ∙ exchange_stored p a x i j on.stands empty_exchange in
      record {
        bytes = (λ n. take (sym s n) (drop from (unit n))) ∙ sym (append-nil (take E.sent (drop from w.unit)));
        sent = omega arith;
        bursts = subst (λ (n : ℕ). InBursts (total r) n []) (sym (burst_all (came on) came_all ∙ all)) none;
        good = subst (Good (residual_of r.wanted r.expected)) (sym t.frame) (subst (λ q. Good q (frame_bytes u p a x i j t.k (cut w.unit t.start t.len))) (left_same on) good);
        closed = ap (λ (v : World). is_closed (exchange_of v.drive.port i j)) t.world ∙ ap is_closed free;
      }

  -- the frame that shows itself as FCP_XFER_RDY, as nothing, as FCP_RSP
  module _ {w e : World} {g : List ℕ} (on : Stands w) (t : Stepped w g e) where
    is_asked : is_ready g ≡ true → (has_more (at w) ≡ true) × ((at w).awaited ≡ 1 → ⊥)
    is_asked h = let l = ready_left w.drive.unit w.drive.port a x i j t.k (cut w.unit t.start t.len) (ap is_ready (sym t.frame) ∙ h) in (l.0, l.2)

    is_awaited : g ≡ [] → (has_more (at w) ≡ true) × ((at w).awaited ≡ 1)
    is_awaited h = let l = awaited_left w.drive.unit w.drive.port a x i j t.k (cut w.unit t.start t.len) (sym t.frame ∙ h) in (l.0, l.2)

    is_ended : is_response g ≡ true → has_more (at w) ≡ false
    is_ended h = nothing_left w.drive.unit w.drive.port a x i j t.k (cut w.unit t.start t.len) (ap is_response (sym t.frame) ∙ h)

  ended : {w e : World} {ready frames : List (List ℕ)} {last : List ℕ} → r.expected < 4294967296 → Stands w → Writes a x from (total r) w ready frames last e → Ended w ready frames last e
  ended dl on (asks s shown rest) =
      let t = stepped on s in
      let h = is_asked on t shown in
      ended_asks on t h.0 h.1 (ended dl (moved_on_lem on t h.0).stands rest)
  ended dl on (waits s rest) =
      let t = stepped on s in
      let h = is_awaited on t refl in
      ended_waits on t h.0 h.1 (ended dl (moved_on_lem on t h.0).stands rest)
  ended dl on (takes s rest) = let t = taken_on_lem on s in ended_takes on t.0 t.1 (ended dl t.1.stands rest)
  ended dl on (responds s shown) = let t = stepped on s in ended_response dl on t (is_ended on t shown)
  ended {w} dl on (between c leaves spares rest) =
      let t = stays_on on c leaves in
      let few = sent_within on in
      let same : take (at w).sent (drop from (unit_after w c)) ≡ take (at w).sent (drop from w.unit) =
      sym (take-take (at w).sent (total r) (drop from (unit_after w c)) few) ∙ ap (take (at w).sent) spares ∙ take-take (at w).sent (total r) (drop from w.unit) few in
      ended_as t refl refl same (ended dl t.stands rest)

  -- from where nothing of it was sent and asked for
  pub writes_whole : (w e : World) (ready frames : List (List ℕ)) (last : List ℕ) → well_formed w.drive.unit w.drive.port ≡ true → length w.unit ≡ 512 * w.drive.unit.capacity
      → lookup_of w.drive.port a x ≡ Open i j → exchange_of w.drive.port i j ≡ r → is_write r ≡ true → r.expected < 4294967296 → r.sent ≡ 0 → r.awaited ≡ 0 → Writes a x (512 * r.start) (total r) w ready frames last e
      → Stored e.unit r ready frames last × (is_closed (exchange_of e.drive.port i j) ≡ true)
  writes_whole w e ready frames last formed long stands is wrote dl fresh unasked-first run =
      let on : Stands w = record {
        formed = formed;
        long = long;
        stands = stands;
        write = ap is_write is ∙ wrote;
        start = ap (λ (f : Exchange). f.start) is;
        wanted = ap (λ (f : Exchange). f.wanted) is;
        expected = ap (λ (f : Exchange). f.expected) is;
      } in
      let t = ended dl on run in
      let none_sent : (at w).sent ≡ 0 = ap (λ (f : Exchange). f.sent) is ∙ fresh in
      let unasked_yet : (at w).awaited ≡ 0 = ap (λ (f : Exchange). f.awaited) is ∙ unasked-first in (
        record {
          bytes = t.bytes ∙ ap (λ (n : ℕ). take n (drop from w.unit) ++ data_sent frames) none_sent;
          sent = let all = t.sent in omega arith;
          bursts = subst (λ (n : ℕ). InBursts (total r) n (map burst_in ready)) (burst_unasked (at w) unasked_yet ∙ none_sent) t.bursts;
          status = t.good.status;
          flags = t.good.flags;
          resid = t.good.resid;
          rest = t.good.rest;
        },
        t.closed,
      )

-- of an exchange of which nothing was sent
pub whole_write : (w e : World) (a x i j : ℕ) (ready frames : List (List ℕ)) (last : List ℕ) → well_formed w.drive.unit w.drive.port ≡ true → length w.unit ≡ 512 * w.drive.unit.capacity
    → Fresh w.drive a x i j → is_write (exchange_of w.drive.port i j) ≡ true → (exchange_of w.drive.port i j).awaited ≡ 0
    → Writes a x (512 * (exchange_of w.drive.port i j).start) (total (exchange_of w.drive.port i j)) w ready frames last e
    → Stored e.unit (exchange_of w.drive.port i j) ready frames last × (is_closed (exchange_of e.drive.port i j) ≡ true)
whole_write w e a x i j ready frames last formed long o wrote unasked-first run =
    writes_whole a x i j (exchange_of w.drive.port i j) w e ready frames last formed long o.stands refl wrote o.expected o.fresh unasked-first run

-- from the WRITE(10) frame on, and where there is no residual all its blocks
module _ (d : Drive) (e : World) (unit f : List ℕ) (start : ℕ) (W l : List ℕ) (ready frames : List (List ℕ)) (last : List ℕ) where
  abbrev opened_drive : Drive
  opened_drive = (frame_in d f start W (length l)).drive

  pub whole_write_in : length unit ≡ 512 * d.unit.capacity → (known : AllBytes f) (r : CommandIn 0x2a d f start W l)
      → Writes (header_of f).s_id (header_of f).ox_id (512 * num 4 f 38) (total (write_of f)) (record { drive = (frame_in d f start W (length l)).drive; unit = unit }) ready frames last e
      → let o = opens_command write d f start W l known r in
      Stored e.unit (write_of f) ready frames last × (is_closed (exchange_of e.drive.port o.i o.j) ≡ true)
      × (flags_in last ≡ 0x00 → take (512 * num 2 f 43) (drop (512 * num 4 f 38) e.unit) ≡ data_sent frames)
  whole_write_in long known r run =
      let o = opens_command write d f start W l known r in
      let fine = (passed_in d f start (length W) (length l) r.passed).arrived.fine in
      let long₁ : length unit ≡ 512 * opened_drive.unit.capacity = long ∙ ap (λ (s : Drive). 512 * s.unit.capacity) (sym o.drive) in
      let dl = subst (λ (s : Exchange). s.expected < 4294967296) o.is o.fresh.expected in
      let t = writes_whole (header_of f).s_id (header_of f).ox_id o.i o.j (write_of f) record { drive = opened_drive; unit = unit } e ready frames last (frame_kept d f start W (length l) known fine) long₁ o.fresh.stands o.is refl dl refl refl run in
      let all : flags_in last ≡ 0x00 → total (write_of f) ≡ 512 * num 2 f 43 = λ h. exact_total (512 * num 2 f 43) (num 4 f 52) (sym t.0.flags ∙ h) in
      (t.0, t.1, λ h. ap (λ (n : ℕ). take n (drop (512 * num 4 f 38) e.unit)) (sym (all h)) ∙ t.0.bytes)
