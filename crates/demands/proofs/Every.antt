-- Every byte of every data frame of an exchange. Assumes nothing.
use mathlib.Core.Path.{◌≡◌, refl, sym, ap, ◌∙◌, subst}
use mathlib.Core.Bool.{true, false, cond}
use mathlib.Core.List.{List, [], ◌∷◌}
use Prim.Native.Nat.{ℕ, zero, suc, ◌+◌, ◌-◌, ◌*◌, ◌%◌, ◌≤◌, ◌<◌, min}
use native.Mathlib.Nat.{zero-mul, add-mul, one-mul}
use native.Mathlib.Decide.{dec_le}
use native.Mathlib.Omega.{arith}
use lib.Dec.{eqb, leb}
use lib.ListN.{length, take, drop, length-take}
use lib.Seq.{take_all, take-take, take-nil}
use borrow.Author.Tests.{le-leb, lt-leb, eq-eqb, ne_eqb}
use Rattle.cover.specs.Cover.{cut}
use Rattle.state.specs.declared.Exchange.{Exchange}
use Rattle.state.specs.declared.Port.{Port}
use Rattle.state.specs.declared.Unit.{Unit}
use Rattle.state.specs.Standing.{Open}
use Rattle.state.specs.Changes.{advanced}
use Rattle.state.specs.Kinds.{kind_blocks, is_write}
use Rattle.state.specs.Tables.{lookup_of}
use Rattle.formed.specs.Formed.{full_frame, total, next_bytes, frames_of, well_formed}
use Rattle.formed.proofs.Advance.{sending, no_frames, sent_counted, then_sent}
use Rattle.serve.specs.Made.{made_bytes}
use Rattle.serve.specs.Next.{has_more, exchange_of, full_of, Frame, step_of, frame_bytes, moved_on, next_of}
use Rattle.serve.specs.Whole.{payload_at, data_of}
use Rattle.serve.proofs.Steps.{passed}
use Rattle.serve.proofs.Keeping.{next_kept}
use Rattle.serve.proofs.Frames.{runs, full_pos, total_small, more_left, source_is, payload_is, port_is}
use Rattle.serve.proofs.Asking.{sends_reply}
use Rattle.serve.proofs.Whole.{next_open, next_exchange_lem, next_full}
use Rattle.drive.specs.declared.Drive.{Drive}
use Rattle.demands.specs.Between.{after, Left}
use Rattle.demands.specs.Reading.{is_data, Reads, carries, responds, between, Fresh, data_header, framed, data_frame, data_frames}
use Rattle.demands.proofs.Decoding.{data_frame_lem}
use Rattle.demands.proofs.Between.{leaves_open}
use Rattle.demands.proofs.Stepping.{data_left, own_stays, Stepped, stepped}

same_take : (m n : ℕ) (l : List ℕ) → m ≡ n → take m l ≡ take n l
same_take m n l h = ap (λ (k : ℕ). take k l) h

-- what stands after the first s of the first t
drop_take : (s t : ℕ) (l : List ℕ) → drop s (take t l) ≡ take (t - s) (drop s l)
drop_take zero t l = same_take t (t - 0) l (omega arith)
drop_take (suc s) zero l = same_take 0 (0 - suc s) (drop (suc s) l) (omega arith)
drop_take (suc s) (suc t) [] = sym (take-nil (suc t - suc s))
drop_take (suc s) (suc t) (x ∷ l) = drop_take s t l ∙ same_take (t - s) (suc t - suc s) (drop s l) (omega arith)

-- so many of them, or what is left
take_left : (n s t : ℕ) (l : List ℕ) → take n (drop s (take t l)) ≡ take (min n (t - s)) (drop s l)
take_left n s t l =
    ap (take n) (drop_take s t l)
    ∙ elim (dec_le n (t - s)) [
      | yes h ↦ take-take n (t - s) (drop s l) h ∙ same_take n (min n (t - s)) (drop s l) (omega arith)
      | no h ↦ take_all n (take (t - s) (drop s l)) (let m = length-take (t - s) (drop s l) in omega arith) ∙ same_take (t - s) (min n (t - s)) (drop s l) (omega arith)
    ]

-- the last is the one after which none are left
last_same : (s full t : ℕ) → s < t → eqb (s + min full (t - s)) t ≡ leb t (s + full)
last_same s full t h =
    elim (dec_le t (s + full)) [
      | yes l ↦ eq-eqb (s + min full (t - s)) t (omega arith) ∙ sym (le-leb t (s + full) l)
      | no l ↦ ne_eqb (s + min full (t - s)) t (λ e. omega arith) ∙ sym (lt-leb t (s + full) (omega arith))
    ]

-- one frame more, of `full` bytes
one_more : (number full : ℕ) → number * full + full ≡ (number + 1) * full
one_more number full = sym (add-mul number 1 full ∙ ap (λ (m : ℕ). number * full + m) (one-mul full))

-- a frame after which bytes are left was a full one
whole_then : (sent full all then : ℕ) → then ≡ sent + min full (all - sent) → then < all → then ≡ sent + full
whole_then sent full all then e l = omega arith

round : (number count : ℕ) → count ≡ number % 65536 → (count + 1) % 65536 ≡ (number + 1) % 65536
round number count h = omega arith

-- an exchange r of the unit u to a login whose frames carry `full` bytes, all of its data there
module _ (u : Unit) (unit : List ℕ) (own a x i j full : ℕ) (r : Exchange) (enough : total r ≤ length (data_of u unit r)) where
  abbrev all : List ℕ
  all = take (total r) (data_of u unit r)

  -- it stands where it stood, and so many frames of it were sent
  record Running (number : ℕ) (d : Drive) : Type 0 where
    same : d.unit ≡ u
    formed : well_formed d.unit d.port ≡ true
    stands : lookup_of d.port a x ≡ Open i j
    from : d.port.address ≡ own
    size : full_of d.port i ≡ full
    kind : (exchange_of d.port i j).kind ≡ r.kind
    start : (exchange_of d.port i j).start ≡ r.start
    wanted : (exchange_of d.port i j).wanted ≡ r.wanted
    expected : (exchange_of d.port i j).expected ≡ r.expected
    count : (exchange_of d.port i j).count ≡ number % 65536
    sent : has_more (exchange_of d.port i j) ≡ true → (exchange_of d.port i j).sent ≡ number * full

  module _ (number : ℕ) (d : Drive) (on : Running number d) (start len k : ℕ) (step : step_of d.port a x start (length (cut unit start len)) ≡ Frame i j k) (more : has_more (exchange_of d.port i j) ≡ true)
      (to : is_write (exchange_of d.port i j) ≡ false) where
    abbrev e : Exchange
    e = exchange_of d.port i j

    abbrev W : List ℕ
    W = cut unit start len

    total_same : total e ≡ total r
    total_same = λ n. min (on.wanted n) (on.expected n)

    all_long : length all ≡ total r
    all_long = let l = length-take (total r) (data_of u unit r) in omega arith

    -- what it carries
    payload_left : payload_at d.unit d.port a x i j k W ≡ take full (drop (number * full) all)
    payload_left =
        let given = payload_is d.unit d.port a x i j k W _ (sends_reply (full_of d.port i) e more to) in
        let here = source_is d.unit unit (full_of d.port i) e start len k more to (passed d.port a x start (length W) i j k step).place in
        let data_same : data_of d.unit unit e ≡ data_of u unit r = λ n. cond (eqb (on.kind n) kind_blocks) (drop (512 * on.start n) unit) (made_bytes (on.same n) (on.kind n)) in
        let same : take (next_bytes (full_of d.port i) e) (drop e.sent (data_of d.unit unit e)) ≡ take (min full (total r - number * full)) (drop (number * full) (data_of u unit r))
        = λ n. take (min (on.size n) (total_same n - on.sent more n)) (drop (on.sent more n) (data_same n)) in
        given ∙ here ∙ same ∙ sym (take_left full (number * full) (total r) (data_of u unit r))

    -- whether it is the last
    last_left : eqb (e.sent + next_bytes (full_of d.port i) e) (total e) ≡ leb (length all) (number * full + full)
    last_left =
        last_same e.sent (full_of d.port i) (total e) (more_left (full_of d.port i) e more)
        ∙ (λ n. leb ((total_same ∙ sym all_long) n) (on.sent more n + on.size n))

    -- every byte of it
    frame_left : (f : List ℕ) → f ≡ frame_bytes d.unit d.port a x i j k W → f ≡ data_frame own a x full all number
    frame_left f is = is ∙ data_frame_lem d.unit d.port a x i j k W more to ∙ (λ n. framed (data_header (on.from n) a x (last_left n) (on.count n) (on.sent more n)) (payload_left n))

    -- and one more was sent
    abbrev then : Port
    then = (next_of d.unit d.port a x start W).port

    moved : then ≡ moved_on d.port i j
    moved = port_is d.unit d.port a x start W i j k step

    then_is : exchange_of then i j ≡ advanced e (next_bytes (full_of d.port i) e)
    then_is = next_exchange_lem d.unit d.port a x i j on.stands then more moved to

    then_left : has_more (exchange_of then i j) ≡ true → (exchange_of then i j).sent ≡ (number + 1) * full
    then_left left =
        let u = d.unit in
        let p = d.port in
        let pos = full_pos u p a x i j on.formed on.stands in
        let sent = then_sent (full_of p i) e pos (sending (runs u p a x i j on.formed on.stands) to).fits (more_left (full_of p i) e more) (total_small u p a x i j on.formed on.stands) in
        let is = ap (λ (s : Exchange). s.sent) then_is ∙ sent in
        let all_same : total (exchange_of then i j) ≡ total e = ap (λ (s : Exchange). total s) then_is in
        let short : (exchange_of then i j).sent < total e = subst (λ (t : ℕ). (exchange_of then i j).sent < t) all_same (more_left full (exchange_of then i j) left) in
        whole_then e.sent (full_of p i) (total e) (exchange_of then i j).sent is short ∙ (λ n. on.sent more n + on.size n) ∙ one_more number full

    then_running : Running (number + 1) record { unit = d.unit; port = then }
    then_running =
        record {
          same = on.same;
          formed = next_kept d.unit d.port a x start W on.formed;
          stands = next_open d.unit d.port a x i j on.stands then more moved;
          from = own_stays d.unit d.port a x start W i j k step ∙ on.from;
          size = next_full d.unit d.port a x i j on.stands then more moved ∙ on.size;
          kind = ap (λ (s : Exchange). s.kind) then_is ∙ on.kind;
          start = ap (λ (s : Exchange). s.start) then_is ∙ on.start;
          wanted = ap (λ (s : Exchange). s.wanted) then_is ∙ on.wanted;
          expected = ap (λ (s : Exchange). s.expected) then_is ∙ on.expected;
          count = ap (λ (s : Exchange). s.count) then_is ∙ round number e.count on.count;
          sent = then_left;
        }

  -- a call that sent a data frame
  record Sent (number : ℕ) (f : List ℕ) (d₁ : Drive) : Type 0 where
    is : f ≡ data_frame own a x full all number
    then : Running (number + 1) d₁

  sent_one : (number : ℕ) (d d₁ : Drive) (f : List ℕ) → Running number d → Stepped unit a x d f d₁ → is_data f ≡ true → Sent number f d₁
  sent_one number d d₁ f on t shown =
      let W = cut unit t.start t.len in
      let o = on.stands in
      let s = t.stands in
      let is_i : t.i ≡ i = cc in
      let is_j : t.j ≡ j = cc in
      let step : step_of d.port a x t.start (length W) ≡ Frame i j t.k = t.step ∙ (λ n. Frame (is_i n) (is_j n) t.k) in
      let frame : f ≡ frame_bytes d.unit d.port a x i j t.k W = t.frame ∙ (λ n. frame_bytes d.unit d.port a x (is_i n) (is_j n) t.k W) in
      let left = data_left d.unit d.port a x i j t.k W (rw frame at shown) in
      record {
        is = frame_left number d on t.start t.len t.k step left.0 left.1 f frame;
        then = subst (Running (number + 1)) (sym t.drive) (then_running number d on t.start t.len t.k step left.0 left.1);
      }

  -- a call between that leaves it open
  stays_running : (number : ℕ) (d d₁ : Drive) → Running number d → Left a x i j d d₁ → Running number d₁
  stays_running number d d₁ on t =
      let e-is = t.stays.exchange in
      record {
        same = t.unit ∙ on.same;
        formed = t.formed;
        stands = t.stays.after;
        from = t.stays.own ∙ on.from;
        size = ap full_frame t.stays.size ∙ on.size;
        kind = ap (λ (s : Exchange). s.kind) e-is ∙ on.kind;
        start = ap (λ (s : Exchange). s.start) e-is ∙ on.start;
        wanted = ap (λ (s : Exchange). s.wanted) e-is ∙ on.wanted;
        expected = ap (λ (s : Exchange). s.expected) e-is ∙ on.expected;
        count = ap (λ (s : Exchange). s.count) e-is ∙ on.count;
        sent = λ more. ap (λ (s : Exchange). s.sent) e-is ∙ on.sent (ap has_more (sym e-is) ∙ more);
      }

  -- every data frame of the run is the one of its number
  every_frame : {d e : Drive} {frames : List (List ℕ)} {last : List ℕ} (number : ℕ) → Running number d → Reads unit a x d frames last e → frames ≡ data_frames own a x full all (length frames) number
  every_frame number on (responds s shown) = refl
  every_frame {d} {e} number on (carries {d₁ = d₁} {f = f} s shown rest) =
      let t = sent_one number d d₁ f on (stepped s) shown in
      let more = every_frame (number + 1) t.then rest in
      λ n. t.is n ∷ more n
  every_frame {d} {e} number on (between c leaves rest) = every_frame number (stays_running number d (after d c) on (leaves_open d a x i j on.formed on.stands c leaves)) rest

-- from an open exchange on, of which nothing was sent
pub reads_each : (d e : Drive) (unit : List ℕ) (a x i j : ℕ) (frames : List (List ℕ)) (last : List ℕ) → well_formed d.unit d.port ≡ true
    → total (exchange_of d.port i j) ≤ length (data_of d.unit unit (exchange_of d.port i j)) → Fresh d a x i j → is_write (exchange_of d.port i j) ≡ false → Reads unit a x d frames last e
    → frames ≡ data_frames d.port.address a x (full_of d.port i) (take (total (exchange_of d.port i j)) (data_of d.unit unit (exchange_of d.port i j))) (length frames) 0
reads_each d e unit a x i j frames last w enough o to reads =
    let u = d.unit in
    let p = d.port in
    let r = exchange_of p i j in
    let full = full_of p i in
    let known = sending (runs u p a x i j w o.stands) to in
    let none : frames_of r.sent full ≡ 0 = ap (λ (s : ℕ). frames_of s full) o.fresh ∙ no_frames full (full_pos u p a x i j w o.stands) in
    every_frame u unit p.address a x i j full r enough 0
    record {
      same = refl;
      formed = w;
      stands = o.stands;
      from = refl;
      size = refl;
      kind = refl;
      start = refl;
      wanted = refl;
      expected = refl;
      count = sent_counted full r known.fits ∙ ap (λ (s : ℕ). s % 65536) none;
      sent = λ _. o.fresh ∙ sym (zero-mul full);
    }
    reads
