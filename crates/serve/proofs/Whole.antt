-- All the frames of an exchange one after the other: the very bytes, each once and in order, and then the response. Assumes nothing.
use mathlib.Core.Path.{◌≡◌, refl, sym, ap, ◌∙◌, subst}
use mathlib.Core.Bool.{Bool, true, false, cond, ◌&&◌}
use mathlib.Core.List.{List, [], ◌∷◌, ◌++◌}
use Prim.Native.Nat.{ℕ, suc, ◌+◌, ◌-◌, ◌*◌, ◌%◌, ◌≤◌, ◌<◌}
use native.Mathlib.Nat.{zero-add}
use native.Mathlib.Omega.{arith}
use lib.Dec.{eqb, leb}
use lib.ListN.{length, take, drop, length-take, length-drop}
use lib.Seq.{take-add, drop-drop}
use borrow.Author.Tests.{leb-true, eqb-true}
use Rattle.tables.proofs.Bools.{and_right, apart}
use Rattle.cover.specs.Cover.{cut}
use Rattle.state.specs.declared.Exchange.{Exchange}
use Rattle.state.specs.declared.Port.{Port}
use Rattle.state.specs.declared.Unit.{Unit}
use Rattle.state.specs.Standing.{Open}
use Rattle.state.specs.Changes.{empty_exchange, login_at, with_login, with_exchange, ended_at, is_closed, advanced}
use Rattle.state.specs.Kinds.{kind_blocks, kind_inquiry_other, kind_capacity, kind_sense_other, is_write}
use Rattle.state.specs.Tables.{has_id, lookup_of}
use Rattle.state.proofs.Places.{open_has, exchange_stored, login_stored, lookup_same, login_twice, exchange_twice}
use Rattle.formed.specs.Formed.{full_frame, total, next_bytes, frames_of, wanted_fits, well_formed}
use Rattle.formed.proofs.Advance.{Reads, sending, is_made, no_frames, frames_then, then_sent}
use Rattle.residual.specs.Residual.{residual_of}
use Rattle.calls.proofs.Decisions.{on_cond}
use Rattle.reply.specs.declared.DataFrame.{DataFrame}
use Rattle.reply.specs.declared.Response.{Response}
use Rattle.reply.specs.declared.Response.TheVariants.{Status}
use Rattle.reply.specs.declared.Reply.TheVariants.{Respond, Data}
use Rattle.reply.specs.Payload.{sense_bytes}
use Rattle.serve.specs.Made.{inquiry_bytes, capacity_bytes, sense_of, made_bytes}
use Rattle.serve.specs.Next.{has_more, frame_of, next_reply, next_exchange, exchange_of, full_of, Frame, step_of, moved_on, next_of}
use Rattle.serve.specs.Whole.{StaysOpen, Piece, payload_at, Run, piece, ends, aside, Freed, joined, InOrder, none, one, data_of, Rest, AllFrames}
use Rattle.serve.proofs.Steps.{passed}
use Rattle.serve.proofs.Asking.{sends_exchange}
use Rattle.serve.proofs.Keeping.{next_kept}
use Rattle.serve.proofs.Frames.{runs, full_pos, total_small, sent_most, is_data_lem, is_response_lem, more_left, none_left, next_counted, source_is, payload_is, port_is}

-- nothing is left but the response
rest_none : (u : Unit) (unit : List ℕ) (full : ℕ) (e : Exchange) (r : Response) → e.sent ≡ total e → r ≡ Status 0x00 (residual_of e.wanted e.expected) → Rest u unit full e [] r
rest_none u unit full e r s h =
    let z : total e - e.sent ≡ 0 = omega arith in
    record { bytes = rw z; order = none; frames = ap (λ (n : ℕ). frames_of n full + 0) s ∙ plus_none (frames_of (total e) full); response = h }
  where
    plus_none : (n : ℕ) → n + 0 ≡ n
    plus_none n = omega arith

-- a data frame, and what is left after it
rest_one : (u : Unit) (unit : List ℕ) (full : ℕ) (e : Exchange) (f : Piece) (fs : List Piece) (r : Response) → 0 < full → e.sent < total e → total e ≤ length (data_of u unit e)
    → (e.sent + next_bytes full e) % 4294967296 ≡ e.sent + next_bytes full e → frames_of (e.sent + next_bytes full e) full ≡ frames_of e.sent full + 1
    → f.offset ≡ e.sent → f.count ≡ frames_of e.sent full % 65536 → f.payload ≡ take (next_bytes full e) (drop e.sent (data_of u unit e))
    → Rest u unit full (advanced e (next_bytes full e)) fs r → Rest u unit full e (f ∷ fs) r
rest_one u unit full e f fs r pos short enough wrap number at count payload rest =
    let n = next_bytes full e in
    let all = data_of u unit e in
    let left : n + (total e - (e.sent + n)) ≡ total e - e.sent = omega arith in
    let long : length f.payload ≡ n = ap length payload ∙ length-take n (drop e.sent all) ∙ (let d = length-drop e.sent all in omega arith) in
    let bytes : joined fs ≡ take (total e - (e.sent + n)) (drop (e.sent + n) all) = rw wrap at rest.bytes in
    let order : InOrder (e.sent + n) (frames_of (e.sent + n) full) fs = rw wrap at rest.order in
    let frames : frames_of (e.sent + n) full + length fs ≡ frames_of (total e) full = rw wrap at rest.frames in
    record {
      bytes = ap (λ (b : List ℕ). b ++ joined fs) payload ∙ ap (λ (b : List ℕ). take n (drop e.sent all) ++ b) (bytes ∙ ap (take (total e - (e.sent + n))) (sym (drop-drop n e.sent all)))
          ∙ sym (take-add n (total e - (e.sent + n)) (drop e.sent all)) ∙ ap (λ (m : ℕ). take m (drop e.sent all)) left;
      order = one at count (subst (λ (m : ℕ). InOrder (e.sent + m) (frames_of e.sent full + 1) fs) (sym long) (rw number at order));
      frames = after (frames_of e.sent full) (frames_of (e.sent + n) full) (length fs) number ∙ frames;
      response = rest.response;
    }
  where
    after : (a b n : ℕ) → b ≡ a + 1 → a + suc n ≡ b + n
    after a b n h = omega arith

offset_is : (full : ℕ) (e : Exchange) (d : DataFrame) → d ≡ frame_of full e → d.offset ≡ e.sent
unfolding frame_of
offset_is full e d h = ap (λ f. f.offset) h

-- the port after one frame of an open exchange
module _ (u : Unit) (p : Port) (a x i j : ℕ) (o : lookup_of p a x ≡ Open i j) where
  pub ended_port : has_more (exchange_of p i j) ≡ false → moved_on p i j ≡ with_login p i (ended_at (login_at p i) j)
  unfolding moved_on next_exchange
  ended_port more = rw more

  -- the exchange, one data frame on or with its data asked for
  module _ (q : Port) (more : has_more (exchange_of p i j) ≡ true) (is : q ≡ moved_on p i j) where
    next : Exchange
    next = next_exchange (full_of p i) (exchange_of p i j)

    is_on : q ≡ with_login p i (with_exchange (login_at p i) j next)
    unfolding next moved_on
    is_on = is

    next_has : has_id x next ≡ true
    unfolding has_id next next_exchange
    next_has = rw more (on_cond (λ f. has_id x f ≡ true) (is_write (exchange_of p i j)) (open_has p a x i j o) (open_has p a x i j o))

    pub next_open : lookup_of q a x ≡ Open i j
    next_open = ap (λ s. lookup_of s a x) is_on ∙ lookup_same p a x i j o next next_has

    pub next_moved : exchange_of q i j ≡ next_exchange (full_of p i) (exchange_of p i j)
    unfolding next
    next_moved = ap (λ s. exchange_of s i j) is_on ∙ exchange_stored p a x i j o next

    pub next_exchange_lem : is_write (exchange_of p i j) ≡ false → exchange_of q i j ≡ advanced (exchange_of p i j) (next_bytes (full_of p i) (exchange_of p i j))
    next_exchange_lem to = next_moved ∙ sends_exchange (full_of p i) (exchange_of p i j) more to

    next_login : login_at q i ≡ with_exchange (login_at p i) j next
    next_login = ap (λ s. login_at s i) is_on ∙ login_stored p a x i j o (with_exchange (login_at p i) j next)

    pub next_full : full_of q i ≡ full_of p i
    unfolding with_exchange
    next_full = ap (λ l. full_frame l.size) next_login

    pub next_proven : (login_at q i).proven ≡ (login_at p i).proven
    unfolding with_exchange
    next_proven = ap (λ l. l.proven) next_login

    -- and ended after it
    pub next_ended : with_login q i (ended_at (login_at q i) j) ≡ with_login p i (ended_at (login_at p i) j)
    next_ended =
        ap (λ l. with_login q i (ended_at l j)) next_login
        ∙ ap (λ s. with_login s i (ended_at (with_exchange (login_at p i) j next) j)) is_on
        ∙ login_twice p i (with_exchange (login_at p i) j next) (ended_at (with_exchange (login_at p i) j next) j)
        ∙ ap (with_login p i) (exchange_twice (login_at p i) j next empty_exchange)

module _ (u : Unit) (unit : List ℕ) (a x i j : ℕ) where
  -- whatever windows, and whatever happens between that leaves it open: from a well-formed port on, the frames of an exchange are what is left of it, and its place is free after them;
  -- where nothing happened between, the port after them is the one in which it has ended
  pub run_serves : {p q : Port} {pieces : List Piece} {r : Response} → well_formed u p ≡ true → lookup_of p a x ≡ Open i j → total (exchange_of p i j) ≤ length (data_of u unit (exchange_of p i j))
      → (run : Run u unit a x p pieces r q) → Rest u unit (full_of p i) (exchange_of p i j) pieces r × Freed i j run
  run_serves {p} {q} {pieces} {r} w o enough (ends start len m n k step reply) =
      let stands = (passed p a x start (length (cut unit start len)) m n k step).stands in
      let is_i : m ≡ i = cc in
      let is_j : n ≡ j = cc in
      let e = exchange_of p i j in
      let said : next_reply (full_of p i) e ≡ Respond r = cc in
      let is_step : step_of p a x start (length (cut unit start len)) ≡ Frame i j k = cc in
      let t = is_response_lem (full_of p i) e r said in
      let within = sent_most u p a x i j w o in
      let done = none_left (full_of p i) e t.0 in
      let is = port_is u p a x start (cut unit start len) i j k is_step ∙ ended_port u p a x i j o t.0 in
      let free : is_closed (exchange_of q i j) ≡ true = rw is (rw (exchange_stored p a x i j o empty_exchange)) in
      (rest_none u unit (full_of p i) e r (omega arith) t.1, record { closed = free; only = λ _. is })
  run_serves {p} {q} {pieces} {r} w o enough (piece {pieces = fs} start len m n k d step reply rest) =
      let W = cut unit start len in
      let stands = (passed p a x start (length W) m n k step).stands in
      let is_i : m ≡ i = cc in
      let is_j : n ≡ j = cc in
      let e = exchange_of p i j in
      let full = full_of p i in
      let said : next_reply full e ≡ Data d = cc in
      let is_step : step_of p a x start (length W) ≡ Frame i j k = cc in
      let t = is_data_lem full e d said in
      let p₁ = (next_of u p a x start W).port in
      let is = port_is u p a x start W i j k is_step in
      let e-is = next_exchange_lem u p a x i j o p₁ t.0 is t.2 in
      let enough₁ : total (exchange_of p₁ i j) ≤ length (data_of u unit (exchange_of p₁ i j)) = rw e-is enough in
      let more = run_serves (next_kept u p a x start W w) (next_open u p a x i j o p₁ t.0 is) enough₁ rest in
      let left : Rest u unit full (advanced e (next_bytes full e)) fs r = rw (next_full u p a x i j o p₁ t.0 is, e-is) at more.0 in
      let fits = (sending (runs u p a x i j w o) t.2).fits in
      let pos = full_pos u p a x i j w o in
      let small = total_small u p a x i j w o in
      let short = more_left full e t.0 in
      let here : payload_at u p a x m n k W ≡ payload_at u p a x i j k W = ap (λ (s : ℕ). payload_at u p a x s n k W) is_i ∙ ap (λ (s : ℕ). payload_at u p a x i s k W) is_j in
      let payload = here ∙ payload_is u p a x i j k W d said ∙ source_is u unit full e start len k t.0 t.2 (passed p a x start (length W) i j k is_step).place in (
        rest_one u unit full e _ fs r pos short enough (then_sent full e pos fits short small) (frames_then full e pos fits short small) (offset_is full e d t.1) (next_counted u p a x i j d w o said) payload left,
        record { closed = more.1.closed; only = λ h. more.1.only h ∙ next_ended u p a x i j o p₁ t.0 is },
      )
  run_serves {p} {q} {pieces} {r} w o enough (aside {p₁ = p₁} m n s formed rest) =
      let b = s.before in
      let is_i : m ≡ i = cc in
      let is_j : n ≡ j = cc in
      let t = subst (λ (k : ℕ). StaysOpen a x i k p p₁) is_j (subst (λ (k : ℕ). StaysOpen a x k n p p₁) is_i s) in
      let full : full_of p₁ i ≡ full_of p i = ap full_frame t.size in
      let enough₁ : total (exchange_of p₁ i j) ≤ length (data_of u unit (exchange_of p₁ i j)) = rw t.exchange enough in
      let more = run_serves formed t.after enough₁ rest in
      (rw (full, t.exchange) at more.0, record { closed = more.1.closed; only = λ h. apart h refl })

-- an exchange of which nothing was sent yet, whatever windows of the unit are lent: its frames are its data, to its total, each once and in order; then comes its response, and its place is free
pub run_whole : (u : Unit) (unit : List ℕ) (p q : Port) (a x i j : ℕ) (pieces : List Piece) (r : Response) → well_formed u p ≡ true → lookup_of p a x ≡ Open i j
    → total (exchange_of p i j) ≤ length (data_of u unit (exchange_of p i j)) → (exchange_of p i j).sent ≡ 0 → (run : Run u unit a x p pieces r q)
    → AllFrames (data_of u unit (exchange_of p i j)) (full_of p i) (exchange_of p i j) pieces r × Freed i j run
run_whole u unit p q a x i j pieces r w o enough fresh run =
    let e = exchange_of p i j in
    let t = run_serves u unit a x i j w o enough run in
    let s = t.0 in
    let first = no_frames (full_of p i) (full_pos u p a x i j w o) in
    let all : total e - 0 ≡ total e = omega arith in (
      record {
        bytes = rw (fresh, all) at s.bytes;
        order = rw (fresh, first) at s.order;
        frames = rw (fresh, first, zero-add) at s.frames;
        response = s.response;
      },
      t.1,
    )

-- all data of a READ are on the unit
pub read_enough : (u : Unit) (unit : List ℕ) (e : Exchange) → length unit ≡ 512 * u.capacity → Reads u e → total e ≤ length (drop (512 * e.start) unit)
read_enough u unit e long reads =
    let d = length-drop (512 * e.start) unit in
    let w = reads.wanted in
    let n = reads.inside in
    omega arith

-- made data are as many as any command wants of them
made_case : (b c : Bool) (kind n : ℕ) (x y z : List ℕ) → length x ≡ 36 → length y ≡ 8 → length z ≡ 18
    → cond b (leb 1 n && leb n 36) (cond c (eqb n 8) (leb kind kind_sense_other && leb 1 n && leb n 18)) ≡ true → n ≤ length (cond b x (cond c y z))
made_case true c kind n x y z lx ly lz h = let m : n ≤ 36 = leb-true n 36 (and_right (leb 1 n) (leb n 36) h) in omega arith
made_case false true kind n x y z lx ly lz h = let m : n ≡ 8 = eqb-true n 8 h in omega arith
made_case false false kind n x y z lx ly lz h = let m : n ≤ 18 = leb-true n 18 (and_right (leb kind kind_sense_other && leb 1 n) (leb n 18) h) in omega arith

pub made_enough : (u : Unit) (e : Exchange) → length u.identity ≡ 28 → eqb e.kind kind_blocks ≡ false → wanted_fits u e ≡ true → total e ≤ length (made_bytes u e.kind)
unfolding made_bytes inquiry_bytes capacity_bytes sense_bytes
made_enough u e long other h =
    let m = made_case (leb e.kind kind_inquiry_other) (eqb e.kind kind_capacity) e.kind e.wanted (inquiry_bytes u.identity e.kind) (capacity_bytes u.capacity) (sense_bytes (sense_of e.kind)) (rw long) refl refl (is_made u e other h) in
    omega arith
