-- What a next frame is to one who reads its bytes: the fields of its header, and its payload without the fill; and every byte of it, of data, of FCP_XFER_RDY and of FCP_RSP.
-- Assumes nothing.
use mathlib.Core.Path.{◌≡◌, refl, ap, ◌∙◌}
use mathlib.Core.Bool.{Bool, true, false, cond, not, ◌&&◌}
use mathlib.Core.List.{List, [], ◌++◌}
use Prim.Native.Nat.{ℕ, ◌+◌, ◌-◌, ◌%◌, ◌^◌, ◌≤◌, ◌<◌, min}
use native.Mathlib.Decide.{ℕ_discrete}
use native.Mathlib.Omega.{arith}
use lib.Dec.{eqb, leb}
use lib.ListN.{length, take, drop, length-append, length-take, length-replicate}
use lib.Seq.{take-append_seam, drop_at}
use borrow.Author.Tests.{eqb-true}
use Rattle.tables.proofs.Bools.{and_left, and_right}
use Rattle.tables.proofs.Keeping.{all_at}
use Rattle.wire.specs.Bytes.{fill_count, fill_of}
use Rattle.frame.specs.declared.Header.{Header}
use Rattle.frame.specs.Head.{header_of, header_bytes, Fits}
use Rattle.frame.proofs.Trips.{length_header, read_write}
use Rattle.address.specs.Address.{valid_address}
use Rattle.params.specs.Words.{params_of, setup_passes}
use Rattle.state.specs.declared.Exchange.{Exchange}
use Rattle.state.specs.declared.Port.{Port}
use Rattle.state.specs.declared.Unit.{Unit}
use Rattle.state.specs.Standing.{Open}
use Rattle.state.specs.Changes.{empty_login, is_used, has_address, own_of, login_at}
use Rattle.state.specs.Kinds.{is_write}
use Rattle.state.specs.Tables.{lookup_of}
use Rattle.state.proofs.Places.{open_place, open_used, found_has, login_inside}
use Rattle.formed.specs.Formed.{total, next_bytes, setup_rules, setup_of, address_fine, login_fine, well_formed}
use Rattle.formed.proofs.Parts.{fine_used, formed_parts}
use Rattle.residual.specs.Residual.{residual_of}
use Rattle.reply.specs.declared.DataFrame.{DataFrame}
use Rattle.reply.specs.declared.Residual.{Residual}
use Rattle.reply.specs.declared.Response.TheVariants.{Status}
use Rattle.reply.specs.declared.Reply.TheVariants.{Nothing, Respond, Data, Ready}
use Rattle.reply.specs.Payload.{residual_flag, residual_size, status_bytes, ready_bytes, payload_of}
use Rattle.reply.specs.Reply.{answer_head, data_head, filled, bytes_of}
use Rattle.serve.specs.Next.{has_more, frame_of, burst_of, next_reply, source_of, asked_by, exchange_of, full_of, frame_bytes}
use Rattle.serve.specs.Whole.{payload_at}
use Rattle.serve.proofs.Frames.{total_small, sent_most, is_data_lem, next_counted}
use Rattle.serve.proofs.Asking.{ends_reply, sends_reply, asks_reply, awaits_reply}
use Rattle.demands.specs.Reading.{data_header, response_header, framed, good_payload}
use Rattle.demands.proofs.Judges.{small_address}

-- a header, a payload and its fill
module _ (h : Header) (P : List ℕ) where
  pub framed_long : length (header_bytes h ++ filled P) ≡ 24 + length P + fill_count (length P)
  unfolding filled
  framed_long =
      let a = length-append (header_bytes h) (filled P) in
      let b = length-append P (fill_of (length P)) in
      let c = length_header h in
      let z = length-replicate {A = ℕ} (fill_count (length P)) 0 in
      omega arith

  -- the payload is what stands after byte 24, without the fill
  pub framed_payload : (fill : ℕ) → fill ≡ fill_count (length P) → take (length (header_bytes h ++ filled P) - 24 - fill) (drop 24 (header_bytes h ++ filled P)) ≡ P
  unfolding filled
  framed_payload fill e =
      let n : length (header_bytes h ++ filled P) - 24 - fill ≡ length P = let l = framed_long in omega arith in
      ap (λ (m : ℕ). take m (drop 24 (header_bytes h ++ filled P))) n ∙ ap (take (length P)) (drop_at (header_bytes h) (filled P) 24 (length_header h)) ∙ take-append_seam P (fill_of (length P))

-- F_CTL of a data frame: its low two bits are the fill count
control_small : (b : Bool) (n : ℕ) → n < 4 → cond b 0x880008 0x800008 + n < 256 ^ 3
control_small true n h = omega arith
control_small false n h = omega arith

control_fill : (b : Bool) (n : ℕ) → n < 4 → (cond b 0x880008 0x800008 + n) % 4 ≡ n
control_fill true n h = omega arith
control_fill false n h = omega arith

few_fill : (n : ℕ) → fill_count n < 4
few_fill n = omega arith

round_small : (m n : ℕ) → m ≡ n % 65536 → m < 65536
round_small m n h = omega arith

-- what the next frame of an exchange is: data to the host, FCP_XFER_RDY, nothing while data are awaited, or FCP_RSP
pub data Kind (e : Exchange) : Type 0 where
  sends : has_more e ≡ true → is_write e ≡ false → Kind e
  asks : has_more e ≡ true → is_write e ≡ true → (e.awaited ≡ 1 → ⊥) → Kind e
  waits : has_more e ≡ true → is_write e ≡ true → e.awaited ≡ 1 → Kind e
  ends : has_more e ≡ false → Kind e

pub kind_of : (e : Exchange) → Kind e
kind_of e = by (has_more e) (is_write e) refl refl
  where
    by : (more from : Bool) → has_more e ≡ more → is_write e ≡ from → Kind e
    by true false m w = sends m w
    by true true m w =
        elim (ℕ_discrete e.awaited 1) [
          | yes a ↦ waits m w a
          | no n ↦ asks m w n
        ]
    by false from m w = ends m

-- the next frame of the exchange at places i and j
module _ (u : Unit) (p : Port) (a x i j k : ℕ) (W : List ℕ) where
  abbrev asked : Header
  asked = asked_by p.address a x

  abbrev reply_payload : List ℕ
  reply_payload = payload_at u p a x i j k W

  data_head_lem : DataFrame → Header
  data_head_lem f = data_head asked f (fill_count (length reply_payload))

  pub ready_head : Header
  ready_head = answer_head asked 0x05 0x08 0x890000 0x00

  response_head : Header
  response_head = answer_head asked 0x07 0x08 0x990000 0x00

  data_bytes_lem : (f : DataFrame) → next_reply (full_of p i) (exchange_of p i j) ≡ Data f → frame_bytes u p a x i j k W ≡ header_bytes (data_head_lem f) ++ filled reply_payload
  unfolding frame_bytes bytes_of data_head_lem
  data_bytes_lem f e = rw e

  pub ready_bytes_lem : (offset burst : ℕ) → next_reply (full_of p i) (exchange_of p i j) ≡ Ready offset burst → frame_bytes u p a x i j k W ≡ header_bytes ready_head ++ ready_bytes offset burst
  unfolding frame_bytes bytes_of filled ready_bytes ready_head
  ready_bytes_lem offset burst e = rw e

  pub no_bytes : next_reply (full_of p i) (exchange_of p i j) ≡ Nothing → frame_bytes u p a x i j k W ≡ []
  unfolding frame_bytes bytes_of
  no_bytes e = rw e

  response_bytes_lem : (r : Residual) → next_reply (full_of p i) (exchange_of p i j) ≡ Respond (Status 0x00 r)
      → frame_bytes u p a x i j k W ≡ header_bytes response_head ++ status_bytes (residual_flag r) 0x00 (residual_size r) 0 0
  unfolding frame_bytes bytes_of filled status_bytes response_head
  response_bytes_lem r e = rw e

  -- every byte of each, with the header spelled out
  pub data_frame_lem : has_more (exchange_of p i j) ≡ true → is_write (exchange_of p i j) ≡ false
      → frame_bytes u p a x i j k W
      ≡ framed (data_header p.address a x (eqb ((exchange_of p i j).sent + next_bytes (full_of p i) (exchange_of p i j)) (total (exchange_of p i j))) (exchange_of p i j).count (exchange_of p i j).sent) (payload_at u p a x i j k W)
  unfolding data_head_lem data_head asked_by frame_of filled
  data_frame_lem more to = data_bytes_lem (frame_of (full_of p i) (exchange_of p i j)) (sends_reply (full_of p i) (exchange_of p i j) more to)

  pub response_frame : (r : Residual) → next_reply (full_of p i) (exchange_of p i j) ≡ Respond (Status 0x00 r)
      → frame_bytes u p a x i j k W ≡ framed (response_header p.address a x) (good_payload (residual_flag r) (residual_size r))
  unfolding response_head answer_head asked_by status_bytes
  response_frame r e = response_bytes_lem r e

  -- R_CTL and TYPE tell them apart
  pub data_kind : (f : DataFrame) → next_reply (full_of p i) (exchange_of p i j) ≡ Data f → ((header_of (frame_bytes u p a x i j k W)).r_ctl ≡ 0x01) × ((header_of (frame_bytes u p a x i j k W)).protocol ≡ 0x08)
  unfolding header_of header_bytes data_head_lem data_head
  data_kind f e = rw (data_bytes_lem f e) (refl, refl)

  pub ready_kind : (offset burst : ℕ) → next_reply (full_of p i) (exchange_of p i j) ≡ Ready offset burst
      → ((header_of (frame_bytes u p a x i j k W)).r_ctl ≡ 0x05) × ((header_of (frame_bytes u p a x i j k W)).protocol ≡ 0x08)
  unfolding header_of header_bytes ready_head answer_head
  ready_kind offset burst e = rw (ready_bytes_lem offset burst e) (refl, refl)

  pub response_kind : (r : Residual) → next_reply (full_of p i) (exchange_of p i j) ≡ Respond (Status 0x00 r)
      → ((header_of (frame_bytes u p a x i j k W)).r_ctl ≡ 0x07) × ((header_of (frame_bytes u p a x i j k W)).protocol ≡ 0x08)
  unfolding header_of header_bytes response_head answer_head
  response_kind r e = rw (response_bytes_lem r e) (refl, refl)

  ready_long : (offset burst : ℕ) → length (header_bytes ready_head ++ ready_bytes offset burst) ≡ 36
  unfolding header_bytes ready_bytes
  ready_long offset burst = refl

  response_long : (r : Residual) → length (header_bytes response_head ++ status_bytes (residual_flag r) 0x00 (residual_size r) 0 0) ≡ 48
  unfolding header_bytes status_bytes
  response_long r = refl

  payload_few : (f : DataFrame) → next_reply (full_of p i) (exchange_of p i j) ≡ Data f → length reply_payload ≤ 2048
  payload_few f e =
      let source = source_of u (exchange_of p i j) k W in
      let t : reply_payload ≡ take (min f.size 2048) source = ap (λ r. payload_of (own_of p) asked r source) e in
      let n = ap length t ∙ length-take (min f.size 2048) source in
      omega arith

  -- no next frame is longer than 2,072 bytes: the header, and 2,048 of data
  pub few_bytes : length (frame_bytes u p a x i j k W) ≤ 2072
  few_bytes = by (kind_of (exchange_of p i j))
    where
      by : Kind (exchange_of p i j) → length (frame_bytes u p a x i j k W) ≤ 2072
      by (sends more to) =
          let e = sends_reply (full_of p i) (exchange_of p i j) more to in
          let n = ap length (data_bytes_lem _ e) ∙ framed_long (data_head_lem _) reply_payload in
          let m = payload_few _ e in
          omega arith
      by (asks more from h) =
          let offset = (exchange_of p i j).sent in
          let burst = burst_of (exchange_of p i j) in
          let n = ap length (ready_bytes_lem offset burst (asks_reply (full_of p i) (exchange_of p i j) more from h)) ∙ ready_long offset burst in
          omega arith
      by (waits more from h) = let n : length (frame_bytes u p a x i j k W) ≡ 0 = ap length (no_bytes (awaits_reply (full_of p i) (exchange_of p i j) more from h)) in omega arith
      by (ends more) =
          let r = residual_of (exchange_of p i j).wanted (exchange_of p i j).expected in
          let n = ap length (response_bytes_lem r (ends_reply (full_of p i) (exchange_of p i j) more)) ∙ response_long r in
          omega arith

  -- from a well-formed port
  module _ (w : well_formed u p ≡ true) (o : lookup_of p a x ≡ Open i j) where
    -- the login's address is the one that is named, and valid
    login_address : (login_at p i).address ≡ a
    unfolding has_address
    login_address = eqb-true (login_at p i).address a (and_right (is_used (login_at p i)) (eqb (login_at p i).address a) (found_has p a i (open_place p a x i j o)))

    login_small : (login_at p i).address < 256
    unfolding login_at address_fine
    login_small =
        let l = login_at p i in
        let f = fine_used (open_used p a x i j o) (all_at (login_fine u p.address) empty_login p.logins i (login_inside p a x i j o) (formed_parts w).logins) in
        small_address l.address (and_left (valid_address l.address) (not (eqb l.address p.address)) f.address)

    pub named_small : a < 256
    named_small = let e = login_address in let s = login_small in omega arith

  module _ (w : well_formed u p ≡ true) (o : lookup_of p a x ≡ Open i j) (small : x < 65536) where
    own_small : p.address < 256
    unfolding setup_rules setup_of own_of
    own_small =
        let c = leb 1 u.capacity in
        let d = leb u.capacity 4294967295 in
        let v = valid_address p.address in
        let s = setup_passes (params_of p.accept 0) in
        small_address p.address (and_right (c && d) v (and_left (c && d && v) s (and_left (c && d && v && s) (leb u.writable 1) (formed_parts w).setup)))

    data_fits : (f : DataFrame) → next_reply (full_of p i) (exchange_of p i j) ≡ Data f → Fits (data_head_lem f)
    unfolding data_head_lem data_head asked_by frame_of
    data_fits f e =
        let own = own_small in
        let to = named_small w o in
        let count = round_small f.count _ (next_counted u p a x i j f w o e) in
        let at = ap (λ g. g.offset) (is_data_lem (full_of p i) (exchange_of p i j) f e).1 in
        let within = sent_most u p a x i j w o in
        let total = total_small u p a x i j w o in
        record {
          d = omega arith;
          s = omega arith;
          f = control_small f.last (fill_count (length reply_payload)) (few_fill (length reply_payload));
          n = omega arith;
          o = omega arith;
          r = omega arith;
          p = omega arith;
        }

    data_header_lem : (f : DataFrame) → next_reply (full_of p i) (exchange_of p i j) ≡ Data f → header_of (frame_bytes u p a x i j k W) ≡ data_head_lem f
    data_header_lem f e = ap header_of (data_bytes_lem f e) ∙ read_write (data_head_lem f) (filled reply_payload) (data_fits f e)

    -- a header without data: FCP_XFER_RDY's and FCP_RSP's
    answer_fits : (rctl fctl : ℕ) → fctl < 256 ^ 3 → Fits (answer_head asked rctl 0x08 fctl 0x00)
    unfolding answer_head asked_by
    answer_fits rctl fctl h = let own = own_small in let to = named_small w o in record { d = omega arith; s = omega arith; f = h; n = omega arith; o = omega arith; r = omega arith; p = omega arith }

    ready_header : (offset burst : ℕ) → next_reply (full_of p i) (exchange_of p i j) ≡ Ready offset burst → header_of (frame_bytes u p a x i j k W) ≡ ready_head
    unfolding ready_head
    ready_header offset burst e = ap header_of (ready_bytes_lem offset burst e) ∙ read_write ready_head _ (answer_fits 0x05 0x890000 (omega arith))

    response_header_lem : (r : Residual) → next_reply (full_of p i) (exchange_of p i j) ≡ Respond (Status 0x00 r) → header_of (frame_bytes u p a x i j k W) ≡ response_head
    unfolding response_head
    response_header_lem r e = ap header_of (response_bytes_lem r e) ∙ read_write response_head _ (answer_fits 0x07 0x990000 (omega arith))

    -- OFFSET and SEQ_CNT of a data frame
    pub data_offset : (f : DataFrame) → next_reply (full_of p i) (exchange_of p i j) ≡ Data f → (header_of (frame_bytes u p a x i j k W)).offset ≡ f.offset
    unfolding data_head_lem data_head
    data_offset f e = ap (λ (h : Header). h.offset) (data_header_lem f e)

    pub data_count : (f : DataFrame) → next_reply (full_of p i) (exchange_of p i j) ≡ Data f → (header_of (frame_bytes u p a x i j k W)).seq_cnt ≡ f.count
    unfolding data_head_lem data_head
    data_count f e = ap (λ (h : Header). h.seq_cnt) (data_header_lem f e)

    data_fill : (f : DataFrame) → next_reply (full_of p i) (exchange_of p i j) ≡ Data f → (header_of (frame_bytes u p a x i j k W)).f_ctl % 4 ≡ fill_count (length reply_payload)
    unfolding data_head_lem data_head
    data_fill f e = ap (λ (h : Header). h.f_ctl % 4) (data_header_lem f e) ∙ control_fill f.last (fill_count (length reply_payload)) (few_fill (length reply_payload))

    -- its payload
    pub data_payload : (f : DataFrame) → next_reply (full_of p i) (exchange_of p i j) ≡ Data f
        → take (length (frame_bytes u p a x i j k W) - 24 - (header_of (frame_bytes u p a x i j k W)).f_ctl % 4) (drop 24 (frame_bytes u p a x i j k W)) ≡ payload_at u p a x i j k W
    data_payload f e =
        let fill = (header_of (frame_bytes u p a x i j k W)).f_ctl % 4 in
        ap (λ (b : List ℕ). take (length b - 24 - fill) (drop 24 b)) (data_bytes_lem f e) ∙ framed_payload (data_head_lem f) reply_payload fill (data_fill f e)

    -- whatever is sent: D_ID is the address that was named, S_ID ours, and OX_ID the one that was named
    pub frame_addressed : (frame_bytes u p a x i j k W ≡ [] → ⊥)
        → ((header_of (frame_bytes u p a x i j k W)).d_id ≡ a) × ((header_of (frame_bytes u p a x i j k W)).s_id ≡ p.address) × ((header_of (frame_bytes u p a x i j k W)).ox_id ≡ x)
    unfolding data_head_lem data_head ready_head response_head answer_head asked_by
    frame_addressed some = by (kind_of (exchange_of p i j))
      where
        by : Kind (exchange_of p i j)
            → ((header_of (frame_bytes u p a x i j k W)).d_id ≡ a) × ((header_of (frame_bytes u p a x i j k W)).s_id ≡ p.address) × ((header_of (frame_bytes u p a x i j k W)).ox_id ≡ x)
        by (sends more to) = rw (data_header_lem _ (sends_reply (full_of p i) (exchange_of p i j) more to)) (refl, refl, refl)
        by (asks more from h) = rw (ready_header _ _ (asks_reply (full_of p i) (exchange_of p i j) more from h)) (refl, refl, refl)
        by (waits more from h) = absurd (some (no_bytes (awaits_reply (full_of p i) (exchange_of p i j) more from h)))
        by (ends more) = rw (response_header_lem _ (ends_reply (full_of p i) (exchange_of p i j) more)) (refl, refl, refl)
