-- One next frame: what it carries and what it leaves, from a port that is well formed. Assumes nothing.
use Rattle.std.specs.Prelude.{Some}
use mathlib.Core.Path.{◌≡◌, refl, sym, ap, ◌∙◌}
use mathlib.Core.Bool.{Bool, true, false, cond}
use mathlib.Core.List.{List}
use Prim.Native.Nat.{ℕ, ◌*◌, ◌%◌, ◌≤◌, ◌<◌, min}
use native.Mathlib.Omega.{arith}
use lib.Dec.{eqb}
use lib.ListN.{length, take, drop}
use lib.Seq.{drop-drop}
use borrow.Author.Tests.{eq-eqb, ltb-true, ltb-false}
use Rattle.tables.proofs.Bools.{apart}
use Rattle.tables.proofs.Keeping.{all_at}
use Rattle.cover.specs.Cover.{cut, cover_of}
use Rattle.cover.proofs.Cuts.{cut_holds}
use Rattle.state.specs.declared.Exchange.{Exchange}
use Rattle.state.specs.declared.Port.{Port}
use Rattle.state.specs.declared.Unit.{Unit}
use Rattle.state.specs.Standing.{Open}
use Rattle.state.specs.Changes.{empty_exchange, empty_login, own_of, login_at, exchange_at}
use Rattle.state.specs.Kinds.{kind_blocks, is_write}
use Rattle.state.specs.Tables.{lookup_of}
use Rattle.state.proofs.Places.{open_used, open_open, login_inside, exchange_inside}
use Rattle.formed.specs.Formed.{total, next_bytes, frames_of, exchange_fine, login_fine, well_formed}
use Rattle.formed.proofs.Parts.{Used, fine_used, formed_parts}
use Rattle.formed.proofs.Advance.{Running, running, sending, wanted_small, sent_counted, sent_within}
use Rattle.formed.proofs.Taking.{taken_parts, taking}
use Rattle.residual.specs.Residual.{residual_of}
use Rattle.reply.specs.declared.DataFrame.{DataFrame}
use Rattle.reply.specs.declared.Response.{Response}
use Rattle.reply.specs.declared.Reply.{Reply}
use Rattle.reply.specs.declared.Response.TheVariants.{Status}
use Rattle.reply.specs.declared.Reply.TheVariants.{Nothing, Respond, Data, Ready}
use Rattle.reply.specs.Payload.{payload_of}
use Rattle.serve.specs.Made.{made_bytes}
use Rattle.serve.specs.Next.{has_more, reads_more, position, place_of, frame_of, burst_of, ready_reply, next_reply, source_of, asked_by, exchange_of, full_of, Frame, step_of, moved_on, next_at, next_of}
use Rattle.serve.specs.Whole.{data_of, payload_at}
use Rattle.serve.proofs.Keeping.{full_some}

-- made data go to the host
pub made_sends : {u : Unit} {full paired : ℕ} {e : Exchange} → Running u full paired e → eqb e.kind kind_blocks ≡ false → is_write e ≡ false
made_sends {u} {full} {paired} {e} r made = by (is_write e) refl
  where
    by : (w : Bool) → is_write e ≡ w → is_write e ≡ false
    by true from = apart (eq-eqb e.kind kind_blocks (taking r from).blocks) made
    by false to = to

-- what a well-formed port asks of an open exchange and its login
module _ (u : Unit) (p : Port) (a x i j : ℕ) (w : well_formed u p ≡ true) (o : lookup_of p a x ≡ Open i j) where
  used : Used u p.address (login_at p i)
  unfolding login_at
  used = fine_used (open_used p a x i j o) (all_at (login_fine u p.address) empty_login p.logins i (login_inside p a x i j o) (formed_parts w).logins)

  pub runs : Running u (full_of p i) (login_at p i).paired (exchange_of p i j)
  unfolding exchange_at
  runs =
      running u (full_of p i) (login_at p i).paired (exchange_of p i j) (open_open p a x i j o)
      (all_at (exchange_fine u (full_of p i) (login_at p i).paired) empty_exchange (login_at p i).places j (exchange_inside p a x i j o) used.exchanges)

  pub full_pos : 0 < full_of p i
  full_pos = full_some used

  pub total_small : total (exchange_of p i j) < 4294967296
  total_small = let s = wanted_small u (exchange_of p i j) runs.wanted in omega arith

  -- no more was sent, or taken of a WRITE, than there is
  pub sent_most : (exchange_of p i j).sent ≤ total (exchange_of p i j)
  sent_most = by (is_write (exchange_of p i j)) refl
    where
      by : (w : Bool) → is_write (exchange_of p i j) ≡ w → (exchange_of p i j).sent ≤ total (exchange_of p i j)
      by true from = (taken_parts (exchange_of p i j) (taking runs from).fits).within
      by false to = sent_within (full_of p i) (exchange_of p i j) (sending runs to).fits

-- by what a next frame is: the response where nothing is left, and else of a WRITE FCP_XFER_RDY or nothing, and a data frame of what goes to the host
module _ (sent burst : ℕ) (f : DataFrame) (r : Response) where
  abbrev reply_by : (more write awaited : Bool) → Reply
  reply_by more write awaited = cond more (cond write (cond awaited Nothing (Ready sent burst)) (Data f)) (Respond r)

  data_case : (more write awaited : Bool) (d : DataFrame) → reply_by more write awaited ≡ Data d → (more ≡ true) × (d ≡ f) × (write ≡ false)
  data_case true false awaited d e = (refl, (cc), refl)
  data_case true true true d e = let z : ◌≡◌ {A = ℕ} 0 1 = cc in absurd (omega arith)
  data_case true true false d e = let z : ◌≡◌ {A = ℕ} 0 1 = cc in absurd (omega arith)
  data_case false write awaited d e = let z : ◌≡◌ {A = ℕ} 0 1 = cc in absurd (omega arith)

  respond_case : (more write awaited : Bool) (s : Response) → reply_by more write awaited ≡ Respond s → (more ≡ false) × (s ≡ r)
  respond_case true false awaited s e = let z : ◌≡◌ {A = ℕ} 0 1 = cc in absurd (omega arith)
  respond_case true true true s e = let z : ◌≡◌ {A = ℕ} 0 1 = cc in absurd (omega arith)
  respond_case true true false s e = let z : ◌≡◌ {A = ℕ} 0 1 = cc in absurd (omega arith)
  respond_case false write awaited s e = (refl, (cc))

module _ (full : ℕ) (e : Exchange) where
  pub is_data_lem : (d : DataFrame) → next_reply full e ≡ Data d → (has_more e ≡ true) × (d ≡ frame_of full e) × (is_write e ≡ false)
  unfolding next_reply ready_reply
  is_data_lem d h = data_case e.sent (burst_of e) (frame_of full e) (Status 0x00 (residual_of e.wanted e.expected)) (has_more e) (is_write e) (eqb e.awaited 1) d h

  pub is_response_lem : (r : Response) → next_reply full e ≡ Respond r → (has_more e ≡ false) × (r ≡ Status 0x00 (residual_of e.wanted e.expected))
  unfolding next_reply ready_reply
  is_response_lem r h = respond_case e.sent (burst_of e) (frame_of full e) (Status 0x00 (residual_of e.wanted e.expected)) (has_more e) (is_write e) (eqb e.awaited 1) r h

  pub more_left : has_more e ≡ true → e.sent < total e
  unfolding has_more
  more_left h = ltb-true e.sent (total e) h

  pub none_left : has_more e ≡ false → total e ≤ e.sent
  unfolding has_more
  none_left h = ltb-false e.sent (total e) h

-- SEQ_CNT of a data frame is the number of the data frames sent before it, modulo 65,536
pub next_counted : (u : Unit) (p : Port) (a x i j : ℕ) (d : DataFrame) → well_formed u p ≡ true → lookup_of p a x ≡ Open i j → next_reply (full_of p i) (exchange_of p i j) ≡ Data d
    → d.count ≡ frames_of (exchange_of p i j).sent (full_of p i) % 65536
unfolding frame_of
next_counted u p a x i j d w o h =
    let t = is_data_lem (full_of p i) (exchange_of p i j) d h in
    ap (λ f. f.count) t.1 ∙ sent_counted (full_of p i) (exchange_of p i j) (sending (runs u p a x i j w o) t.2).fits

-- the bytes of a data frame are those of the exchange's data from what was sent on
module _ (u : Unit) (unit : List ℕ) (full : ℕ) (e : Exchange) (start len k : ℕ) (more : has_more e ≡ true) (to : is_write e ≡ false) (place : place_of full e start (length (cut unit start len)) ≡ Some k) where
  source_case : (b : Bool) → eqb e.kind kind_blocks ≡ b
      → take (next_bytes full e) (drop k (cond b (cut unit start len) (made_bytes u e.kind))) ≡ take (next_bytes full e) (drop e.sent (cond b (drop (512 * e.start) unit) (made_bytes u e.kind)))
  unfolding place_of reads_more
  source_case true r =
      let c : cover_of (position e) (next_bytes full e) start (length (cut unit start len)) ≡ Some k = rw (r, to, more) at place in
      cut_holds unit (position e) (next_bytes full e) start len k c
      ∙ ap (take (next_bytes full e)) (sym (drop-drop e.sent (512 * e.start) unit))
  source_case false r =
      let c : Some e.sent ≡ Some k = rw r at place in
      let s : k ≡ e.sent = cc in
      ap (λ (m : ℕ). take (next_bytes full e) (drop m (made_bytes u e.kind))) s

  pub source_is : take (next_bytes full e) (source_of u e k (cut unit start len)) ≡ take (next_bytes full e) (drop e.sent (data_of u unit e))
  unfolding source_of
  source_is = source_case (eqb e.kind kind_blocks) refl

pub payload_is : (u : Unit) (p : Port) (a x i j k : ℕ) (W : List ℕ) (d : DataFrame) → next_reply (full_of p i) (exchange_of p i j) ≡ Data d
    → payload_at u p a x i j k W ≡ take (next_bytes (full_of p i) (exchange_of p i j)) (source_of u (exchange_of p i j) k W)
unfolding frame_of
payload_is u p a x i j k W d h =
    let f = (is_data_lem (full_of p i) (exchange_of p i j) d h).1 in
    let n = next_bytes (full_of p i) (exchange_of p i j) in
    let least : min n 2048 ≡ n = omega arith in
    ap (λ r. payload_of (own_of p) (asked_by p.address a x) r (source_of u (exchange_of p i j) k W)) (h ∙ ap Data f)
    ∙ ap (λ (m : ℕ). take m (source_of u (exchange_of p i j) k W)) least

-- the port after a frame that is given
pub port_is : (u : Unit) (p : Port) (a x start : ℕ) (W : List ℕ) (i j k : ℕ) → step_of p a x start (length W) ≡ Frame i j k → (next_of u p a x start W).port ≡ moved_on p i j
unfolding next_of
port_is u p a x start W i j k e = ap (λ s. (next_at s u p a x W).port) e
