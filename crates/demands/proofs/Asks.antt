-- What FCP_XFER_RDY and FCP_RSP of a WRITE say to one who reads their bytes. Assumes nothing.
use mathlib.Core.Path.{◌≡◌, refl, ap, ◌∙◌}
use mathlib.Core.Bool.{Bool, true, false, cond}
use mathlib.Core.List.{List, ◌++◌}
use Prim.Native.Nat.{ℕ, ◌-◌, ◌<◌, min}
use native.Mathlib.Omega.{arith}
use lib.Dec.{ltb}
use lib.ListN.{replicate}
use borrow.Author.Tests.{ltb-false}
use Rattle.wire.proofs.Digits.{num_bytes}
use Rattle.frame.specs.declared.Header.{Header}
use Rattle.frame.specs.Head.{header_bytes}
use Rattle.state.specs.declared.Exchange.{Exchange}
use Rattle.state.specs.declared.Port.{Port}
use Rattle.state.specs.declared.Unit.{Unit}
use Rattle.state.specs.Kinds.{is_write}
use Rattle.residual.specs.Residual.{residual_of}
use Rattle.reply.specs.declared.Residual.{Residual}
use Rattle.reply.specs.declared.Residual.TheVariants.{Exact, Over, Under}
use Rattle.reply.specs.Payload.{residual_flag, residual_size, ready_bytes}
use Rattle.serve.specs.Next.{has_more, burst_of, exchange_of, full_of, frame_bytes}
use Rattle.serve.proofs.Asking.{ends_reply, asks_reply}
use Rattle.demands.specs.Reading.{flags_in, status_in, resid_in, rest_in, response_header, framed, good_payload}
use Rattle.demands.specs.Writing.{burst_in}
use Rattle.demands.proofs.Decoding.{ready_head, ready_bytes_lem, response_frame}

-- FCP_RESID fits its 4 bytes
residual_case : (b c : Bool) (wanted expected : ℕ) → wanted < 4294967296 → expected < 4294967296 → residual_size (cond b (Over (wanted - expected)) (cond c (Under (expected - wanted)) Exact)) < 4294967296
residual_case true c wanted expected h k = omega arith
residual_case false true wanted expected h k = omega arith
residual_case false false wanted expected h k = omega arith

pub residual_small : (wanted expected : ℕ) → wanted < 4294967296 → expected < 4294967296 → residual_size (residual_of wanted expected) < 4294967296
unfolding residual_of
residual_small wanted expected h k = residual_case (ltb expected wanted) (ltb wanted expected) wanted expected h k

-- without a residual just what is wanted was expected
exact_case : (b c : Bool) (m n : ℕ) → residual_flag (cond b (Over m) (cond c (Under n) Exact)) ≡ 0x00 → (b ≡ false) × (c ≡ false)
exact_case true c m n h = absurd (omega arith)
exact_case false true m n h = absurd (omega arith)
exact_case false false m n h = (refl, refl)

pub exact_total : (wanted expected : ℕ) → residual_flag (residual_of wanted expected) ≡ 0x00 → min wanted expected ≡ wanted
unfolding residual_of
exact_total wanted expected h =
    let t = exact_case (ltb expected wanted) (ltb wanted expected) (wanted - expected) (expected - wanted) h in
    let l = ltb-false expected wanted t.0 in
    omega arith

-- FCP_XFER_RDY: "offset, burst"
module _ (h : Header) (at burst : ℕ) where
  abbrev ready : List ℕ
  ready = header_bytes h ++ ready_bytes at burst

  ready_offset : at < 4294967296 → (burst_in ready).offset ≡ at
  unfolding header_bytes ready_bytes
  ready_offset small = num_bytes 4 at (omega arith)

  ready_size : burst < 4294967296 → (burst_in ready).size ≡ burst
  unfolding header_bytes ready_bytes
  ready_size small = num_bytes 4 burst (omega arith)

-- a frame is FCP_RSP with status 00h and this residual, no sense and no response code
pub record Good (left : Residual) (last : List ℕ) : Type 0 where
  pub status : status_in last ≡ 0x00
  pub flags : flags_in last ≡ residual_flag left
  pub resid : resid_in last ≡ residual_size left
  pub rest : rest_in last ≡ replicate 8 0

good_response : (own a x : ℕ) (left : Residual) → residual_size left < 4294967296 → Good left (framed (response_header own a x) (good_payload (residual_flag left) (residual_size left)))
unfolding header_bytes
good_response own a x left small = record { status = refl; flags = refl; resid = num_bytes 4 (residual_size left) (omega arith); rest = refl }

-- the next frame of the open WRITE at places i and j
module _ (u : Unit) (p : Port) (a x i j k : ℕ) (W : List ℕ) where
  abbrev e : Exchange
  e = exchange_of p i j

  abbrev sent : List ℕ
  sent = frame_bytes u p a x i j k W

  -- it asks for the bytes from what was sent on
  pub asks_burst : has_more e ≡ true → is_write e ≡ true → (e.awaited ≡ 1 → ⊥) → e.sent < 4294967296 → ((burst_in sent).offset ≡ e.sent) × ((burst_in sent).size ≡ burst_of e)
  asks_burst more from idle small =
      let is = ready_bytes_lem u p a x i j k W e.sent (burst_of e) (asks_reply (full_of p i) e more from idle) in
      let h = ready_head u p a x i j k W in
      (ap (λ g. (burst_in g).offset) is ∙ ready_offset h e.sent (burst_of e) small, ap (λ g. (burst_in g).size) is ∙ ready_size h e.sent (burst_of e) (omega arith))

  -- it ends with the residual
  pub ends_good : has_more e ≡ false → e.wanted < 4294967296 → e.expected < 4294967296 → Good (residual_of e.wanted e.expected) sent
  ends_good ends wanted expected =
      let left = residual_of e.wanted e.expected in
      rw (response_frame u p a x i j k W left (ends_reply (full_of p i) e ends)) (good_response p.address a x left (residual_small e.wanted e.expected wanted expected))
