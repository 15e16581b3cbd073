-- Laws over plain variables for the whole of a reply: the payload, the fill after it, and then the header at the front. Assumes nothing.
use mathlib.Core.Path.{◌≡◌, refl, sym, ap, ◌∙◌}
use mathlib.Core.Bool.{false}
use mathlib.Core.List.{List, ◌++◌, append_assoc}
use Prim.Native.Nat.{ℕ, ◌+◌, ◌-◌, ◌≤◌, min}
use native.Mathlib.Omega.{arith}
use lib.ListN.{length, take, drop, length-append, length-replicate}
use lib.Seq.{drop_at, drop-drop, take-append-add, length-take-le}
use borrow.Rule.Slice.PartMut.{mid_of, put_mid}
use Rattle.std.proofs.lemmas.List.{take_min}
use Rattle.wire.specs.Bytes.{onto, over, Wrote, fill_count, fill_of}
use Rattle.wire.proofs.Parts.{over_part, onto_after, onto_over}
use Rattle.frame.specs.declared.Header.{Header}
use Rattle.frame.specs.Head.{header_bytes}
use Rattle.frame.proofs.Trips.{length_header}
use Rattle.state.specs.declared.Own.{Own}
use Rattle.reply.specs.declared.Reply.{Reply}
use Rattle.reply.specs.Payload.{payload_of}
use Rattle.reply.specs.Reply.{head_of, filled, silent, bytes_of}

-- as many elements as there are
pub take_least : (m : ℕ) (s : List ℕ) → take (min m (length s)) s ≡ take m s
take_least m s = take_min m s

-- p from a place on, and then q after it, are p ++ q from that place on
pub over_over : (l p q : List ℕ) (a : ℕ) → a ≤ length l → over (over l a p) (a + length p) q ≡ over l a (p ++ q)
unfolding over
over_over l p q a room =
    let front = take a l in
    let back = onto p (drop a l) in
    let long : length front ≡ a = length-take-le a l room in
    let kept : take (a + length p) (front ++ back) ≡ front ++ take (length p) back = ap (λ (k : ℕ). take (k + length p) (front ++ back)) (sym long) ∙ take-append-add front back (length p) in
    let left : drop (a + length p) (front ++ back) ≡ drop (length p) back = sym (drop-drop (length p) a (front ++ back)) ∙ ap (drop (length p)) (drop_at front back a long) in
    rw (kept, left, append_assoc front) (ap (λ (s : List ℕ). front ++ s) (onto_over (drop a l) back (over back (length p) q) p q (length p) refl refl refl))

-- the payload from byte 24 of a buffer on, the fill after it, and the header at the front
pub framed : (o : Own) (h : Header) (r : Reply) (source l l₁ l₂ l₃ part zeros : List ℕ) (n fill : ℕ) → 2136 ≤ length l → silent r ≡ false
    → Wrote (payload_of o h r source) (mid_of 24 (length l - 24) l) part n 2048 → l₁ ≡ put_mid 24 (length l - 24) l part
    → fill ≡ fill_count n → zeros ≡ onto (fill_of n) (mid_of (24 + n) (length l₁ - (24 + n)) l₁) → l₂ ≡ put_mid (24 + n) (length l₁ - (24 + n)) l₁ zeros
    → l₃ ≡ onto (header_bytes (head_of h r fill)) l₂ → (24 + n + fill ≡ length (bytes_of o h r source)) × (l₃ ≡ onto (bytes_of o h r source) l)
unfolding bytes_of filled
framed o h r source l l₁ l₂ l₃ part zeros n fill room loud w one f z two is =
    let payload = payload_of o h r source in
    let long : n ≡ length payload = w.long in
    let count : fill ≡ fill_count (length payload) = f ∙ ap fill_count long in
    let head = header_bytes (head_of h r fill) in
    let body : l₂ ≡ over l 24 (filled payload) =
    two ∙ over_part l₁ zeros (fill_of n) (24 + n) z
    ∙ rw (one ∙ over_part l part payload 24 w.is, long) (over_over l payload (fill_of (length payload)) 24 (omega arith)) in (
      (let b : length head ≡ 24 = length_header (head_of h r fill) in
          rw (loud, sym count) (simp (length-append, length-replicate) (omega arith))),
      is ∙ ap (onto head) body ∙ onto_after l head (filled payload) 24 (length_header (head_of h r fill)) (omega arith) ∙ rw (loud, sym count),
    )
