-- What the host reads off the front of the buffer is the kind of the reply, and whom it is for the sender that it answers. Assumes nothing.
use Rattle.std.specs.Prelude.{Ok}
use Prim.Native.Nat.{ℕ, ◌+◌, ◌≤◌, ◌<◌}
use mathlib.Core.Path.{◌≡◌, refl, ap, ◌∙◌}
use mathlib.Core.Bool.{Bool, true, false, cond, not}
use mathlib.Core.List.{List, [], ◌++◌}
use native.Mathlib.Decide.{dec_le}
use native.Mathlib.Omega.{arith}
use lib.Dec.{eqb}
use lib.ListN.{length, get_or, take, drop, get_or-append}
use lib.Seq.{length-take-le, get_or-take}
use borrow.Author.Tests.{ne_eqb}
use Rattle.wire.specs.Bytes.{num, onto}
use Rattle.wire.proofs.Digits.{num_bytes}
use Rattle.wire.proofs.Fronts.{onto_fits}
use Rattle.frame.specs.declared.Header.{Header}
use Rattle.frame.specs.Head.{header_bytes}
use Rattle.state.specs.declared.Own.{Own}
use Rattle.reply.specs.declared.Accepted.{Accepted}
use Rattle.reply.specs.declared.Accepted.TheVariants as accepted
use Rattle.reply.specs.declared.Reply.{Reply}
use Rattle.reply.specs.declared.Reply.TheVariants as reply
use Rattle.reply.specs.Payload.{short_bytes, login_bytes, address_bytes, pair_bytes, unpair_bytes, accepted_bytes, reject_bytes}
use Rattle.reply.specs.Reply.{answer_head, logout_head, data_head, filled, silent, bytes_of}
use Rattle.serve.specs.Whole.{is_sent}
use Rattle.belief.specs.Host.{Answer, none, acc, rjt, dlogo, other}
use Rattle.belief.specs.Wire.{sound_of, heard_of}

-- a byte that was laid over the front
onto_at : (p l : List ℕ) (i : ℕ) → i < length p → i < length l → get_or (onto p l) i 0 ≡ get_or p i 0
unfolding onto
onto_at p l i h k =
    elim (dec_le (length p) (length l)) [
      | yes e ↦ ap (λ (m : List ℕ). get_or m i 0) (onto_fits p l e) ∙ get_or-append p (drop (length p) l) 0 i h
      | no e ↦ (let n : length (take (length l) p) ≡ length l = length-take-le (length l) p (omega arith) in
          get_or-append (take (length l) p) (drop (length p) l) 0 i (omega arith) ∙ get_or-take (length l) p i 0 k)
    ]

-- how a reply sounds
abbrev pub sounds : Reply → Answer
sounds reply.Nothing = none
sounds (reply.Accept a) = acc
sounds (reply.Reject r e) = rjt
sounds reply.Logout = dlogo
sounds reply.AbortAccept = other
sounds reply.AbortReject = other
sounds (reply.Respond x) = other
sounds (reply.Data x) = other
sounds (reply.Ready x y) = other

-- by the bytes 0 and 24 of a reply that has more than 24, or by that it has 24
module _ (B l : List ℕ) (room : 2136 ≤ length l) (some : 24 ≤ length B) where
  first_byte : get_or (onto B l) 0 0 ≡ get_or B 0 0
  first_byte = onto_at B l 0 (omega arith) (omega arith)

  -- D_ID
  named_bytes : num 3 (onto B l) 1 ≡ num 3 B 1
  named_bytes = rw (onto_at B l 1 (omega arith) (omega arith), onto_at B l 2 (omega arith) (omega arith), onto_at B l 3 (omega arith) (omega arith))

  code_byte : 25 ≤ length B → get_or (onto B l) 24 0 ≡ get_or B 24 0
  code_byte h = onto_at B l 24 (omega arith) (omega arith)

  read_done : (x : ℕ) → get_or B 0 0 ≡ 0x23 → 25 ≤ length B → get_or B 24 0 ≡ x → sound_of (length B) (onto B l) ≡ cond (eqb x 0x02) acc rjt
  read_done x r h c = rw (ne_eqb (length B) 0 (λ e. absurd (omega arith)), first_byte, r, code_byte h, c)

  read_logout : get_or B 0 0 ≡ 0x22 → sound_of (length B) (onto B l) ≡ dlogo
  read_logout r = rw (ne_eqb (length B) 0 (λ e. absurd (omega arith)), first_byte, r)

  read_other : (r : ℕ) → get_or B 0 0 ≡ r → eqb r 0x23 ≡ false → eqb r 0x22 ≡ false → sound_of (length B) (onto B l) ≡ other
  read_other r e a b = rw (ne_eqb (length B) 0 (λ q. absurd (omega arith)), first_byte, e, a, b)

module _ (g : Header) (P : List ℕ) where
  head_first : get_or (header_bytes g ++ P) 0 0 ≡ g.r_ctl
  unfolding header_bytes
  head_first = refl

  head_named : g.d_id < 256 → num 3 (header_bytes g ++ P) 1 ≡ g.d_id
  unfolding header_bytes
  head_named small = num_bytes 3 g.d_id (omega arith)

  head_code : get_or (header_bytes g ++ P) 24 0 ≡ get_or P 0 0
  unfolding header_bytes
  head_code = refl

  head_length : length (header_bytes g ++ P) ≡ 24 + length P
  unfolding header_bytes
  head_length = omega arith

-- a payload's first byte, and that it has one
accept_first : (own : ℕ) (words : List ℕ) (a : Accepted) → (get_or (filled (accepted_bytes own words a)) 0 0 ≡ 0x02) × (1 ≤ length (filled (accepted_bytes own words a)))
unfolding filled short_bytes login_bytes address_bytes pair_bytes unpair_bytes
accept_first own words accepted.Short = (refl, omega arith)
accept_first own words accepted.Login = (refl, omega arith)
accept_first own words accepted.Address = (refl, omega arith)
accept_first own words accepted.Pair = (refl, omega arith)
accept_first own words accepted.Unpair = (refl, omega arith)

reject_first : (r e : ℕ) → (get_or (filled (reject_bytes r e)) 0 0 ≡ 0x01) × (1 ≤ length (filled (reject_bytes r e)))
unfolding filled reject_bytes
reject_first r e = (refl, omega arith)

module _ (g : Header) (P l : List ℕ) (room : 2136 ≤ length l) where
  long : 24 ≤ length (header_bytes g ++ P)
  long = let q = head_length g P in omega arith

  framed_done : (x : ℕ) → g.r_ctl ≡ 0x23 → (get_or P 0 0 ≡ x) × (1 ≤ length P) → sound_of (length (header_bytes g ++ P)) (onto (header_bytes g ++ P) l) ≡ cond (eqb x 0x02) acc rjt
  framed_done x r c =
      let q = head_length g P in
      let n = c.1 in
      read_done (header_bytes g ++ P) l room long x (head_first g P ∙ r) (omega arith) (head_code g P ∙ c.0)

  framed_logout : g.r_ctl ≡ 0x22 → sound_of (length (header_bytes g ++ P)) (onto (header_bytes g ++ P) l) ≡ dlogo
  framed_logout r = read_logout (header_bytes g ++ P) l room long (head_first g P ∙ r)

  framed_other : (r : ℕ) → g.r_ctl ≡ r → eqb r 0x23 ≡ false → eqb r 0x22 ≡ false → sound_of (length (header_bytes g ++ P)) (onto (header_bytes g ++ P) l) ≡ other
  framed_other r e a b = read_other (header_bytes g ++ P) l room long r (head_first g P ∙ e) a b

  framed_named : (a : ℕ) → g.d_id < 256 → (s : Answer) → sound_of (length (header_bytes g ++ P)) (onto (header_bytes g ++ P) l) ≡ s
      → heard_of a (Ok (length (header_bytes g ++ P))) (onto (header_bytes g ++ P) l) ≡ cond (eqb g.d_id a) s none
  framed_named a small s e = rw (named_bytes (header_bytes g ++ P) l room long ∙ head_named g P small, e)

-- nothing is heard of what is not sent, whatever stands in the buffer
pub quiet : (b c : Bool) → cond b none none ≡ cond c none none
quiet true true = refl
quiet true false = refl
quiet false true = refl
quiet false false = refl

-- "addresses swapped": the host of address a reads each reply to a frame of its own as it sounds, and none to one of another sender
pub reads : (a : ℕ) (o : Own) (h : Header) (r : Reply) (source l : List ℕ) → 2136 ≤ length l → h.s_id < 256
    → heard_of a (Ok (length (bytes_of o h r source))) (onto (bytes_of o h r source) l) ≡ cond (eqb h.s_id a) (sounds r) none
unfolding bytes_of answer_head logout_head data_head
reads a o h reply.Nothing source l room small = quiet (eqb (num 3 (onto [] l) 1) a) (eqb h.s_id a)
reads a o h (reply.Accept k) source l room small = framed_named _ _ l room a small acc (framed_done _ _ l room 0x02 refl (accept_first o.address o.accept k))
reads a o h (reply.Reject r e) source l room small = framed_named _ _ l room a small rjt (framed_done _ _ l room 0x01 refl (reject_first r e))
reads a o h reply.Logout source l room small = framed_named _ _ l room a small dlogo (framed_logout _ _ l room refl)
reads a o h reply.AbortAccept source l room small = framed_named _ _ l room a small other (framed_other _ _ l room 0x84 refl refl refl)
reads a o h reply.AbortReject source l room small = framed_named _ _ l room a small other (framed_other _ _ l room 0x85 refl refl refl)
reads a o h (reply.Respond x) source l room small = framed_named _ _ l room a small other (framed_other _ _ l room 0x07 refl refl refl)
reads a o h (reply.Data x) source l room small = framed_named _ _ l room a small other (framed_other _ _ l room 0x01 refl refl refl)
reads a o h (reply.Ready x y) source l room small = framed_named _ _ l room a small other (framed_other _ _ l room 0x05 refl refl refl)

-- a reply is sent where it is not silent, since it has a header then
head_sent : (b : Bool) (g : Header) (P : List ℕ) → is_sent (Ok (length (cond b [] (header_bytes g ++ P)))) ≡ not b
head_sent true g P = refl
head_sent false g P = let q = head_length g P in rw (ne_eqb (length (header_bytes g ++ P)) 0 (λ e. absurd (omega arith)))

pub sent_is : (o : Own) (h : Header) (r : Reply) (source : List ℕ) → is_sent (Ok (length (bytes_of o h r source))) ≡ not (silent r)
unfolding bytes_of
sent_is o h r source = head_sent (silent r) _ _
