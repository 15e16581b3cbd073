-- How long what is sent is: a multiple of 4, at most 140 bytes for a frame in, and from 24 to 2,072 for a next frame, or nothing while data are awaited. Assumes nothing.
use Rattle.std.specs.Prelude.{Ok, Result}
use Rattle.refusal.specs.declared.Refusal.{Refusal}
use mathlib.Core.Path.{◌≡◌, refl, sym, ap, ◌∙◌}
use mathlib.Core.Bool.{Bool, true, false, cond}
use mathlib.Core.Logic.{◌⊎◌, inl, inr}
use mathlib.Core.List.{List, [], ◌++◌}
use Prim.Native.Nat.{ℕ, ◌+◌, ◌%◌, ◌≤◌, min}
use native.Mathlib.Omega.{arith}
use lib.ListN.{length, length-append, length-take}
use borrow.Author.Tests.{lt-ltb}
use Rattle.wire.specs.Bytes.{fill_count}
use Rattle.frame.specs.declared.Header.{Header}
use Rattle.frame.specs.Head.{header_of, header_bytes}
use Rattle.state.specs.declared.Exchange.{Exchange}
use Rattle.state.specs.declared.Own.{Own}
use Rattle.state.specs.declared.Port.{Port}
use Rattle.state.specs.Changes.{own_of}
use Rattle.reply.specs.declared.Accepted.{Accepted}
use Rattle.reply.specs.declared.Accepted.TheVariants as accepted
use Rattle.reply.specs.declared.Response.{Response}
use Rattle.reply.specs.declared.Response.TheVariants as response
use Rattle.reply.specs.declared.Reply.{Reply}
use Rattle.reply.specs.declared.Reply.TheVariants as reply
use Rattle.reply.specs.Payload.{short_bytes, login_bytes, address_bytes, pair_bytes, unpair_bytes, accepted_bytes, reject_bytes, logout_bytes, abort_accept_bytes, abort_reject_bytes, status_bytes, code_bytes, sense_bytes, ready_bytes, response_bytes, payload_of}
use Rattle.reply.specs.Reply.{head_of, filled, silent, bytes_of}
use Rattle.serve.specs.Next.{has_more, next_reply, asked_by, exchange_of, full_of, source_of, frame_bytes, Next}
use Rattle.serve.proofs.Steps.{passed}
use Rattle.serve.proofs.Frames.{more_left}
use Rattle.serve.proofs.Asking.{ends_reply, sends_reply, asks_reply, awaits_reply}
use Rattle.serve.proofs.Moving.{silent_next}
use Rattle.drive.specs.declared.Drive.{Drive}
use Rattle.drive.specs.declared.Answer.{Answer}
use Rattle.drive.specs.Entry.{reply_bytes, decided_in, frame_in, next_frame}
use Rattle.drive.proofs.Ways.{frame_cases}
use Rattle.demands.specs.Reading.{Awaits}
use Rattle.demands.proofs.Decoding.{framed_long, Kind, sends, asks, waits, ends, kind_of, no_bytes, few_bytes}
use Rattle.demands.proofs.Calls.{Gave, gave, drive_is}

-- the payload of each reply but data has at most 116 bytes, where the accept words have their 112
accepted_few : (own : ℕ) (words : List ℕ) (a : Accepted) → length words ≡ 112 → length (accepted_bytes own words a) ≤ 116
unfolding short_bytes login_bytes address_bytes pair_bytes unpair_bytes
accepted_few own words accepted.Short e = omega arith
accepted_few own words accepted.Login e = let n = length-append short_bytes words in omega arith
accepted_few own words accepted.Address e = omega arith
accepted_few own words accepted.Pair e = omega arith
accepted_few own words accepted.Unpair e = omega arith

response_few : (x : Response) → length (response_bytes x) ≤ 116
unfolding status_bytes code_bytes sense_bytes
response_few (response.Code c) = omega arith
response_few (response.Status s r) = omega arith
response_few (response.Check s r) = omega arith

payload_few : (o : Own) (h : Header) (r : Reply) → length o.accept ≡ 112 → length (payload_of o h r []) ≤ 116
unfolding reject_bytes logout_bytes abort_accept_bytes abort_reject_bytes ready_bytes
payload_few o h reply.Nothing e = omega arith
payload_few o h (reply.Accept a) e = accepted_few o.address o.accept a e
payload_few o h (reply.Reject r x) e = omega arith
payload_few o h reply.Logout e = omega arith
payload_few o h reply.AbortAccept e = omega arith
payload_few o h reply.AbortReject e = omega arith
payload_few o h (reply.Respond x) e = response_few x
payload_few o h (reply.Data d) e = let n = length-take {A = ℕ} (min d.size 2048) [] in omega arith
payload_few o h (reply.Ready offset burst) e = omega arith

-- every byte of a reply
module _ (o : Own) (h : Header) (r : Reply) (source : List ℕ) where
  abbrev whole : Bool → List ℕ
  whole b = cond b [] (header_bytes (head_of h r (fill_count (length (payload_of o h r source)))) ++ filled (payload_of o h r source))

  whole_long : length (whole false) ≡ 24 + length (payload_of o h r source) + fill_count (length (payload_of o h r source))
  whole_long = framed_long (head_of h r (fill_count (length (payload_of o h r source)))) (payload_of o h r source)

  bytes_four : length (bytes_of o h r source) % 4 ≡ 0
  unfolding bytes_of
  bytes_four = by (silent r)
    where
      by : (b : Bool) → length (whole b) % 4 ≡ 0
      by true = refl
      by false = let n = whole_long in omega arith

  bytes_few : length (payload_of o h r source) ≤ 116 → length (bytes_of o h r source) ≤ 140
  unfolding bytes_of
  bytes_few few = by (silent r)
    where
      by : (b : Bool) → length (whole b) ≤ 140
      by true = omega arith
      by false = let n = whole_long in omega arith

  bytes_some : silent r ≡ false → 24 ≤ length (bytes_of o h r source)
  unfolding bytes_of
  bytes_some loud = let n = whole_long in rw loud (omega arith)

pub same_length : (m n : ℕ) → ◌≡◌ {A = Result ℕ Refusal} (Ok m) (Ok n) → m ≡ n
same_length m n e = cc

-- a frame in
pub frame_long : (d : Drive) (f : List ℕ) (start : ℕ) (W l : List ℕ) (n : ℕ) → length d.port.accept ≡ 112 → (frame_in d f start W (length l)).said ≡ Ok n → (n ≤ 140) × (n % 4 ≡ 0)
unfolding reply_bytes own_of
frame_long d f start W l n words =
    frame_cases d f start W (length l) (λ (a : Answer). a.said ≡ Ok n → (n ≤ 140) × (n % 4 ≡ 0)) (λ x _ e. let z : ◌≡◌ {A = ℕ} 0 1 = cc in absurd (omega arith))
    (λ _ e.
    let o = own_of d.port in
    let r = (decided_in d f start (length W)).reply in
    let is = same_length (length (bytes_of o (header_of f) r [])) n e in
    let few = bytes_few o (header_of f) r [] (payload_few o (header_of f) r words) in
    let four = bytes_four o (header_of f) r [] in
    (omega arith, omega arith))

-- a next frame, of which n bytes were sent
module _ (d : Drive) (a x start : ℕ) (W l : List ℕ) (n : ℕ) (g : Gave d a x start W l n) where
  abbrev p : Port
  p = d.port

  abbrev full : ℕ
  full = full_of p g.i

  abbrev e : Exchange
  e = exchange_of p g.i g.j

  -- where it is one
  loud_long : silent (next_reply full e) ≡ false → (24 ≤ n) × (n ≤ 2072) × (n % 4 ≡ 0)
  unfolding frame_bytes
  loud_long loud =
      let o = own_of p in
      let h = asked_by p.address a x in
      let r = next_reply full e in
      let source = source_of d.unit e g.k W in
      let is = g.is in
      let some = bytes_some o h r source loud in
      let few = few_bytes d.unit p a x g.i g.j g.k W in
      let four = bytes_four o h r source in
      (omega arith, omega arith, omega arith)

  -- it is none only while data are awaited
  kind_long : Kind e → ((n ≡ 0) × Awaits d a x) ⊎ ((24 ≤ n) × (n ≤ 2072) × (n % 4 ≡ 0))
  kind_long (sends more to) = inr (loud_long (ap (λ (r : Reply). silent r) (sends_reply full e more to)))
  kind_long (asks more from w) = inr (loud_long (ap (λ (r : Reply). silent r) (asks_reply full e more from w)))
  kind_long (waits more from w) =
      inl (
        sym g.is ∙ ap length (no_bytes d.unit p a x g.i g.j g.k W (awaits_reply full e more from w)),
        record { i = g.i; j = g.j; stands = (passed p a x start (length W) g.i g.j g.k g.step).stands; write = from; awaited = w; short = more_left full e more },
      )
  kind_long (ends more) = inr (loud_long (ap (λ (r : Reply). silent r) (ends_reply full e more)))

  -- and while they are, nothing of the drive changes
  awaits_none : Awaits d a x → (n ≡ 0) × ((next_frame d a x start W (length l)).drive ≡ d)
  unfolding has_more
  awaits_none t =
      let s = (passed p a x start (length W) g.i g.j g.k g.step).stands in
      let o = t.stands in
      let is_i : t.i ≡ g.i = cc in
      let is_j : t.j ≡ g.j = cc in
      let there = exchange_of p t.i t.j in
      let none = awaits_reply (full_of p t.i) there (lt-ltb there.sent _ t.short) t.write t.awaited in
      let silence : next_reply full e ≡ reply.Nothing = cc in (
        sym g.is ∙ ap length (no_bytes d.unit p a x g.i g.j g.k W silence),
        drive_is d a x start W l g.i g.j g.k g.room g.formed g.step
            ∙ ap (λ (q : Next). record { unit = d.unit; port = q.port }) (silent_next d.unit p a x start W g.i g.j g.k g.step (ap (λ (r : Reply). silent r) silence)),
      )

module _ (d : Drive) (a x start : ℕ) (W l : List ℕ) (n : ℕ) (said : (next_frame d a x start W (length l)).said ≡ Ok n) where
  abbrev given : Gave d a x start W l n
  given = gave d a x start W l n said

  pub next_long : ((n ≡ 0) × Awaits d a x) ⊎ ((24 ≤ n) × (n ≤ 2072) × (n % 4 ≡ 0))
  next_long = kind_long d a x start W l n given (kind_of (exchange_of d.port given.i given.j))

  pub next_silent : Awaits d a x → (n ≡ 0) × ((next_frame d a x start W (length l)).drive ≡ d)
  next_silent = awaits_none d a x start W l n given

  -- whichever it is
  pub next_most : n ≤ 2072
  next_most =
      let g = given in
      let is = g.is in
      let few = few_bytes d.unit d.port a x g.i g.j g.k W in
      omega arith
