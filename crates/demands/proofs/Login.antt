-- A port login that is not refused is accepted or rejected at the entry exactly as document 01 says, with the stated reason, and the bytes in the lent buffer tell which;
-- and it ends no login of another address but that of its port name. Assumes nothing.
use Rattle.std.specs.Prelude.{None, Ok}
use mathlib.Core.Path.{◌≡◌, refl, sym, ap, ◌∙◌, subst}
use mathlib.Core.Logic.{◌⊎◌, inl, inr}
use mathlib.Core.Bool.{true, false}
use mathlib.Core.List.{List, append-nil}
use Prim.Native.Nat.{ℕ, ◌≤◌, ◌<◌}
use native.Mathlib.Omega.{arith}
use lib.ListN.{length, drop, get_or}
use lib.Seq.{take-append_seam, drop_at, get_or-take}
use borrow.Author.Tests.{eqb-true, eq-eqb, ltb-false}
use Rattle.tables.specs.Lists.{pairs}
use Rattle.tables.proofs.Bools.{apart}
use Rattle.wire.specs.Bytes.{onto}
use Rattle.wire.proofs.Fronts.{onto_fits}
use Rattle.frame.specs.declared.Header.{Header}
use Rattle.frame.specs.Head.{header_of, header_bytes}
use Rattle.params.specs.declared.Fault.{Fault}
use Rattle.params.specs.declared.Fault.TheVariants.{BufferSize, PortName, NodeName, ClassThree, DataSize, ConcurrentSequences, OpenSequences}
use Rattle.params.specs.Words.{params_of, fails, reason_of}
use Rattle.params.proofs.Exactly.{accepts_then}
use Rattle.state.specs.declared.Port.{Port}
use Rattle.state.specs.Changes.{own_of, with_login}
use Rattle.state.specs.Tables.{free_login}
use Rattle.formed.specs.Formed.{apart_login}
use Rattle.formed.proofs.Parts.{formed_parts}
use Rattle.reply.specs.declared.Reply.TheVariants as reply
use Rattle.reply.specs.declared.Accepted.TheVariants as accepted
use Rattle.reply.specs.Payload.{short_bytes, login_bytes, reject_bytes}
use Rattle.reply.specs.Reply.{answer_head, filled, bytes_of}
use Rattle.calls.specs.Turn.{Decided, decided_as}
use Rattle.link.specs.Link.{new_login, link_of}
use Rattle.link.specs.Login.{named_in, host_gone, left_by, Accepts, Rejects, wrong_size, test_fails, no_place}
use Rattle.link.proofs.Exactly.{accepts, rejects, no_third}
use Rattle.link.proofs.Room.{full_unnamed}
use Rattle.link.proofs.Moved as link
use Rattle.arrival.specs.Arrival.{form_of}
use Rattle.arrival.proofs.Passes.{Passes}
use Rattle.drive.specs.declared.Drive.{Drive}
use Rattle.drive.specs.declared.Answer.{Answer}
use Rattle.drive.specs.Entry.{answered, decided_in, reply_bytes, frame_in, frame_in_buffer}
use Rattle.drive.proofs.Ways.{passed_in}
use Rattle.demands.specs.Login.{LoginIn, Begins, login_header, acc_bytes, rjt_bytes, PortLogin, HostMoved}
use Rattle.demands.proofs.Refusals.{frame_answers}

-- a list has the bytes that it begins with
begun : (bs l : List ℕ) (i : ℕ) → Begins bs l → i < length bs → get_or l i 0 ≡ get_or bs i 0
begun bs l i b h = sym (get_or-take (length bs) l i 0 h) ∙ ap (λ (m : List ℕ). get_or m i 0) b

-- bytes laid over the front of a list stand there, and what follows them is as it was
laid : (bs l : List ℕ) (n : ℕ) → length bs ≡ n → n ≤ length l → Begins bs (onto bs l) × (drop n (onto bs l) ≡ drop n l)
laid bs l n e h =
    let is = onto_fits bs l (omega arith) in
    rw is (take-append_seam bs (drop (length bs) l), drop_at bs (drop (length bs) l) n e ∙ ap (λ (m : ℕ). drop m l) e)

module _ (d : Drive) (f : List ℕ) (start : ℕ) (W l : List ℕ) (p : LoginIn d f start W l) (words : length d.port.accept ≡ 112) where
  abbrev port : Port
  port = d.port

  abbrev head : Header
  head = header_of f

  abbrev after : List ℕ
  after = frame_in_buffer d f start W l

  -- these n bytes are sent, and this port is left
  abbrev Answers : List ℕ → ℕ → Port → Type 0
  Answers bs n q = Begins bs after × (drop n after ≡ drop n l) × (frame_in d f start W (length l) ≡ record { said = Ok n; drive = record { unit = d.unit; port = q } })

  passes : Passes d.unit port head f (length l)
  passes = (passed_in d f start (length W) (length l) p.passed).arrived

  -- the answer and the buffer, where the link services decide so and these are the bytes of the reply
  login_answers : (bs : List ℕ) (n : ℕ) (r : Decided) → n ≤ 140 → length bs ≡ n → reply_bytes d head r ≡ bs → link_of port head f ≡ r → Answers bs n r.port
  unfolding form_of
  login_answers bs n r few long is e =
      let t = frame_answers d f start W l p.passed in
      let linked : decided_in d f start (length W) ≡ link_of port head f = rw p.link in
      let decided = linked ∙ e in
      let stands = laid bs l n long (let b = ltb-false (length l) 2136 passes.long in omega arith) in
      let buffer : after ≡ onto bs l = t.1 ∙ ap (λ (s : Decided). onto (reply_bytes d head s) l) decided ∙ ap (λ (b : List ℕ). onto b l) is in
      let said : length (reply_bytes d head r) ≡ n = ap length is ∙ long in
      (rw buffer stands.0, rw buffer stands.1, t.0 ∙ ap (answered d head) decided ∙ rw said)

  -- the frame was sent to our address, which is the reply's S_ID
  header_is : answer_head head 0x23 0x01 0x990000 0xff ≡ login_header d f
  unfolding answer_head
  header_is = rw (eqb-true head.d_id port.address passes.here)

  acc_is : (q : Port) → reply_bytes d head (decided_as (reply.Accept accepted.Login) q) ≡ acc_bytes d f
  unfolding reply_bytes own_of bytes_of filled login_bytes short_bytes
  acc_is q = rw (header_is, words, append-nil port.accept)

  rjt_is : (r x : ℕ) (q : Port) → reply_bytes d head (decided_as (reply.Reject r x) q) ≡ rjt_bytes d f r x
  unfolding reply_bytes bytes_of filled reject_bytes
  rjt_is r x q = rw header_is

  acc_long : length (acc_bytes d f) ≡ 140
  unfolding header_bytes
  acc_long = let n = words in omega arith

  rjt_long : (r x : ℕ) → length (rjt_bytes d f r x) ≡ 32
  unfolding header_bytes
  rjt_long r x = refl

  login_accepts : (a : Accepts port head f) → Answers (acc_bytes d f) 140 (with_login (host_gone port head f) a.place (new_login head.s_id (params_of f 28)))
  login_accepts a = login_answers (acc_bytes d f) 140 _ (omega arith) acc_long (acc_is _) (accepts port head f p.plogi a)

  login_rejects : (r x : ℕ) → Rejects port head f r x → Answers (rjt_bytes d f r x) 32 (left_by port head f)
  login_rejects r x a = login_answers (rjt_bytes d f r x) 32 _ (omega arith) (rjt_long r x) (rjt_is r x _) (rejects port head f p.plogi r x a)

  -- where the buffer begins with ACC, byte 24 is 02h; where with LS_RJT, it is 01h, and bytes 29 and 30 are the reason and the explanation
  acc_code : Begins (acc_bytes d f) after → get_or after 24 0 ≡ 0x02
  unfolding header_bytes
  acc_code b = begun (acc_bytes d f) after 24 b (let n = acc_long in omega arith)

  rjt_codes : (r x : ℕ) → Begins (rjt_bytes d f r x) after → (get_or after 24 0 ≡ 0x01) × (get_or after 29 0 ≡ r) × (get_or after 30 0 ≡ x)
  unfolding header_bytes
  rjt_codes r x b =
      let at : (i : ℕ) → i < 32 → get_or after i 0 ≡ get_or (rjt_bytes d f r x) i 0 = λ i. begun (rjt_bytes d f r x) after i b in
      (at 24 (omega arith), at 29 (omega arith), at 30 (omega arith))

  -- so it does not begin with both
  not_both : (r x : ℕ) → Begins (acc_bytes d f) after → Begins (rjt_bytes d f r x) after → ⊥
  not_both r x a b = let m = acc_code a in let n = (rjt_codes r x b).0 in omega arith

  login_accepts_only : Begins (acc_bytes d f) after → Accepts port head f
  login_accepts_only b = by (no_third port head f p.plogi)
    where
      by : Accepts port head f ⊎ ((r : ℕ) × (x : ℕ) × Rejects port head f r x) → Accepts port head f
      by (inl a) = a
      by (inr (r, x, a)) = absurd (not_both r x b (login_rejects r x a).0)

  login_rejects_only : (r x : ℕ) → Begins (rjt_bytes d f r x) after → Rejects port head f r x
  login_rejects_only r x b = by (no_third port head f p.plogi)
    where
      by : Accepts port head f ⊎ ((s : ℕ) × (y : ℕ) × Rejects port head f s y) → Rejects port head f r x
      by (inl a) = absurd (not_both r x (login_accepts a).0 b)
      by (inr (s, y, a)) =
          let here = rjt_codes r x b in
          let there = rjt_codes s y (login_rejects s y a).0 in
          subst (λ (m : ℕ). Rejects port head f r m) (sym there.2 ∙ here.2) (subst (λ (m : ℕ). Rejects port head f m y) (sym there.1 ∙ here.1) a)

  pub login_is : PortLogin d f start W l
  login_is =
      record {
        accepts = login_accepts;
        accepts_only = login_accepts_only;
        rejects = login_rejects;
        rejects_only = login_rejects_only;
        no_third = no_third port head f p.plogi;
      }

  -- what a PLOGI that finds no place has
  record Full : Type 0 where
    size : length f ≡ 140
    tests : (t : Fault) → fails (params_of f 28) t ≡ false
    none : free_login (host_gone port head f) ≡ None

  is_full : (r x : ℕ) → Rejects port head f r x → r ≡ 0x09 → Full
  is_full r x (wrong_size n) e = absurd (omega arith)
  is_full r x (test_fails n t i) e = absurd (never t e)
    where
      never : (v : Fault) → (reason_of v).reason ≡ 0x09 → ⊥
      never BufferSize z = omega arith
      never PortName z = omega arith
      never NodeName z = omega arith
      never ClassThree z = omega arith
      never DataSize z = omega arith
      never ConcurrentSequences z = omega arith
      never OpenSequences z = omega arith
  is_full r x (no_place n t g) e = record { size = n; tests = t; none = g }

  -- nothing changed then
  full_left : Full → left_by port head f ≡ port
  full_left g = rw (eq-eqb (length f) 140 g.size, accepts_then (params_of f 28) g.tests)

  distinct : pairs apart_login port.logins ≡ true
  distinct = (formed_parts {u = d.unit} {p = port} passes.fine).distinct

  pub moved_is : (b : ℕ) → (b ≡ head.s_id → ⊥) → HostMoved d f start W l b
  moved_is b n =
      record {
        moved_in = λ a. rw (port_accepted a) (link.moved_in port distinct head f a);
        moved_out = λ a k. rw (port_accepted a) (link.moved_login port distinct head f a b n k, link.moved_out port distinct head f a b n k);
        others_stay = λ a k. rw (port_accepted a) (link.others_stay port distinct head f a b n k);
        moved_room = λ k r. apart k (full_unnamed port head.s_id (named_in f) (is_full 0x09 0x29 r refl).none b);
        full_nothing = λ r. ap (λ (x : Answer). x.drive) (login_rejects 0x09 0x29 r).2 ∙ ap (λ (q : Port). record { unit = d.unit; port = q }) (full_left (is_full 0x09 0x29 r refl));
        rejected_alone = λ r x j. rw (ap (λ (y : Answer). y.drive.port) (login_rejects r x j).2) (link.rejected_alone port distinct head f b n);
      }
    where
      port_accepted : (a : Accepts port head f) → (frame_in d f start W (length l)).drive.port ≡ with_login (host_gone port head f) a.place (new_login head.s_id (params_of f 28))
      port_accepted a = ap (λ (x : Answer). x.drive.port) (login_accepts a).2
