-- A frame of the host: what each kind of request is answered with, and the record after it, from the record before it. Assumes nothing.
use Rattle.std.specs.Prelude.{Option, Some, None, Ok, Err, Result}
use Prim.Native.Nat.{ℕ, ◌+◌}
use mathlib.Core.Path.{◌≡◌, refl, sym, ap, ◌∙◌, subst}
use mathlib.Core.Bool.{Bool, true, false}
use mathlib.Core.List.{List}
use native.Mathlib.Omega.{arith}
use lib.Dec.{eqb}
use lib.ListN.{length, get_or}
use borrow.Author.Tests.{eq-eqb}
use Rattle.tables.specs.Lists.{on_found, pairs}
use Rattle.tables.proofs.Bools as bools
use Rattle.wire.specs.Bytes.{num}
use Rattle.frame.specs.declared.Header.{Header}
use Rattle.frame.specs.Head.{header_of}
use Rattle.params.specs.declared.Params.{Params}
use Rattle.params.specs.Words.{params_of}
use Rattle.state.specs.declared.Login.{Login}
use Rattle.state.specs.declared.Port.{Port}
use Rattle.state.specs.declared.Change.TheVariants.{EndLogin}
use Rattle.state.specs.Changes.{login_at, changed_all}
use Rattle.state.specs.Tables.{find_login, login_in, login_of}
use Rattle.state.proofs.Places.{open_place}
use Rattle.formed.specs.Formed.{apart_login, well_formed}
use Rattle.formed.proofs.Parts.{formed_parts}
use Rattle.reply.specs.declared.Reply.{Reply}
use Rattle.reply.specs.declared.Reply.TheVariants as reply
use Rattle.reply.specs.declared.Accepted.TheVariants as accepted
use Rattle.calls.specs.Turn.{Decided, decided_as}
use Rattle.link.specs.Link.{size_of, logo_of, link_of, abts_of}
use Rattle.link.specs.Record.{Kept, Record, out, held, kept_from, record_at, record_of}
use Rattle.link.proofs.Ways.{is_logo}
use Rattle.link.proofs.Records.{record_in, record_is, found_record, end_record}
use Rattle.link.proofs.Services.{AfterPlogi, AfterService, AfterAbort, effect_of}
use Rattle.link.proofs.Requests.{link_plogi, link_service, link_out, abts_reply, abts_record}
use Rattle.command.specs.Command.{logged_out, command_of}
use Rattle.command.proofs.Logins.{Alike, alike, Spoken, silent, responds, command_paired, command_spoken, command_unpaired}
use Rattle.taking.specs.declared.Step.{Step}
use Rattle.taking.specs.declared.Untaken.{Untaken}
use Rattle.taking.specs.declared.Step.TheVariants as step
use Rattle.taking.specs.declared.Untaken.TheVariants as untaken
use Rattle.taking.specs.Taking.{step_in, data_decided}
use Rattle.taking.proofs.Others.{Exchanged, exchanged, data_exchanges}
use Rattle.taking.proofs.Silent.{reply_by, data_reply, data_fault}
use Rattle.arrival.specs.declared.Form.{Form}
use Rattle.arrival.specs.Arrival.{form_of}
use Rattle.drive.specs.declared.Drive.{Drive}
use Rattle.drive.specs.Entry.{decided_of, decided_in, frame_in}
use Rattle.drive.proofs.Ways.{PassesIn, passes_in, frame_cases}
use Rattle.demands.proofs.Refusals.{frame_refuses, frame_answers}
use Rattle.belief.specs.Host.{Request, plogi, pdisc, logo, adisc, prli, prlo, rrq, command, abts, fcp_data, none}
use Rattle.belief.specs.Side.{Held, OnPlogi, OnLogo, OnLink, OnCommand, Meets}
use Rattle.belief.specs.Wire.{Linked, Makes, heard_in}
use Rattle.belief.proofs.Reading.{sounds}
use Rattle.belief.proofs.Heard.{passed_heard}

-- each reply as the host hears it
after_plogi_lem : (q : Params) (k : Kept) → k ≡ kept_from q → (x : Reply) (r : Record) → AfterPlogi q x r → OnPlogi k (sounds x) r
after_plogi_lem q k e reply.Nothing r h = tt
after_plogi_lem q k e (reply.Accept a) r h = h ∙ ap (held false true) (sym e)
after_plogi_lem q k e (reply.Reject x y) r h = h
after_plogi_lem q k e reply.Logout r h = h
after_plogi_lem q k e reply.AbortAccept r h = h
after_plogi_lem q k e reply.AbortReject r h = h
after_plogi_lem q k e (reply.Respond x) r h = h
after_plogi_lem q k e (reply.Data x) r h = h
after_plogi_lem q k e (reply.Ready x y) r h = h

held_service : (g : Record → Record) (p v : Bool) (k : Kept) (x : Reply) (r : Record) → AfterService g (held p v k) x r → OnLink g (held p v k) (sounds x) r
held_service g p v k reply.Nothing r h = tt
held_service g p v k (reply.Accept a) r h = (tt, h)
held_service g p v k (reply.Reject y z) r h = (tt, h)
held_service g p v k reply.Logout r h = h
held_service g p v k reply.AbortAccept r h = h
held_service g p v k reply.AbortReject r h = h
held_service g p v k (reply.Respond y) r h = h
held_service g p v k (reply.Data y) r h = h
held_service g p v k (reply.Ready y z) r h = h

after_service : (g : Record → Record) (o : Record) (x : Reply) (r : Record) → AfterService g o x r → (o ≡ out → x ≡ reply.Logout) → OnLink g o (sounds x) r
after_service g out x r h none-there =
    let e = none-there refl in
    subst (λ (y : Reply). OnLink g out (sounds y) r) (sym e) (subst (λ (y : Reply). AfterService g out y r) e h)
after_service g (held p v k) x r h none-there = held_service g p v k x r h

held_abort : (p v : Bool) (k : Kept) (x : Reply) (r : Record) → AfterAbort (held p v k) x → r ≡ held p v k → OnCommand (held p v k) (sounds x) r
held_abort p v k reply.Nothing r h e = e
held_abort p v k (reply.Accept a) r h e = h
held_abort p v k (reply.Reject y z) r h e = h
held_abort p v k reply.Logout r h e = let z : ◌≡◌ {A = ℕ} 0 1 = cc in absurd (omega arith)
held_abort p v k reply.AbortAccept r h e = (tt, e)
held_abort p v k reply.AbortReject r h e = (tt, e)
held_abort p v k (reply.Respond y) r h e = absurd h
held_abort p v k (reply.Data y) r h e = absurd h
held_abort p v k (reply.Ready y z) r h e = absurd h

out_abort : (x : Reply) (r : Record) → AfterAbort out x → r ≡ out → OnCommand out (sounds x) r
out_abort reply.Nothing r h e = e
out_abort (reply.Accept a) r h e = h
out_abort (reply.Reject y z) r h e = h
out_abort reply.Logout r h e = (λ n. n, e)
out_abort reply.AbortAccept r h e = absurd (h refl)
out_abort reply.AbortReject r h e = absurd (h refl)
out_abort (reply.Respond y) r h e = absurd h
out_abort (reply.Data y) r h e = absurd h
out_abort (reply.Ready y z) r h e = absurd h

after_abort : (o : Record) (x : Reply) (r : Record) → AfterAbort o x → r ≡ o → OnCommand o (sounds x) r
after_abort out x r h e = out_abort x r h e
after_abort (held p v k) x r h e = held_abort p v k x r h e

-- the record is of a paired login
abbrev is_paired : Record → Bool
is_paired out = false
is_paired (held p v k) = p

paired_record : (p : Port) (a : ℕ) → is_paired (record_of p a) ≡ eqb (login_of p a).paired 1
unfolding record_of login_of
paired_record p a = by (find_login p a)
  where
    by : (f : Option ℕ) → is_paired (on_found f (λ i. record_at (login_at p i)) out) ≡ eqb (login_in p f).paired 1
    by (Some i) = refl
    by None = refl

-- a login with another attention and other exchanges has the same record
alike_record : (p q : Port) (a : ℕ) → Alike (login_of p a) (login_of q a) → record_of q a ≡ record_of p a
alike_record p q a x = record_is q a ∙ by x ∙ sym (record_is p a)
  where
    by : {l m : Login} → Alike l m → record_in m ≡ record_in l
    by (alike n es) = refl

-- so has one with other exchanges alone
exchanged_alike : {l m : Login} → Exchanged l m → Alike l m
exchanged_alike {l} (exchanged es) = alike l.attention es

-- where a login is found, its record is held
pub found_held : (p : Port) (a i : ℕ) → find_login p a ≡ Some i → Held (record_of p a)
found_held p a i e = subst Held (sym (found_record p a i e)) tt

paired_command : (o : Record) (x : Reply) (r : Record) → is_paired o ≡ true → Spoken x → r ≡ o → OnCommand o (sounds x) r
paired_command out x r n s e = bools.apart n refl
paired_command (held p v k) x r n silent e = e
paired_command (held p v k) x r n (responds y) e = (tt, e)

unpaired_command : (o : Record) (r : Record) → is_paired o ≡ false → r ≡ out → OnCommand o (sounds reply.Logout) r
unpaired_command out r n h = (λ b. b, h)
unpaired_command (held true v k) r n h = bools.apart refl n
unpaired_command (held false v k) r n h = (λ b. b, h)

-- a frame that is refused: nothing comes back, and no record changes
refused_meets : (r : Record) (q : Request) → Meets r q none r
refused_meets r (plogi k) = tt
refused_meets r (pdisc k) = tt
refused_meets r logo = tt
refused_meets r adisc = tt
refused_meets r prli = tt
refused_meets r prlo = tt
refused_meets r rrq = tt
refused_meets r command = refl
refused_meets r abts = refl
refused_meets r fcp_data = refl

module _ (d : Drive) (w : well_formed d.unit d.port ≡ true) (f : List ℕ) (start : ℕ) (W l : List ℕ) where
  abbrev p : Port
  p = d.port

  abbrev h : Header
  h = header_of f

  abbrev from : ℕ
  from = (header_of f).s_id

  abbrev len : ℕ
  len = length W

  apart : pairs apart_login d.port.logins ≡ true
  apart = (formed_parts w).distinct

  -- what comes back of a frame that passes, and the port after it
  passed_hears : PassesIn d f start len (length l) → (heard_in from d f start W l ≡ sounds (decided_in d f start len).reply) × ((frame_in d f start W (length l)).drive.port ≡ (decided_in d f start len).port)
  passed_hears s = (passed_heard from d f start W l s ∙ rw (eq-eqb from from refl), rw (frame_answers d f start W l (passes_in d f start len (length l) s)).0)

  -- a link request
  module _ (code size : ℕ) (is : Linked from f code size) (right : size_of code ≡ size) where
    sized : length f ≡ 24 + size_of (get_or f 24 0)
    sized = is.sized ∙ ap (λ (n : ℕ). 24 + n) (sym right ∙ ap size_of (sym is.coded))

    service_meets : (size_of code ≡ 0 → ⊥) → (code ≡ 3 → ⊥) → (code ≡ 5 → ⊥) → OnLink (effect_of code) (record_of p from) (sounds (link_of p h f).reply) (record_of (link_of p h f).port from)
    service_meets c np nl =
        let c₁ : size_of (get_or f 24 0) ≡ 0 → ⊥ = λ z. c (ap size_of (sym is.coded) ∙ z) in
        let n₁ : get_or f 24 0 ≡ 3 → ⊥ = λ z. np (sym is.coded ∙ z) in
        let n₂ : get_or f 24 0 ≡ 5 → ⊥ = λ z. nl (sym is.coded ∙ z) in
        after_service (effect_of code) (record_of p from) (link_of p h f).reply (record_of (link_of p h f).port from)
        (subst (λ (n : ℕ). AfterService (effect_of n) (record_of p from) (link_of p h f).reply (record_of (link_of p h f).port from)) is.coded (link_service p h f apart sized c₁ n₁ n₂))
        (λ o. ap (λ (x : Decided). x.reply) (link_out p h f c₁ sized n₁ n₂ o))

  plogi_meets : (k : Kept) → Makes from f (plogi k) → OnPlogi k (sounds (link_of p h f).reply) (record_of (link_of p h f).port from)
  unfolding size_of
  plogi_meets k m =
      after_plogi_lem (params_of f 28) k m.1 (link_of p h f).reply (record_of (link_of p h f).port from) (link_plogi p h f apart (sized 3 116 m.0 refl) m.0.coded)

  logo_meets : Makes from f logo → OnLogo (sounds (link_of p h f).reply) (record_of (link_of p h f).port from)
  unfolding size_of logo_of
  logo_meets m =
      let e : link_of p h f ≡ decided_as (reply.Accept accepted.Short) (changed_all (EndLogin from) p) =
      sym (is_logo p h f 5 16 (sym m.0.coded) refl (decided_as (reply.Accept accepted.Short) (changed_all (EndLogin from) p)) (λ z. absurd (omega arith)) m.0.sized (λ z. absurd (omega arith)) refl
      (rw (eq-eqb (num 3 f 29) from m.1))) in
      rw e (end_record p apart from)

  -- a command
  abbrev commanded : Decided
  commanded = command_of d.unit p h f

  command_meets : OnCommand (record_of p from) (sounds commanded.reply) (record_of commanded.port from)
  unfolding logged_out
  command_meets = by (eqb (login_of p from).paired 1) refl
    where
      by : (b : Bool) → eqb (login_of p from).paired 1 ≡ b → OnCommand (record_of p from) (sounds commanded.reply) (record_of commanded.port from)
      by true r =
          paired_command (record_of p from) commanded.reply _ (paired_record p from ∙ r) (command_spoken d.unit p h f r)
          (alike_record p commanded.port from (command_paired d.unit p h f apart r from))
      by false r = rw (command_unpaired d.unit p h f r) (unpaired_command (record_of p from) _ (paired_record p from ∙ r) (end_record p apart from))

  -- a data frame: no record changes; only a fault is answered, and then its sender has a login
  abbrev given : Decided
  given = data_decided p h (length f) start len

  data_meets : OnCommand (record_of p from) (sounds given.reply) (record_of given.port from)
  data_meets = rw (data_reply p h (length f) start len) (by (step_in (login_of p from) h (length f) start len) refl)
    where
      same : record_of given.port from ≡ record_of p from
      same = alike_record p given.port from (exchanged_alike (data_exchanges p h (length f) start len from))

      by : (s : Result Step Untaken) → step_in (login_of p from) h (length f) start len ≡ s → OnCommand (record_of p from) (sounds (reply_by s)) (record_of given.port from)
      by (Err untaken.NoWrite) e = same
      by (Ok (step.Fault j code)) e = let t = data_fault p h (length f) start len j code e in (found_held p from t.i (open_place p from h.ox_id t.i j t.stood), same)
      by (Err untaken.Uncovered) e = same
      by (Ok (step.Take j k)) e = same

  -- each request in its own kind of frame
  decided_meets : (q : Request) (k : Form) → k ≡ form_of h.r_ctl → Makes from f q
      → Meets (record_of p from) q (sounds (decided_of d.unit p h k f start len).reply) (record_of (decided_of d.unit p h k f start len).port from)
  unfolding form_of size_of effect_of
  decided_meets (plogi m) k e x = rw (e ∙ ap form_of x.0.form.routing) (plogi_meets m x)
  decided_meets (pdisc m) k e x = rw (e ∙ ap form_of x.0.form.routing) (service_meets 0x50 116 x.0 refl (λ z. absurd (omega arith)) (λ z. absurd (omega arith)) (λ z. absurd (omega arith)))
  decided_meets logo k e x = rw (e ∙ ap form_of x.0.form.routing) (logo_meets x)
  decided_meets adisc k e x = rw (e ∙ ap form_of x.form.routing) (service_meets 0x52 28 x refl (λ z. absurd (omega arith)) (λ z. absurd (omega arith)) (λ z. absurd (omega arith)))
  decided_meets prli k e x = rw (e ∙ ap form_of x.form.routing) (service_meets 0x20 20 x refl (λ z. absurd (omega arith)) (λ z. absurd (omega arith)) (λ z. absurd (omega arith)))
  decided_meets prlo k e x = rw (e ∙ ap form_of x.form.routing) (service_meets 0x21 20 x refl (λ z. absurd (omega arith)) (λ z. absurd (omega arith)) (λ z. absurd (omega arith)))
  decided_meets rrq k e x = rw (e ∙ ap form_of x.form.routing) (service_meets 0x12 44 x refl (λ z. absurd (omega arith)) (λ z. absurd (omega arith)) (λ z. absurd (omega arith)))
  decided_meets command k e x = rw (e ∙ ap form_of x.routing) command_meets
  decided_meets abts k e x =
      rw (e ∙ ap form_of x.routing) (after_abort (record_of p from) (abts_of p from h.ox_id h.rx_id).reply (record_of (abts_of p from h.ox_id h.rx_id).port from) (abts_reply p from h.ox_id h.rx_id) (abts_record p from h.ox_id h.rx_id))
  decided_meets fcp_data k e x = rw (e ∙ ap form_of x.routing) data_meets

  frame_meets : (q : Request) → Makes from f q → Meets (record_of p from) q (heard_in from d f start W l) (record_of (frame_in d f start W (length l)).drive.port from)
  frame_meets q x =
      frame_cases d f start W (length l) (λ _. Meets (record_of p from) q (heard_in from d f start W l) (record_of (frame_in d f start W (length l)).drive.port from))
      (λ y i. rw (frame_refuses d f start W l y i).0 (refused_meets (record_of p from) q)) (λ s. let t = passed_hears s in rw (t.0, t.1) (decided_meets q (form_of h.r_ctl) refl x))

-- whose frame it is
source_of : (a : ℕ) (f : List ℕ) (q : Request) → Makes a f q → (header_of f).s_id ≡ a
source_of a f (plogi k) m = m.0.form.source
source_of a f (pdisc k) m = m.0.form.source
source_of a f logo m = m.0.form.source
source_of a f adisc m = m.form.source
source_of a f prli m = m.form.source
source_of a f prlo m = m.form.source
source_of a f rrq m = m.form.source
source_of a f command m = m.source
source_of a f abts m = m.source
source_of a f fcp_data m = m.source

-- the law of a host's frame
pub host_takes : (a : ℕ) (d : Drive) → well_formed d.unit d.port ≡ true → (f : List ℕ) (start : ℕ) (W l : List ℕ) (q : Request) → Makes a f q
    → Meets (record_of d.port a) q (heard_in a d f start W l) (record_of (frame_in d f start W (length l)).drive.port a)
host_takes a d w f start W l q m =
    let s = source_of a f q m in
    subst (λ (x : ℕ). Meets (record_of d.port x) q (heard_in x d f start W l) (record_of (frame_in d f start W (length l)).drive.port x)) s
    (frame_meets d w f start W l q (subst (λ (x : ℕ). Makes x f q) (sym s) m))
