-- A command from its FCP_CMND frame on: its exchange opens as the frame's bytes say, and what follows is delivered. Assumes nothing.
use Rattle.std.specs.Prelude.{Option, None, Ok, Result}
use Rattle.refusal.specs.declared.Refusal.{Refusal}
use mathlib.Core.Path.{◌≡◌, refl, sym, ap, ◌∙◌, subst}
use mathlib.Core.Bool.{Bool, true, false, cond, not}
use mathlib.Core.List.{List, [], ◌++◌}
use Prim.Native.Nat.{ℕ, ◌*◌, ◌<◌}
use native.Mathlib.Omega.{arith}
use lib.Dec.{eqb}
use lib.ListN.{length, get_or}
use lib.Seq.{get_or-set_same}
use borrow.Author.Tests.{eqb-true, eq-eqb, not-false}
use Rattle.tables.proofs.Searches.{found_below, found_passes}
use Rattle.wire.specs.Bytes.{num, fill_count}
use Rattle.wire.specs.Layout.{AllBytes}
use Rattle.frame.specs.declared.Header.{Header}
use Rattle.frame.specs.Head.{header_of, header_bytes}
use Rattle.state.specs.declared.Exchange.{Exchange}
use Rattle.state.specs.declared.Login.{Login}
use Rattle.state.specs.declared.Port.{Port}
use Rattle.state.proofs.Places.{found_has, stored_at}
use Rattle.state.specs.declared.Unit.{Unit}
use Rattle.state.specs.Kinds.{kind_blocks, kind_inquiry, kind_inquiry_other, kind_sense_none, kind_sense_reset, kind_sense_cleared, kind_sense_other, is_write}
use Rattle.state.specs.Standing.{Open}
use Rattle.state.specs.Changes.{empty_exchange, empty_login, is_closed, has_address, own_of, login_at, exchange_at, with_login, with_attention, with_exchange}
use Rattle.state.specs.Tables.{has_id, find_login, find_exchange, free_exchange, login_in, login_of, lookup_of}
use Rattle.formed.specs.Formed.{full_frame, well_formed}
use Rattle.reply.specs.Payload.{payload_of}
use Rattle.reply.specs.Reply.{head_of, silent, filled, bytes_of}
use Rattle.calls.specs.Turn.{Decided}
use Rattle.calls.proofs.Decisions.{on_cond}
use Rattle.calls.proofs.Standing.{stands_there}
use Rattle.calls.proofs.Views.{sought_is}
use Rattle.command.specs.declared.Operation.TheVariants as op
use Rattle.command.specs.Cmnd.{cmnd_of}
use Rattle.command.specs.Cdb.{range10, operation_of}
use Rattle.command.specs.Tests.{inquiry_kind, sense_kind}
use Rattle.command.specs.Command.{reports, told_of, command_of}
use Rattle.command.proofs.Silent.{wish_of, OpensAt, command_silent}
use Rattle.arrival.specs.Arrival.{spared, unproven_login, form_of}
use Rattle.arrival.proofs.Passes.{Passes}
use Rattle.drive.specs.declared.Drive.{Drive}
use Rattle.drive.specs.declared.Answer.{Answer}
use Rattle.drive.specs.Entry.{answered, decided_in, reply_bytes, frame_in}
use Rattle.drive.proofs.Keeping.{frame_kept}
use Rattle.drive.proofs.Ways.{passed_in}
use Rattle.serve.specs.Made.{made_bytes}
use Rattle.serve.specs.Next.{exchange_of, full_of}
use Rattle.demands.specs.Reading.{Reads, CommandIn, read_of, Opens, read, write, inquiry, capacity, sense, Opened, Delivered, read_from, Frees, Comes}
use Rattle.demands.proofs.Decoding.{framed_long}
use Rattle.demands.proofs.Refusals.{frame_answers}
use Rattle.demands.proofs.Reading.{reads_read, reads_made, reads_come}

-- a reply of no bytes is none
none_silent : (d : Drive) (h : Header) (r : Decided) → ◌≡◌ {A = Result ℕ Refusal} (Ok (length (reply_bytes d h r))) (Ok 0) → silent r.reply ≡ true
unfolding reply_bytes bytes_of
none_silent d h r e = by (silent r.reply) refl (cc)
  where
    P : List ℕ
    P = payload_of (own_of d.port) h r.reply []

    by : (b : Bool) → silent r.reply ≡ b → length (cond b [] (header_bytes (head_of h r.reply (fill_count (length P))) ++ filled P)) ≡ 0 → silent r.reply ≡ true
    by true s n = s
    by false s n = let l = framed_long (head_of h r.reply (fill_count (length P))) P in absurd (omega arith)

-- what a command of each code asks of a login is what its frame's bytes say
wish_is : {code : ℕ} {wish : List ℕ → Login → Exchange} → Opens code wish → (f : List ℕ) (m : Login) → get_or f 36 0 ≡ code → wish_of m (header_of f).ox_id (cmnd_of f) ≡ wish f m
unfolding cmnd_of operation_of range10 header_of
wish_is read f m c = let is : operation_of (cmnd_of f).cdb ≡ op.Read record { start = num 4 f 38; blocks = num 2 f 43 } = rw c in rw is
wish_is write f m c = let is : operation_of (cmnd_of f).cdb ≡ op.Write record { start = num 4 f 38; blocks = num 2 f 43 } = rw c in rw is
wish_is inquiry f m c = let is : operation_of (cmnd_of f).cdb ≡ op.Inquiry (get_or f 40 0) = rw c in rw is
wish_is capacity f m c = let is : operation_of (cmnd_of f).cdb ≡ op.ReadCapacity = rw c in rw is
wish_is sense f m c = let is : operation_of (cmnd_of f).cdb ≡ op.RequestSense (get_or f 40 0) = rw c in rw is

-- its exchange is open, of the frame's OX_ID and FCP_DL, and nothing of it was sent
record Anew (f : List ℕ) (e : Exchange) : Type 0 where
  open_is : is_closed e ≡ false
  id : e.ox_id ≡ num 2 f 16
  dl : e.expected ≡ num 4 f 52
  unsent : e.sent ≡ 0

-- a kind of INQUIRY or REQUEST SENSE is not that of a free place, nor of a READ
module _ (P : ℕ → Type 0) where
  inquiry_kinds : P kind_inquiry → P kind_inquiry_other → (lun : ℕ) → P (inquiry_kind lun)
  unfolding inquiry_kind
  inquiry_kinds a b lun = on_cond P (eqb lun 0) a b

  sense_kinds : P kind_sense_other → P kind_sense_none → P kind_sense_reset → P kind_sense_cleared → (lun attention : ℕ) → P (sense_kind lun attention)
  unfolding sense_kind
  sense_kinds a b c e lun attention = on_cond P (not (eqb lun 0)) a (on_cond P (eqb attention 0) b (on_cond P (eqb attention 0x29) c e))

wish_anew : {code : ℕ} {wish : List ℕ → Login → Exchange} → Opens code wish → (f : List ℕ) (m : Login) → Anew f (wish f m)
wish_anew read f m = record { open_is = refl; id = refl; dl = refl; unsent = refl }
wish_anew write f m = record { open_is = refl; id = refl; dl = refl; unsent = refl }
wish_anew inquiry f m = record { open_is = inquiry_kinds (λ (k : ℕ). eqb k 0 ≡ false) refl refl (num 8 f 24); id = refl; dl = refl; unsent = refl }
wish_anew capacity f m = record { open_is = refl; id = refl; dl = refl; unsent = refl }
wish_anew sense f m = record { open_is = sense_kinds (λ (k : ℕ). eqb k 0 ≡ false) refl refl refl refl (num 8 f 24) m.attention; id = refl; dl = refl; unsent = refl }

-- and no made data are a READ's or a WRITE's
wish_made : {code : ℕ} {wish : List ℕ → Login → Exchange} → Opens code wish → (code ≡ 0x28 → ⊥) → (code ≡ 0x2a → ⊥) → (f : List ℕ) (m : Login) → (wish f m).kind ≡ kind_blocks → ⊥
wish_made read n k f m = absurd (n refl)
wish_made write n k f m = absurd (k refl)
wish_made inquiry n k f m = inquiry_kinds (λ (k : ℕ). k ≡ kind_blocks → ⊥) (λ e. omega arith) (λ e. omega arith) (num 8 f 24)
wish_made capacity n k f m = λ e. omega arith
wish_made sense n k f m = sense_kinds (λ (k : ℕ). k ≡ kind_blocks → ⊥) (λ e. omega arith) (λ e. omega arith) (λ e. omega arith) (λ e. omega arith) (num 8 f 24) m.attention

-- only a WRITE's data come from the host
wish_sends : {code : ℕ} {wish : List ℕ → Login → Exchange} → Opens code wish → (code ≡ 0x2a → ⊥) → (f : List ℕ) (m : Login) → is_write (wish f m) ≡ false
wish_sends read n f m = refl
wish_sends write n f m = absurd (n refl)
wish_sends inquiry n f m = refl
wish_sends capacity n f m = refl
wish_sends sense n f m = refl

-- what is told leaves all of a login but its attention
told_same : (m : Login) (kind : ℕ) → (P : Login → Type 0) → P m → P (with_attention m 0) → P (told_of m kind)
unfolding told_of
told_same m kind P a b = on_cond P (reports kind) b a

module _ {code : ℕ} {wish : List ℕ → Login → Exchange} (opens : Opens code wish) (d : Drive) (f : List ℕ) (start : ℕ) (W l : List ℕ) (known : AllBytes f) (r : CommandIn code d f start W l) where
  abbrev head : Header
  head = header_of f

  abbrev decided : Decided
  decided = command_of d.unit d.port head f

  abbrev then : Drive
  then = (frame_in d f start W (length l)).drive

  passes : Passes d.unit d.port head f (length l)
  passes = (passed_in d f start (length W) (length l) r.passed).arrived

  -- the answer is the command's
  command_answered : frame_in d f start W (length l) ≡ answered d head decided
  unfolding form_of
  command_answered = let is : decided_in d f start (length W) ≡ decided = rw r.command in (frame_answers d f start W l r.passed).0 ∙ ap (answered d head) is

  opens_at : OpensAt d.port head (cmnd_of f) decided.port
  opens_at = command_silent d.unit d.port head f (none_silent d head decided (sym (ap (λ (a : Answer). a.said) command_answered) ∙ r.silent))

  -- the places of its login and of itself, and the login
  abbrev seat : ℕ
  seat = opens_at.i

  abbrev place : ℕ
  place = opens_at.opens.j

  abbrev its : Login
  its = login_at d.port seat

  abbrev opened : Exchange
  opened = wish f its

  anew : Anew f opened
  anew = wish_anew opens f its

  -- the login had no exchange of its OX_ID
  none_open : find_exchange its head.ox_id ≡ None
  unfolding login_of
  none_open =
      let is = sought_is d.port head.s_id head.ox_id ∙ ap (λ (g : Option ℕ). find_exchange (login_in d.port g) head.ox_id) opens_at.seat in
      sym is ∙ opens_at.opens.none

  has_own : has_id head.ox_id opened ≡ true
  unfolding has_id header_of
  has_own = rw (anew.open_is, anew.id) (eq-eqb (num 2 f 16) (num 2 f 16) refl)

  abbrev told : Login
  told = told_of its opened.kind

  abbrev later : Port
  later = with_login d.port seat (with_exchange told place opened)

  port_later : decided.port ≡ later
  port_later =
      opens_at.is ∙ ap (with_login d.port seat) (opens_at.opens.is ∙ ap (λ (e : Exchange). with_exchange (told_of its e.kind) place e) (wish_is opens f its r.code))

  drive_later : then ≡ record { unit = d.unit; port = later }
  drive_later = ap (λ (a : Answer). a.drive) command_answered ∙ ap (λ (q : Port). record { unit = d.unit; port = q }) port_later

  -- its login stands where it stood, and the exchange at its place
  login_later : login_at later seat ≡ with_exchange told place opened
  unfolding find_login
  login_later = stored_at d.port seat (with_exchange told place opened) (found_below empty_login (has_address head.s_id) d.port.logins opens_at.seat)

  place_inside : place < length told.places
  unfolding free_exchange
  place_inside = told_same its opened.kind (λ (m : Login). place < length m.places) within within
    where
      within : place < length its.places
      within = found_below empty_exchange is_closed its.places opens_at.opens.free

  place_later : exchange_at (with_exchange told place opened) place ≡ opened
  unfolding exchange_at with_exchange
  place_later = get_or-set_same told.places place opened empty_exchange place_inside

  is_later : exchange_of then.port seat place ≡ opened
  is_later = ap (λ (e : Drive). exchange_of e.port seat place) drive_later ∙ ap (λ (m : Login). exchange_at m place) login_later ∙ place_later

  has_later : has_address head.s_id (login_at later seat) ≡ true
  unfolding with_exchange has_address
  has_later =
      let has = found_has d.port head.s_id seat opens_at.seat in
      ap (has_address head.s_id) login_later ∙ told_same its opened.kind (λ (m : Login). has_address head.s_id m ≡ true) has has

  full_later : full_of later seat ≡ full_of d.port seat
  unfolding with_exchange
  full_later = ap (λ (m : Login). full_frame m.size) login_later ∙ told_same its opened.kind (λ (m : Login). full_frame m.size ≡ full_frame its.size) refl refl

  formed_later : well_formed then.unit then.port ≡ true
  formed_later = frame_kept d f start W (length l) known passes.fine

  stands_later : lookup_of then.port head.s_id head.ox_id ≡ Open seat place
  stands_later =
      let has = ap (λ (e : Drive). has_address head.s_id (login_at e.port seat)) drive_later ∙ has_later in
      stands_there then.unit then.port formed_later head.s_id head.ox_id seat place has (ap (has_id head.ox_id) is_later ∙ has_own)

  place_free : is_closed (exchange_of d.port seat place) ≡ true
  unfolding free_exchange exchange_at
  place_free = found_passes empty_exchange is_closed its.places opens_at.opens.free

  ox_small : head.ox_id < 65536
  unfolding header_of
  ox_small = let a = known 16 in let b = known 17 in omega arith

  dl_small : num 4 f 52 < 4294967296
  dl_small = let a = known 52 in let b = known 53 in let c = known 54 in let e = known 55 in omega arith

  pub opens_command : Opened d f (wish f) then
  opens_command =
      record {
        i = seat;
        j = place;
        seat = opens_at.seat;
        free = place_free;
        fresh = record {
          stands = stands_later;
          fresh = ap (λ (e : Exchange). e.sent) is_later ∙ anew.unsent;
          ox = ox_small;
          expected = subst (λ (n : ℕ). n < 4294967296) (sym (ap (λ (e : Exchange). e.expected) is_later ∙ anew.dl)) dl_small;
        };
        is = is_later;
        drive = drive_later;
      }

  unit_later : then.unit ≡ d.unit
  unit_later = ap (λ (s : Drive). s.unit) drive_later

  unit_long : (unit : List ℕ) → length unit ≡ 512 * d.unit.capacity → length unit ≡ 512 * then.unit.capacity
  unit_long unit long = long ∙ ap (λ (u : Unit). 512 * u.capacity) (sym unit_later)

  -- what is delivered of the exchange as it stands is delivered of the one that the frame asked for
  delivered_later : (from : List ℕ) (frames : List (List ℕ)) (last : List ℕ)
      → Delivered from then.port.address head.s_id (full_of then.port seat) (exchange_of then.port seat place) frames last
      → Delivered from d.port.address head.s_id (full_of d.port seat) opened frames last
  unfolding with_login
  delivered_later from frames last t =
      let own : then.port.address ≡ d.port.address = ap (λ (s : Drive). s.port.address) drive_later in
      let full : full_of then.port seat ≡ full_of d.port seat = ap (λ (s : Drive). full_of s.port seat) drive_later ∙ full_later in
      rw (own, full, is_later) at t

  -- 7 did not apply, so the login is proven
  login_proven : its.proven ≡ 1
  unfolding spared unproven_login
  login_proven =
      let fails : not (eqb its.proven 1) ≡ false = rw (r.command, opens_at.seat) at passes.proven in
      eqb-true its.proven 1 (not-false (eqb its.proven 1) fails)

  proven_later : (login_at then.port seat).proven ≡ 1
  unfolding with_exchange
  proven_later =
      ap (λ (s : Drive). (login_at s.port seat).proven) drive_later ∙ ap (λ (m : Login). m.proven) login_later
      ∙ told_same its opened.kind (λ (m : Login). m.proven ≡ its.proven) refl refl ∙ login_proven

  -- and such frames there are
  pub comes_in : (code ≡ 0x2a → ⊥) → (unit : List ℕ) → length unit ≡ 512 * d.unit.capacity → Comes unit head.s_id head.ox_id then
  comes_in n unit long =
      reads_come then unit head.s_id head.ox_id seat place formed_later (unit_long unit long) stands_later proven_later (ap (λ (e : Exchange). is_write e) is_later ∙ wish_sends opens n f its)

-- the frames that follow carry what the frame asked for: a READ's the unit's bytes
module _ (d : Drive) (f : List ℕ) (start : ℕ) (W l : List ℕ) (known : AllBytes f) (r : CommandIn 0x28 d f start W l) (e : Drive) (unit : List ℕ) (frames : List (List ℕ)) (last : List ℕ) where
  pub read_in : length unit ≡ 512 * d.unit.capacity → (reads : Reads unit (header_of f).s_id (header_of f).ox_id (frame_in d f start W (length l)).drive frames last e)
      → let o = opens_command read d f start W l known r in
      Delivered (read_from unit (read_of f)) d.port.address (header_of f).s_id (full_of d.port o.i) (read_of f) frames last × Frees o.i o.j reads
  unfolding opens_command
  read_in long reads =
      let o = opens_command read d f start W l known r in
      let then = (frame_in d f start W (length l)).drive in
      let is = o.is in
      let t = reads_read then e unit (header_of f).s_id (header_of f).ox_id o.i o.j frames last (formed_later read d f start W l known r) (unit_long read d f start W l known r unit long) o.fresh (ap (λ (s : Exchange). s.kind) is) (ap (λ (s : Exchange). is_write s) is) reads in
      let from : read_from unit (exchange_of then.port o.i o.j) ≡ read_from unit (read_of f) = ap (read_from unit) is in
      (delivered_later read d f start W l known r (read_from unit (read_of f)) frames last (rw from at t.0), t.1)

-- and of the others the made data
module _ {code : ℕ} {wish : List ℕ → Login → Exchange} (opens : Opens code wish) (made : code ≡ 0x28 → ⊥) (unwritten : code ≡ 0x2a → ⊥) (d : Drive) (f : List ℕ) (start : ℕ) (W l : List ℕ) (known : AllBytes f) (r : CommandIn code d f start W l) (e : Drive) (unit : List ℕ)
    (frames : List (List ℕ)) (last : List ℕ) where
  pub made_in : length d.unit.identity ≡ 28 → (reads : Reads unit (header_of f).s_id (header_of f).ox_id (frame_in d f start W (length l)).drive frames last e)
      → let o = opens_command opens d f start W l known r in
      let x = wish f (login_at d.port o.i) in
      Delivered (made_bytes d.unit x.kind) d.port.address (header_of f).s_id (full_of d.port o.i) x frames last × Frees o.i o.j reads
  unfolding opens_command
  made_in words reads =
      let o = opens_command opens d f start W l known r in
      let then = (frame_in d f start W (length l)).drive in
      let x = wish f (login_at d.port o.i) in
      let is = o.is in
      let same = unit_later opens d f start W l known r in
      let other : (exchange_of then.port o.i o.j).kind ≡ kind_blocks → ⊥ = λ k. wish_made opens made unwritten f (login_at d.port o.i) (sym (ap (λ (s : Exchange). s.kind) is) ∙ k) in
      let t = reads_made then e unit (header_of f).s_id (header_of f).ox_id o.i o.j frames last (formed_later opens d f start W l known r) (ap (λ (u : Unit). length u.identity) same ∙ words) o.fresh other reads in
      let from : made_bytes then.unit (exchange_of then.port o.i o.j).kind ≡ made_bytes d.unit x.kind = λ n. made_bytes (same n) (is n).kind in
      (delivered_later opens d f start W l known r (made_bytes d.unit x.kind) frames last (rw from at t.0), t.1)
