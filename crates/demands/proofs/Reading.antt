-- What a whole READ delivers, read from the bytes that stand in the lent buffers, as one reads them who knows document 01 and not the code. Assumes nothing.
use mathlib.Core.Path.{◌≡◌, refl, sym, ap, ◌∙◌, subst}
use mathlib.Core.Bool.{Bool, true, false, not}
use mathlib.Core.List.{List, [], ◌∷◌, map}
use Prim.Native.Nat.{ℕ, ◌*◌, ◌≤◌, ◌<◌}
use native.Mathlib.Omega.{arith}
use lib.Dec.{eqb}
use lib.ListN.{length, take, replicate, length-replicate, length-map}
use borrow.Author.Tests.{eqb-true, eq-eqb, ne_eqb}
use Rattle.tables.proofs.Bools.{and_right, apart}
use Rattle.wire.proofs.Digits.{num_bytes}
use Rattle.frame.specs.Head.{header_bytes}
use Rattle.state.specs.declared.Exchange.{Exchange}
use Rattle.state.specs.declared.Port.{Port}
use Rattle.state.specs.declared.Unit.{Unit}
use Rattle.state.specs.Standing.{Open}
use Rattle.state.specs.Changes.{is_closed, login_at}
use Rattle.state.specs.Kinds.{kind_blocks, is_write}
use Rattle.state.specs.Tables.{has_id, lookup_of}
use Rattle.state.proofs.Places.{open_has}
use Rattle.formed.specs.Formed.{total, well_formed}
use Rattle.formed.proofs.Advance.{is_read, wanted_small}
use Rattle.residual.specs.Residual.{residual_of}
use Rattle.reply.specs.declared.Residual.{Residual}
use Rattle.reply.specs.declared.Response.{Response}
use Rattle.reply.specs.declared.Response.TheVariants.{Status}
use Rattle.reply.specs.Payload.{residual_flag, residual_size}
use Rattle.serve.specs.Next.{frame_of, exchange_of, full_of, Frame, step_of, frame_bytes, next_of}
use Rattle.cover.specs.Cover.{cut}
use Rattle.serve.specs.Made.{made_bytes}
use Rattle.serve.specs.Whole.{Piece, payload_at, Run, data_of}
use Rattle.serve.specs.Whole as whole
use Rattle.serve.proofs.Frames.{made_sends, runs, is_data_lem, is_response_lem}
use Rattle.serve.proofs.Asking.{ends_reply, sends_reply}
use Rattle.serve.proofs.Keeping.{next_kept}
use Rattle.serve.proofs.Whole.{run_whole, read_enough, made_enough}
use Rattle.serve.proofs.Comes.{run_comes}
use Rattle.arrival.specs.Arrival.{short_buffer}
use Rattle.drive.specs.declared.Drive.{Drive}
use Rattle.demands.proofs.Asks.{residual_small}
use Rattle.demands.proofs.Decoding.{response_frame, data_offset, data_count, data_payload, frame_addressed}
use Rattle.demands.proofs.Calls.{says, front_is, drive_is}
use Rattle.demands.proofs.Stepping.{data_shown, response_shown, data_left, nothing_left, shows_one, own_stays, Stepped, stepped, stepped_on}
use Rattle.demands.proofs.Between.{leaves_open}
use Rattle.demands.specs.Between.{Left}
use Rattle.demands.proofs.Every.{reads_each}
use Rattle.demands.specs.Reading.{is_data, is_response, piece_in, flags_in, status_in, resid_in, rest_in, Sends, Reads, carries, responds, between, unbroken, rooms_of, Fresh, response_header, framed, data_frames, good_payload, Delivered, read_from, Frees, Comes, Shown}

-- no call is left out of a run: each frame that is sent shows itself as one of the three, and for whom it is
pub reads_shown : (unit : List ℕ) (a x : ℕ) (d : Drive) (f : List ℕ) (e : Drive) → x < 65536 → Sends unit a x d f e → (f ≡ [] → ⊥) → Shown d.port.address a x f
reads_shown unit a x d f e small s full =
    let t = stepped s in
    let W = cut unit t.start t.len in
    let some : frame_bytes d.unit d.port a x t.i t.j t.k W ≡ [] → ⊥ = λ e. full (t.frame ∙ e) in
    let h = frame_addressed d.unit d.port a x t.i t.j t.k W t.formed t.stands small some in
    rw t.frame record { to = h.0; from = h.1; exchange = h.2; kind = shows_one d.unit d.port a x t.i t.j t.k W some }

same_piece : (f g : Piece) → f.offset ≡ g.offset → f.count ≡ g.count → f.payload ≡ g.payload → f ≡ g
same_piece f g o c b = λ i. record { offset = o i; count = c i; payload = b i }

-- frames one after the other; where no call came between, nothing happened between them
record Runs (u : Unit) (unit : List ℕ) (a x : ℕ) (p : Port) (pieces : List Piece) (r : Response) (q : Port) (whole_run : Bool) : Type 0 where
  run : Run u unit a x p pieces r q
  lone : whole_run ≡ true → whole.alone run ≡ true

-- calls one after the other are frames one after the other, of the same pieces; and the last of them
record Ran (u : Unit) (unit : List ℕ) (a x : ℕ) (p : Port) (pieces : List Piece) (last : List ℕ) (e : Drive) (whole_run : Bool) : Type 0 where
  residual : Residual
  runs_on : Runs u unit a x p pieces (Status 0x00 residual) e.port whole_run
  same : e.unit ≡ u
  response : last ≡ framed (response_header p.address a x) (good_payload (residual_flag residual) (residual_size residual))

ran_response : {unit : List ℕ} {a x : ℕ} {d e : Drive} {f : List ℕ} → Stepped unit a x d f e → is_response f ≡ true → Ran d.unit unit a x d.port [] f e true
ran_response {unit} {a} {x} {d} {e} {f} t shown =
    let u = d.unit in
    let p = d.port in
    let W = cut unit t.start t.len in
    let none = nothing_left u p a x t.i t.j t.k W (rw t.frame at shown) in
    let reply = ends_reply (full_of p t.i) (exchange_of p t.i t.j) none in
    let r = residual_of (exchange_of p t.i t.j).wanted (exchange_of p t.i t.j).expected in
    let ends : Runs u unit a x p [] (Status 0x00 r) _ true = record { run = whole.ends t.start t.len t.i t.j t.k t.step reply; lone = λ _. refl } in
    record {
      residual = r;
      runs_on = subst (λ (q : Port). Runs u unit a x p [] (Status 0x00 r) q true) (sym (ap (λ (s : Drive). s.port) t.drive)) ends;
      same = ap (λ (s : Drive). s.unit) t.drive;
      response = t.frame ∙ response_frame u p a x t.i t.j t.k W r reply;
    }

ran_data : {unit : List ℕ} {a x : ℕ} {d d₁ e : Drive} {f last : List ℕ} {pieces : List Piece} {b : Bool} → x < 65536 → Stepped unit a x d f d₁ → is_data f ≡ true → Ran d₁.unit unit a x d₁.port pieces last e b
    → Ran d.unit unit a x d.port (piece_in f ∷ pieces) last e b
ran_data {unit} {a} {x} {d} {d₁} {e} {f} {last} {pieces} {b} small t shown rest =
    let u = d.unit in
    let p = d.port in
    let W = cut unit t.start t.len in
    let g = frame_of (full_of p t.i) (exchange_of p t.i t.j) in
    let left = data_left u p a x t.i t.j t.k W (rw t.frame at shown) in
    let reply = sends_reply (full_of p t.i) (exchange_of p t.i t.j) left.0 left.1 in
    let is : piece_in f ≡ record { offset = g.offset; count = g.count; payload = payload_at u p a x t.i t.j t.k W } =
    ap piece_in t.frame
    ∙ same_piece _ _ (data_offset u p a x t.i t.j t.k W t.formed t.stands small g reply) (data_count u p a x t.i t.j t.k W t.formed t.stands small g reply)
    (data_payload u p a x t.i t.j t.k W t.formed t.stands small g reply) in
    let r = Status 0x00 rest.residual in
    let own : d₁.port.address ≡ p.address = ap (λ (s : Drive). s.port.address) t.drive ∙ own_stays u p a x t.start W t.i t.j t.k t.step in
    let on = subst (λ (s : Drive). Runs s.unit unit a x s.port pieces r e.port b) t.drive rest.runs_on in
    let carried : Runs u unit a x p _ r e.port b = record { run = whole.piece t.start t.len t.i t.j t.k g t.step reply on.run; lone = on.lone } in
    record {
      residual = rest.residual;
      runs_on = subst (λ (h : Piece). Runs u unit a x p (h ∷ pieces) r e.port b) (sym is) carried;
      same = rest.same ∙ ap (λ (s : Drive). s.unit) t.drive;
      response = rest.response ∙ ap (λ (own : ℕ). framed (response_header own a x) (good_payload (residual_flag rest.residual) (residual_size rest.residual))) own;
    }

ran_between : {unit : List ℕ} {a x : ℕ} {d d₁ e : Drive} {last : List ℕ} {pieces : List Piece} {b : Bool} (i j : ℕ) → Left a x i j d d₁ → Ran d₁.unit unit a x d₁.port pieces last e b
    → Ran d.unit unit a x d.port pieces last e false
ran_between {unit} {a} {x} {d} {d₁} {e} {last} {pieces} {b} i j t rest =
    let r = Status 0x00 rest.residual in
    let on = subst (λ (u : Unit). Runs u unit a x d₁.port pieces r e.port b) t.unit rest.runs_on in
    let formed = subst (λ (u : Unit). well_formed u d₁.port ≡ true) t.unit t.formed in
    record {
      residual = rest.residual;
      runs_on = record { run = whole.aside i j t.stays formed on.run; lone = λ h. apart h refl };
      same = rest.same ∙ t.unit;
      response = rest.response ∙ ap (λ (own : ℕ). framed (response_header own a x) (good_payload (residual_flag rest.residual) (residual_size rest.residual))) t.stays.own;
    }

module _ {unit : List ℕ} {a x : ℕ} (small : x < 65536) (i j : ℕ) where
  ran : {d e : Drive} {frames : List (List ℕ)} {last : List ℕ} → well_formed d.unit d.port ≡ true → lookup_of d.port a x ≡ Open i j → (reads : Reads unit a x d frames last e)
      → Ran d.unit unit a x d.port (map piece_in frames) last e (unbroken reads)
  ran w o (responds s shown) = ran_response (stepped s) shown
  ran w o (carries s shown rest) = let t = stepped s in let on = stepped_on i j o t shown in ran_data small t shown (ran on.0 on.1 rest)
  ran {d} w o (between c leaves rest) = let t = leaves_open d a x i j w o c leaves in ran_between i j t (ran t.formed t.stays.after rest)

-- what FCP_RSP shows to one who reads its bytes
module _ (own a x flags resid : ℕ) where
  abbrev good : List ℕ
  good = framed (response_header own a x) (good_payload flags resid)

  good_status : status_in good ≡ 0x00
  unfolding header_bytes
  good_status = refl

  good_flags : flags_in good ≡ flags
  unfolding header_bytes
  good_flags = refl

  good_resid : resid < 4294967296 → resid_in good ≡ resid
  unfolding header_bytes
  good_resid small = num_bytes 4 resid (omega arith)

  good_rest : rest_in good ≡ replicate 8 0
  unfolding header_bytes
  good_rest = refl

same_status : (r s : Residual) → Status 0x00 r ≡ Status 0x00 s → r ≡ s
same_status r s e = cc

-- an open exchange has the OX_ID by which it is found
open_id : (p : Port) (a x i j : ℕ) → lookup_of p a x ≡ Open i j → (exchange_of p i j).ox_id ≡ x
unfolding has_id
open_id p a x i j o = let e = exchange_of p i j in eqb-true e.ox_id x (and_right (not (is_closed e)) (eqb e.ox_id x) (open_has p a x i j o))

-- an open exchange of a well-formed drive, whatever windows of the unit and whatever buffers are lent, and whatever calls come between that leave it open: the frames that stood in the buffers
-- carry its data, to its total, each once and in order, and then its status and residual; its place is free, and where no call came between nothing else of the drive has changed
pub reads_whole : (d e : Drive) (unit : List ℕ) (a x i j : ℕ) (frames : List (List ℕ)) (last : List ℕ) → well_formed d.unit d.port ≡ true
    → total (exchange_of d.port i j) ≤ length (data_of d.unit unit (exchange_of d.port i j)) → Fresh d a x i j → is_write (exchange_of d.port i j) ≡ false → (reads : Reads unit a x d frames last e)
    → Delivered (data_of d.unit unit (exchange_of d.port i j)) d.port.address a (full_of d.port i) (exchange_of d.port i j) frames last × Frees i j reads
reads_whole d e unit a x i j frames last w enough o to reads =
    let u = d.unit in
    let p = d.port in
    let r = exchange_of p i j in
    let full = full_of p i in
    let left = residual_of r.wanted r.expected in
    let known = (runs u p a x i j w o.stands).wanted in
    let t = ran o.ox i j w o.stands reads in
    let s = run_whole u unit p e.port a x i j (map piece_in frames) (Status 0x00 t.residual) w o.stands enough o.fresh t.runs_on.run in
    let is = same_status t.residual left s.0.response in
    let ox = open_id p a x i j o.stands in
    let all = take (total r) (data_of u unit r) in
    let last-is = t.response ∙ ap (λ (q : Residual). good p.address a x (residual_flag q) (residual_size q)) is in (
      record {
        bytes = s.0.bytes;
        order = s.0.order;
        few = sym (length-map frames piece_in) ∙ s.0.frames;
        each = reads_each d e unit a x i j frames last w enough o to reads ∙ ap (λ (n : ℕ). data_frames p.address a n full all (length frames) 0) (sym ox);
        status = ap status_in last-is ∙ good_status p.address a x (residual_flag left) (residual_size left);
        flags = ap flags_in last-is ∙ good_flags p.address a x (residual_flag left) (residual_size left);
        resid = ap resid_in last-is ∙ good_resid p.address a x (residual_flag left) (residual_size left) (residual_small r.wanted r.expected (wanted_small u r known) o.expected);
        rest = ap rest_in last-is ∙ good_rest p.address a x (residual_flag left) (residual_size left);
        response = last-is ∙ ap (λ (n : ℕ). good p.address a n (residual_flag left) (residual_size left)) (sym ox);
      },
      record { closed = s.1.closed; only = λ h n. record { unit = t.same n; port = s.1.only (t.runs_on.lone h) n } },
    )

-- the same by what its data are, a READ's and made data
module _ (d e : Drive) (unit : List ℕ) (a x i j : ℕ) (frames : List (List ℕ)) (last : List ℕ) (w : well_formed d.unit d.port ≡ true) where
  abbrev u : Unit
  u = d.unit

  abbrev r : Exchange
  r = exchange_of d.port i j

  -- it is delivered whole, and its place is free
  abbrev Served : List ℕ → Reads unit a x d frames last e → Type 0
  Served from reads = Delivered from d.port.address a (full_of d.port i) r frames last × Frees i j reads

  reads_from : (from : List ℕ) → data_of u unit r ≡ from → total r ≤ length from → Fresh d a x i j → is_write r ≡ false → (reads : Reads unit a x d frames last e) → Served from reads
  reads_from from is enough o to reads = subst (λ (data_is : List ℕ). Served data_is reads) is (reads_whole d e unit a x i j frames last w (rw is enough) o to reads)

  pub reads_read : length unit ≡ 512 * u.capacity → Fresh d a x i j → r.kind ≡ kind_blocks → is_write r ≡ false → (reads : Reads unit a x d frames last e) → Served (read_from unit r) reads
  reads_read long o kind to =
      reads_from (read_from unit r) (rw (eq-eqb r.kind kind_blocks kind)) (read_enough u unit r long (is_read u r kind (runs u d.port a x i j w o.stands).wanted)) o to

  pub reads_made : length u.identity ≡ 28 → Fresh d a x i j → (r.kind ≡ kind_blocks → ⊥) → (reads : Reads unit a x d frames last e) → Served (made_bytes u r.kind) reads
  reads_made words o kind =
      let other = ne_eqb r.kind kind_blocks kind in
      let known = runs u d.port a x i j w o.stands in
      reads_from (made_bytes u r.kind) (rw other) (made_enough u r words other known.wanted) o (made_sends known other)

-- frames one after the other are calls one after the other, with any buffers of 2,136 bytes
module _ (u : Unit) (unit : List ℕ) (a x : ℕ) (l : List ℕ) (room : length l ≡ 2136) where
  abbrev drive_at : Port → Drive
  drive_at p = record { unit = u; port = p }

  roomy : short_buffer (length l) ≡ false
  roomy = rw room

  module _ (p : Port) (start len i j k : ℕ) (w : well_formed u p ≡ true) (step : step_of p a x start (length (cut unit start len)) ≡ Frame i j k) where
    abbrev W : List ℕ
    W = cut unit start len

    call : Sends unit a x (drive_at p) (frame_bytes u p a x i j k W) (drive_at (next_of u p a x start W).port)
    call =
        record {
          start = start;
          len = len;
          buffer = l;
          n = length (frame_bytes u p a x i j k W);
          said = says (drive_at p) a x start W l i j k roomy w step;
          frame = sym (front_is (drive_at p) a x start W l i j k roomy w step);
          drive = sym (drive_is (drive_at p) a x start W l i j k roomy w step);
        }

  calls_come : {p q : Port} {pieces : List Piece} {r : Response} → well_formed u p ≡ true → (run : Run u unit a x p pieces r q) → whole.alone run ≡ true → Comes unit a x (drive_at p)
  unfolding call
  calls_come {p} {q} {pieces} {r} w (whole.ends start len i j k step reply) lone =
      let none = (is_response_lem (full_of p i) (exchange_of p i j) r reply).0 in
      record {
        frames = [];
        last = _;
        end = _;
        reads = responds (call p start len i j k w step) (response_shown u p a x i j k (cut unit start len) none);
        lone = refl;
        rooms = ap (λ (m : ℕ). m ∷ []) room;
      }
  calls_come {p} {q} {pieces} {r} w (whole.piece start len i j k f step reply rest) lone =
      let left = is_data_lem (full_of p i) (exchange_of p i j) f reply in
      let on = calls_come (next_kept u p a x start (cut unit start len) w) rest lone in
      record {
        frames = _;
        last = on.last;
        end = on.end;
        reads = carries (call p start len i j k w step) (data_shown u p a x i j k (cut unit start len) left.0 left.2) on.reads;
        lone = on.lone;
        rooms = ap (λ (m : ℕ). m ∷ rooms_of on.reads) room ∙ ap (λ (ns : List ℕ). 2136 ∷ ns) on.rooms;
      }
  calls_come {p} {q} {pieces} {r} w (whole.aside i j stays formed rest) lone = apart lone refl

-- and such a run there is for every open exchange of a proven login but a WRITE, with buffers of 2,136 bytes
pub reads_come : (d : Drive) (unit : List ℕ) (a x i j : ℕ) → well_formed d.unit d.port ≡ true → length unit ≡ 512 * d.unit.capacity → lookup_of d.port a x ≡ Open i j
    → (login_at d.port i).proven ≡ 1 → is_write (exchange_of d.port i j) ≡ false → Comes unit a x d
reads_come d unit a x i j w long o proven to =
    let ends = run_comes d.unit unit d.port a x i j w long o proven to in
    calls_come d.unit unit a x (replicate 2136 0) (length-replicate {A = ℕ} 2136 0) w ends.run ends.lone
