-- A call that sent a frame is a step, and R_CTL and TYPE of the frame show which. Assumes nothing.
use mathlib.Core.Path.{◌≡◌, refl, sym, ap, ◌∙◌, subst}
use mathlib.Core.Bool.{Bool, true, false, ◌||◌}
use mathlib.Core.List.{List, []}
use Prim.Native.Nat.{ℕ}
use lib.ListN.{length, take}
use Rattle.tables.proofs.Bools.{apart}
use Rattle.frame.specs.Head.{header_of}
use Rattle.state.specs.declared.Exchange.{Exchange}
use Rattle.state.specs.declared.Port.{Port}
use Rattle.state.specs.declared.Unit.{Unit}
use Rattle.state.specs.Standing.{Open}
use Rattle.state.specs.Changes.{with_login}
use Rattle.state.specs.Kinds.{is_write}
use Rattle.state.specs.Tables.{lookup_of}
use Rattle.formed.specs.Formed.{well_formed}
use Rattle.serve.specs.Next.{has_more, exchange_of, full_of, Frame, step_of, frame_bytes, moved_on, next_of}
use Rattle.cover.specs.Cover.{cut}
use Rattle.serve.proofs.Steps.{passed}
use Rattle.serve.proofs.Frames.{port_is}
use Rattle.serve.proofs.Keeping.{next_kept}
use Rattle.serve.proofs.Asking.{ends_reply, sends_reply, asks_reply, awaits_reply}
use Rattle.serve.proofs.Whole.{next_open}
use Rattle.drive.specs.declared.Drive.{Drive}
use Rattle.drive.specs.Entry.{next_frame_buffer}
use Rattle.demands.proofs.Decoding.{Kind, sends, asks, waits, ends, kind_of, no_bytes, data_kind, ready_kind, response_kind}
use Rattle.demands.proofs.Calls.{gave, front_is, drive_is}
use Rattle.demands.specs.Reading.{is_data, is_ready, is_response, Sends}

-- what R_CTL and TYPE show a frame to be: FCP_DATA, FCP_XFER_RDY or FCP_RSP
record Shows (data_is ready-is response-is : Bool) (f : List ℕ) : Type 0 where
  is_data_lem : is_data f ≡ data_is
  is_ready_lem : is_ready f ≡ ready-is
  is_response_lem : is_response f ≡ response-is

-- nothing shows none of them
none_shown : Shows false false false []
unfolding header_of
none_shown = record { is_data_lem = refl; is_ready_lem = refl; is_response_lem = refl }

-- and so what is left of the exchange, and which way its data go
module _ (u : Unit) (p : Port) (a x i j k : ℕ) (W : List ℕ) where
  abbrev full : ℕ
  full = full_of p i

  abbrev its : Exchange
  its = exchange_of p i j

  abbrev sent : List ℕ
  sent = frame_bytes u p a x i j k W

  shows_data : has_more its ≡ true → is_write its ≡ false → Shows true false false sent
  shows_data more to =
      let t = data_kind u p a x i j k W _ (sends_reply full its more to) in
      record { is_data_lem = rw (t.0, t.1); is_ready_lem = rw t.0; is_response_lem = rw t.0 }

  shows_ready : has_more its ≡ true → is_write its ≡ true → (its.awaited ≡ 1 → ⊥) → Shows false true false sent
  shows_ready more from w =
      let t = ready_kind u p a x i j k W _ _ (asks_reply full its more from w) in
      record { is_data_lem = rw t.0; is_ready_lem = rw (t.0, t.1); is_response_lem = rw t.0 }

  shows_nothing : has_more its ≡ true → is_write its ≡ true → its.awaited ≡ 1 → Shows false false false sent
  shows_nothing more from w = subst (Shows false false false) (sym (no_bytes u p a x i j k W (awaits_reply full its more from w))) none_shown

  shows_response : has_more its ≡ false → Shows false false true sent
  shows_response more =
      let t = response_kind u p a x i j k W _ (ends_reply full its more) in
      record { is_data_lem = rw t.0; is_ready_lem = rw t.0; is_response_lem = rw (t.0, t.1) }

  pub data_shown : has_more its ≡ true → is_write its ≡ false → is_data sent ≡ true
  data_shown more to = (shows_data more to).is_data_lem

  pub ready_shown : has_more its ≡ true → is_write its ≡ true → (its.awaited ≡ 1 → ⊥) → is_ready sent ≡ true
  ready_shown more from w = (shows_ready more from w).is_ready_lem

  pub response_shown : has_more its ≡ false → is_response sent ≡ true
  response_shown more = (shows_response more).is_response_lem

  -- FCP_DATA: data were left, and go to the host
  pub data_left : is_data sent ≡ true → (has_more its ≡ true) × (is_write its ≡ false)
  data_left e = by (kind_of its)
    where
      by : Kind its → (has_more its ≡ true) × (is_write its ≡ false)
      by (sends more to) = (more, to)
      by (asks more from w) = apart e (shows_ready more from w).is_data_lem
      by (waits more from w) = apart e (shows_nothing more from w).is_data_lem
      by (ends more) = apart e (shows_response more).is_data_lem

  -- FCP_XFER_RDY: some were left to come from the host, and none awaited
  pub ready_left : is_ready sent ≡ true → (has_more its ≡ true) × (is_write its ≡ true) × (its.awaited ≡ 1 → ⊥)
  ready_left e = by (kind_of its)
    where
      by : Kind its → (has_more its ≡ true) × (is_write its ≡ true) × (its.awaited ≡ 1 → ⊥)
      by (sends more to) = apart e (shows_data more to).is_ready_lem
      by (asks more from w) = (more, from, w)
      by (waits more from w) = apart e (shows_nothing more from w).is_ready_lem
      by (ends more) = apart e (shows_response more).is_ready_lem

  -- nothing: some were awaited
  pub awaited_left : sent ≡ [] → (has_more its ≡ true) × (is_write its ≡ true) × (its.awaited ≡ 1)
  awaited_left e = by (kind_of its)
    where
      none : Shows false false false sent
      none = subst (Shows false false false) (sym e) none_shown

      by : Kind its → (has_more its ≡ true) × (is_write its ≡ true) × (its.awaited ≡ 1)
      by (sends more to) = apart (shows_data more to).is_data_lem none.is_data_lem
      by (asks more from w) = apart (shows_ready more from w).is_ready_lem none.is_ready_lem
      by (waits more from w) = (more, from, w)
      by (ends more) = apart (shows_response more).is_response_lem none.is_response_lem

  -- FCP_RSP: nothing was left
  pub nothing_left : is_response sent ≡ true → has_more its ≡ false
  nothing_left e = by (kind_of its)
    where
      by : Kind its → has_more its ≡ false
      by (sends more to) = apart e (shows_data more to).is_response_lem
      by (asks more from w) = apart e (shows_ready more from w).is_response_lem
      by (waits more from w) = apart e (shows_nothing more from w).is_response_lem
      by (ends more) = more

  -- whatever is sent is one of the three
  pub shows_one : (sent ≡ [] → ⊥) → (is_data sent || is_ready sent || is_response sent) ≡ true
  shows_one some = by (kind_of its)
    where
      one : {d r s : Bool} → Shows d r s sent → (d || r || s) ≡ true → (is_data sent || is_ready sent || is_response sent) ≡ true
      one t e = (λ n. t.is_data_lem n || t.is_ready_lem n || t.is_response_lem n) ∙ e

      by : Kind its → (is_data sent || is_ready sent || is_response sent) ≡ true
      by (sends more to) = one (shows_data more to) refl
      by (asks more from w) = one (shows_ready more from w) refl
      by (waits more from w) = absurd (some (no_bytes u p a x i j k W (awaits_reply full its more from w)))
      by (ends more) = one (shows_response more) refl

-- a frame that is given leaves our address
pub own_stays : (u : Unit) (p : Port) (a x start : ℕ) (W : List ℕ) (i j k : ℕ) → step_of p a x start (length W) ≡ Frame i j k → (next_of u p a x start W).port.address ≡ p.address
unfolding moved_on with_login
own_stays u p a x start W i j k step = ap (λ (q : Port). q.address) (port_is u p a x start W i j k step)

-- a call that was not refused is a step, and the frame in the buffer is its frame
pub record Stepped (unit : List ℕ) (a x : ℕ) (d : Drive) (f : List ℕ) (e : Drive) : Type 0 where
  pub start : ℕ
  pub len : ℕ
  pub i : ℕ
  pub j : ℕ
  pub k : ℕ
  pub formed : well_formed d.unit d.port ≡ true
  pub step : step_of d.port a x start (length (cut unit start len)) ≡ Frame i j k
  pub stands : lookup_of d.port a x ≡ Open i j
  pub frame : f ≡ frame_bytes d.unit d.port a x i j k (cut unit start len)
  pub drive : e ≡ record { unit = d.unit; port = (next_of d.unit d.port a x start (cut unit start len)).port }

pub stepped : {unit : List ℕ} {a x : ℕ} {d : Drive} {f : List ℕ} {e : Drive} → Sends unit a x d f e → Stepped unit a x d f e
stepped {unit} {a} {x} {d} {f} {e} s =
    let W = cut unit s.start s.len in
    let l = s.buffer in
    let g = gave d a x s.start W l s.n s.said in
    record {
      start = s.start;
      len = s.len;
      i = g.i;
      j = g.j;
      k = g.k;
      formed = g.formed;
      step = g.step;
      stands = (passed d.port a x s.start (length W) g.i g.j g.k g.step).stands;
      frame = s.frame ∙ ap (λ (n : ℕ). take n (next_frame_buffer d a x s.start W l)) (sym g.is) ∙ front_is d a x s.start W l g.i g.j g.k g.room g.formed g.step;
      drive = s.drive ∙ drive_is d a x s.start W l g.i g.j g.k g.room g.formed g.step;
    }

-- after a data frame the drive is well formed, and the exchange stands where it stood
pub stepped_on : {unit : List ℕ} {a x : ℕ} {d d₁ : Drive} {f : List ℕ} (i j : ℕ) → lookup_of d.port a x ≡ Open i j → Stepped unit a x d f d₁ → is_data f ≡ true
    → (well_formed d₁.unit d₁.port ≡ true) × (lookup_of d₁.port a x ≡ Open i j)
stepped_on {unit} {a} {x} {d} {d₁} i j o t shown =
    let u = d.unit in
    let p = d.port in
    let W = cut unit t.start t.len in
    let q = (next_of u p a x t.start W).port in
    let more = (data_left u p a x t.i t.j t.k W (rw t.frame at shown)).0 in
    let stands = next_open u p a x t.i t.j t.stands q more (port_is u p a x t.start W t.i t.j t.k t.step) in (
      ap (λ (s : Drive). well_formed s.unit s.port) t.drive ∙ next_kept u p a x t.start W t.formed,
      ap (λ (s : Drive). lookup_of s.port a x) t.drive ∙ stands ∙ sym t.stands ∙ o,
    )
