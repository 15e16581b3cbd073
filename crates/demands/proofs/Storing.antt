-- A data frame: what becomes of its window and of the drive. Assumes nothing.
use Rattle.std.specs.Prelude.{Some, Ok, Result, Err}
use Rattle.refusal.specs.declared.Refusal.{Refusal}
use mathlib.Core.Path.{◌≡◌, refl, sym, ap, ◌∙◌, subst}
use mathlib.Core.Bool.{true, false}
use mathlib.Core.List.{List}
use Prim.Native.Nat.{ℕ, ◌+◌, ◌≤◌}
use native.Mathlib.Omega.{arith}
use lib.Dec.{ltb}
use lib.ListN.{length, drop, length-take, length-drop}
use borrow.Author.Tests.{eq-eqb, le-ltb}
use Rattle.tables.proofs.Firsts.{FirstSays, at_first, at_none, first_says, none_then}
use Rattle.tables.proofs.Bools.{apart}
use Rattle.wire.specs.Bytes.{over}
use Rattle.frame.specs.declared.Header.{Header}
use Rattle.frame.specs.Head.{header_of, header_bytes}
use Rattle.cover.specs.Cover.{position_of, lent_place}
use Rattle.refusal.specs.Refusal.{frame_order}
use Rattle.state.specs.declared.Login.{Login}
use Rattle.state.specs.declared.Port.{Port}
use Rattle.state.specs.Standing.{Open}
use Rattle.state.specs.Changes.{login_at, exchange_at, with_login, with_exchange}
use Rattle.state.specs.Kinds.{is_write}
use Rattle.state.specs.Tables.{find_exchange, lookup_of}
use Rattle.reply.specs.Payload.{status_bytes, code_bytes}
use Rattle.reply.specs.Reply.{filled, bytes_of}
use Rattle.calls.specs.Turn.{Decided}
use Rattle.taking.specs.declared.Step.{Step}
use Rattle.taking.specs.declared.Untaken.{Untaken}
use Rattle.taking.specs.declared.Step.TheVariants.{Fault, Take}
use Rattle.taking.specs.declared.Untaken.TheVariants.{NoWrite, Uncovered}
use Rattle.taking.specs.Taking.{data_size, data_in, burst_end, fault_of, find_write, covered_step, step_of, taken_on, window_by, window_after, data_decided}
use Rattle.taking.proofs.Steps.{Takes}
use Rattle.taking.proofs.Silent.{TakeAt, data_take, data_fault}
use Rattle.arrival.specs.declared.Form.{Form}
use Rattle.arrival.specs.declared.Form.TheVariants.{Link, Done, Abort, Command, Data}
use Rattle.arrival.specs.Arrival.{form_of}
use Rattle.drive.specs.declared.Drive.{Drive}
use Rattle.drive.specs.declared.Answer.{Answer}
use Rattle.drive.specs.Drive.{refused}
use Rattle.drive.specs.Entry.{decided_in, reply_bytes, answered, data_step, applies, frame_in, window_of, frame_in_window}
use Rattle.drive.proofs.Ways.{PassesIn, passed_in, passes_in}

never : {A : Type 0} → ◌≡◌ {A = ℕ} 0 1 → A
never z = absurd (omega arith)

-- a frame carries as many bytes as are told
pub carried_long : (h : Header) (f : List ℕ) → length (data_in h f) ≡ data_size h (length f)
carried_long h f =
    let a = length-take (data_size h (length f)) (drop 24 f) in
    let b = length-drop 24 f in
    omega arith

-- the next bytes of a WRITE, within its burst and in the window, are taken
pub step_take : (l : Login) (x offset n start len j k : ℕ) → find_exchange l x ≡ Some j → is_write (exchange_at l j) ≡ true → offset ≡ (exchange_at l j).sent → offset + n ≤ burst_end (exchange_at l j)
    → lent_place (position_of (exchange_at l j).start (exchange_at l j).sent) n start len ≡ Some k → step_of l x offset n start len ≡ Ok (Take j k)
unfolding step_of find_write fault_of covered_step
step_take l x offset n start len j k found write next within place =
    let e = exchange_at l j in
    let past : ltb (burst_end e) (offset + n) ≡ false = le-ltb (burst_end e) (offset + n) within in
    rw (found, write, eq-eqb offset e.sent next, past, place)

module _ (d : Drive) (f : List ℕ) (start : ℕ) (W : List ℕ) (room : ℕ) where
  abbrev h : Header
  h = header_of f

  abbrev p : Port
  p = d.port

  abbrev size : ℕ
  size = data_size h (length f)

  abbrev Passes : Type 0
  Passes = PassesIn d f start (length W) room

  -- the window is as it was, or the bytes of a data frame stand in it
  module _ (P : List ℕ → Type 0) (same : P W) (stores : (j k : ℕ) → Passes → TakeAt p h (length f) start (length W) j k → P (over W k (data_in h f))) where
    by_step : (s : Result Step Untaken) → Passes → data_step d f start (length W) ≡ s → P (window_by s (data_in h f) W)
    by_step (Err NoWrite) n e = same
    by_step (Ok (Fault j code)) n e = same
    by_step (Err Uncovered) n e = same
    by_step (Ok (Take j k)) n e = stores j k n (data_take p h (length f) start (length W) j k e)

    by_form : (g : Form) → Passes → P (window_of d g f start W)
    unfolding window_after
    by_form Link n = same
    by_form Done n = same
    by_form Abort n = same
    by_form Command n = same
    by_form Data n = by_step (data_step d f start (length W)) n refl

    pub window_cases : P (frame_in_window d f start W room)
    unfolding frame_in_window
    window_cases = by (first_says (applies d f start (length W) room) frame_order (λ x. W) (window_of d (form_of h.r_ctl) f start W) refl)
      where
        by : {r : List ℕ} → FirstSays (applies d f start (length W) room) frame_order (λ x. W) (window_of d (form_of h.r_ctl) f start W) r → P r
        by (at_first x i e) = rw e same
        by (at_none n e) = rw e (by_form (form_of h.r_ctl) (passed_in d f start (length W) room n))

  -- a data frame of the exchange at place j of the login at place i was taken: the drive and the window after it
  pub record Stores (i j : ℕ) : Type 0 where
    pub k : ℕ
    pub takes : Takes (login_at p i) h.ox_id h.offset size start (length W) j k
    pub said : (frame_in d f start W room).said ≡ Ok 0
    pub drive : (frame_in d f start W room).drive ≡ record { unit = d.unit; port = with_login p i (with_exchange (login_at p i) j (taken_on (exchange_at (login_at p i) j) size)) }
    pub window : frame_in_window d f start W room ≡ over W k (data_in h f)

  module _ (form : h.r_ctl ≡ 0x01) (n : Passes) where
    is_data_lem : form_of h.r_ctl ≡ Data
    unfolding form_of
    is_data_lem = rw form

    answer_is : {r : Decided} → data_decided p h (length f) start (length W) ≡ r → frame_in d f start W room ≡ answered d h r
    unfolding frame_in
    answer_is e = none_then (applies d f start (length W) room) frame_order (λ x. refused x d) (answered d h (decided_in d f start (length W))) (passes_in d f start (length W) room n) ∙ rw is_data_lem (ap (answered d h) e)

    window_is : frame_in_window d f start W room ≡ window_by (data_step d f start (length W)) (data_in h f) W
    unfolding frame_in_window window_after
    window_is = none_then (applies d f start (length W) room) frame_order (λ x. W) (window_of d (form_of h.r_ctl) f start W) (passes_in d f start (length W) room n) ∙ rw is_data_lem

    module _ (i j : ℕ) (stands : lookup_of p h.s_id h.ox_id ≡ Open i j) where
      pub stores_taken : (m k : ℕ) → data_step d f start (length W) ≡ Ok (Take m k) → Stores i j
      unfolding reply_bytes bytes_of
      stores_taken m k e =
          let t = data_take p h (length f) start (length W) m k e in
          let o = t.stood in
          let is_i : t.i ≡ i = cc in
          let is_j : m ≡ j = cc in
          let a = answer_is t.is in
          subst (Stores i) is_j
          (subst (λ (s : ℕ). Stores s m) is_i
          record { k = k; takes = t.takes; said = ap (λ (r : Answer). r.said) a; drive = ap (λ (r : Answer). r.drive) a; window = window_is ∙ ap (λ (s : Result Step Untaken). window_by s (data_in h f) W) e })

      -- it is taken if nothing is sent
      by_said : (s : Result Step Untaken) → data_step d f start (length W) ≡ s → (frame_in d f start W room).said ≡ Ok 0 → Stores i j
      unfolding reply_bytes bytes_of filled header_bytes status_bytes code_bytes
      by_said (Err NoWrite) e q = apart {a = true} refl (rw (form, e) at n.open_write)
      by_said (Err Uncovered) e q = apart {a = true} refl (rw (form, e) at n.covers)
      by_said (Ok (Fault m code)) e q =
          let a = ap (λ (r : Answer). r.said) (answer_is (data_fault p h (length f) start (length W) m code e).is) in
          let b : ◌≡◌ {A = Result ℕ Refusal} (Ok 56) (Ok 0) = sym a ∙ q in
          let c : ◌≡◌ {A = ℕ} 56 0 = cc in
          absurd (omega arith)
      by_said (Ok (Take m k)) e q = stores_taken m k e

  pub stores_said : (i j : ℕ) → h.r_ctl ≡ 0x01 → lookup_of p h.s_id h.ox_id ≡ Open i j → (frame_in d f start W room).said ≡ Ok 0 → Stores i j
  unfolding frame_in
  stores_said i j form stands q = by (first_says (applies d f start (length W) room) frame_order (λ x. refused x d) (answered d h (decided_in d f start (length W))) refl) q
    where
      by : {y : Answer} → FirstSays (applies d f start (length W) room) frame_order (λ x. refused x d) (answered d h (decided_in d f start (length W))) y → y.said ≡ Ok 0 → Stores i j
      by (at_first x g e) r = never (cc)
      by (at_none n e) r = by_said form (passed_in d f start (length W) room n) i j stands (data_step d f start (length W)) refl q
