-- What each way through a function of the crate answers, from what its calls gave. Assumes nothing.
use Rattle.std.specs.Prelude.{Some, None, Ok, Err, Result}
use Prim.Native.Nat.{ℕ, ◌+◌, ◌-◌, ◌*◌, ◌/◌, ◌%◌, ◌≤◌, ◌<◌, min}
use mathlib.Core.Path.{◌≡◌, refl, sym, ◌∙◌}
use mathlib.Core.Bool.{Bool, true, false, cond}
use mathlib.Core.List.{List, []}
use native.Mathlib.Decide.{dec_le}
use native.Mathlib.Omega.{arith}
use lib.Dec.{eqb, ltb}
use lib.ListN.{length, take, drop}
use borrow.Author.Tests.{eq-eqb, ne_eqb, lt-ltb, le-ltb}
use Rattle.wire.specs.Bytes.{onto, over}
use Rattle.wire.proofs.Fronts.{onto_nil}
use Rattle.frame.specs.declared.Header.{Header}
use Rattle.state.specs.declared.Exchange.{Exchange}
use Rattle.state.specs.declared.Login.{Login}
use Rattle.state.specs.declared.Own.{Own}
use Rattle.state.specs.Changes.{exchange_at, with_exchange, ended_at, taken}
use Rattle.formed.specs.Formed.{total}
use Rattle.reply.specs.declared.Reply.TheVariants as reply
use Rattle.reply.specs.declared.Response.TheVariants as response
use Rattle.reply.specs.Reply.{bytes_of, sent_of, written_of}
use Rattle.refusal.specs.declared.Refusal.TheVariants as refusal
use Rattle.calls.specs.declared.View.{View}
use Rattle.calls.specs.declared.Turn.{Turn}
use Rattle.calls.specs.Turn.{stores, refused_turn, sent_turn}
use Rattle.taking.specs.declared.Step.{Step}
use Rattle.taking.specs.declared.Untaken.{Untaken}
use Rattle.taking.specs.declared.Step.TheVariants.{Fault, Take}
use Rattle.taking.specs.declared.Untaken.TheVariants.{NoWrite, Uncovered}
use Rattle.taking.specs.Taking.{data_size, data_in, burst_end, step_in, taken_on, served_data, window_after, taking_turn, taking_buffer, taking_window}

-- `burst_end`: the total before the burst's end, the burst's end, or what was sent
module _ (e : Exchange) where
  pub burst_total : {all : ℕ} → e.awaited ≡ 1 → all ≡ total e → all < (e.sent / 65536 + 1) * 65536 → all ≡ burst_end e
  unfolding burst_end
  burst_total {all} a t h = let m : min all ((e.sent / 65536 + 1) * 65536) ≡ all = omega arith in rw (a, sym t, m)

  pub burst_full : {all : ℕ} → e.awaited ≡ 1 → all ≡ total e → (e.sent / 65536 + 1) * 65536 ≤ all → (e.sent / 65536 + 1) * 65536 ≡ burst_end e
  unfolding burst_end
  burst_full {all} a t h = let m : min all ((e.sent / 65536 + 1) * 65536) ≡ (e.sent / 65536 + 1) * 65536 = omega arith in rw (a, sym t, m)

  pub burst_none : (e.awaited ≡ 1 → ⊥) → e.sent ≡ burst_end e
  unfolding burst_end
  burst_none a = rw (ne_eqb _ _ a)

-- `is_past`: by subtraction
pub past_less : (end offset n : ℕ) → offset ≤ end → ltb (end - offset) n ≡ ltb end (offset + n)
past_less end offset n h =
    elim (dec_le n (end - offset)) [
      | yes l ↦ rw (le-ltb (end - offset) n l, le-ltb end (offset + n) (omega arith))
      | no l ↦ rw (lt-ltb (end - offset) n (omega arith), lt-ltb end (offset + n) (omega arith))
    ]

-- `taken_on` and `awaited_after`: past the burst's end, at it, short of it
module _ (e : Exchange) (n : ℕ) where
  module _ {end : ℕ} (b : end ≡ burst_end e) where
    pub awaited_past : end < e.sent → ◌≡◌ {A = ℕ} 1 (cond (eqb (e.sent + n) (burst_end e)) 0 1)
    awaited_past h = rw (sym b, ne_eqb (e.sent + n) end (λ q. omega arith))

    pub awaited_end : e.sent ≤ end → end - e.sent ≡ n → ◌≡◌ {A = ℕ} 0 (cond (eqb (e.sent + n) (burst_end e)) 0 1)
    awaited_end h q = rw (sym b, eq-eqb (e.sent + n) end (omega arith))

    pub awaited_short : e.sent ≤ end → (end - e.sent ≡ n → ⊥) → ◌≡◌ {A = ℕ} 1 (cond (eqb (e.sent + n) (burst_end e)) 0 1)
    awaited_short h q = rw (sym b, ne_eqb (e.sent + n) end (λ z. q (omega arith)))

  pub taken_is : {a : ℕ} {r : Exchange} → a ≡ cond (eqb (e.sent + n) (burst_end e)) 0 1 → r ≡ taken e (n % 4294967296) a → r ≡ taken_on e n
  taken_is ea er = let w : (e.sent + n % 4294967296) % 4294967296 ≡ (e.sent + n) % 4294967296 = omega arith in er ∙ rw (ea, w)

-- the bytes of a data frame, cut from where they begin in it
pub data_part : (h : Header) (f : List ℕ) {m n : ℕ} → m ≡ min 24 (length f) → n ≡ data_size h (length f) → take (m + n - m) (drop m f) ≡ data_in h f
data_part h f {m} {n} em en =
    let d : m + n - m ≡ n = omega arith in
    rw (sym en, d) (elim (dec_le 24 (length f)) [
      | yes l ↦ (let e : m ≡ 24 = omega arith in rw e)
      | no l ↦ (let z : n ≡ 0 = omega arith in rw z)
    ])

-- of no reply nothing is sent, and no byte is written
nothing_sent_lem : (o : Own) (h : Header) (room : ℕ) → sent_of o h reply.Nothing [] room ≡ 0
unfolding sent_of bytes_of
nothing_sent_lem o h room = by (ltb room 2136)
  where
    by : (b : Bool) → cond b 0 (length (bytes_of o h reply.Nothing [])) ≡ 0
    by true = refl
    by false = refl

nothing_written : (o : Own) (h : Header) (l : List ℕ) → written_of o h reply.Nothing [] l ≡ l
unfolding written_of bytes_of
nothing_written o h l = by (ltb (length l) 2136)
  where
    by : (b : Bool) → cond b l (onto (bytes_of o h reply.Nothing []) l) ≡ l
    by true = refl
    by false = onto_nil l

-- `data_turn`: a port that is not logged in
module _ (v : View) (h : Header) (f : List ℕ) (start : ℕ) (W l : List ℕ) where
  abbrev Says : Turn → List ℕ → List ℕ → Type 0
  Says t l₁ W₁ = (t ≡ taking_turn v h (length f) start (length W) (length l)) × ((l₁ ≡ taking_buffer v h (length f) start (length W) l) × (W₁ ≡ taking_window v h f start W))

  pub says_none : {t : Turn} → v.seat ≡ None → t ≡ refused_turn refusal.NoWrite → Says t l W
  unfolding taking_turn taking_buffer taking_window
  says_none e et = rw e (et, (refl, refl))

  -- a login at place i, by what the frame comes to
  module _ {i : ℕ} {s : Result Step Untaken} {t : Turn} (at : v.seat ≡ Some i) (es : s ≡ step_in v.login h (length f) start (length W)) where
    pub says_no_write : s ≡ (Err NoWrite) → t ≡ refused_turn refusal.NoWrite → Says t l W
    unfolding taking_turn taking_buffer taking_window window_after
    says_no_write e et = rw (at, sym es ∙ e) (et, (refl, refl))

    pub says_uncovered : s ≡ (Err Uncovered) → t ≡ refused_turn refusal.BadWindow → Says t l W
    unfolding taking_turn taking_buffer taking_window window_after
    says_uncovered e et = rw (at, sym es ∙ e) (et, (refl, refl))

    pub says_fault : {j code : ℕ} {m : Login} {l₁ : List ℕ} → s ≡ Ok (Fault j code) → m ≡ ended_at v.login j
        → t ≡ sent_turn (sent_of v.own h (reply.Respond (response.Code code)) [] (length l)) (stores (reply.Respond (response.Code code)) i m) → l₁ ≡ written_of v.own h (reply.Respond (response.Code code)) [] l → Says t l₁ W
    unfolding taking_turn taking_buffer taking_window window_after served_data
    says_fault e em et el = rw (at, sym es ∙ e) (et ∙ rw em, (el, refl))

    pub says_taken : {j k n : ℕ} {W₁ : List ℕ} → s ≡ Ok (Take j k) → n ≡ data_size h (length f) → W₁ ≡ over W k (data_in h f)
        → t ≡ sent_turn 0 (stores reply.Nothing i (with_exchange v.login j (taken_on (exchange_at v.login j) n))) → Says t l W₁
    unfolding taking_turn taking_buffer taking_window window_after served_data
    says_taken e en ew et = rw (at, sym es ∙ e) (et ∙ rw (en, nothing_sent_lem v.own h (length l)), (sym (nothing_written v.own h l), ew))
