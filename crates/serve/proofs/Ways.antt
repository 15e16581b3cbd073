-- A law over plain variables for each way through a function. Assumes nothing.
use Rattle.std.specs.Prelude.{Option, Some, None, Ok}
use mathlib.Core.Path.{◌≡◌, refl, sym, ap, ◌∙◌}
use mathlib.Core.List.{List, [], ◌∷◌, append-nil}
use Prim.Native.Nat.{ℕ, ◌-◌, ◌%◌, ◌≤◌}
use native.Mathlib.Omega.{arith}
use lib.ListN.{length, get_or, replicate}
use lib.Seq.{take_all}
use borrow.Author.Tests.{eq-eqb, ne_eqb}
use Rattle.wire.specs.Bytes.{bytes, onto, over}
use Rattle.wire.proofs.Digits.{bytes_mod}
use Rattle.refusal.specs.declared.Refusal.TheVariants.{NoExchange, Unproven, BadWindow}
use Rattle.state.specs.declared.Change.TheVariants.{Keep}
use Rattle.state.specs.declared.Exchange.{Exchange}
use Rattle.state.specs.declared.Login.{Login}
use Rattle.state.specs.Changes.{exchange_at, with_exchange}
use Rattle.state.specs.Tables.{find_exchange}
use Rattle.formed.specs.Formed.{full_frame}
use Rattle.frame.specs.declared.Header.{Header}
use Rattle.reply.specs.Reply.{sent_of, written_of}
use Rattle.calls.specs.declared.View.{View}
use Rattle.calls.specs.declared.Turn.{Turn}
use Rattle.calls.specs.Turn.{refused_turn}
use Rattle.serve.specs.Made.{inquiry_first, inquiry_bytes, capacity_bytes}
use Rattle.serve.specs.Next.{window_place, next_reply, next_exchange, source_of, asked_by}
use Rattle.serve.specs.Turn.{next_turn, next_turn_buffer}

-- the first eight bytes laid over zeros, and then the identity from byte 8 on
pub inquiry_is : (identity b₁ b₂ : List ℕ) (kind first : ℕ) → length identity ≡ 28 → first ≡ inquiry_first kind
    → b₁ ≡ onto (first ∷ 0x00 ∷ 0x02 ∷ 0x02 ∷ 0x1f ∷ 0x00 ∷ 0x00 ∷ 0x02 ∷ []) (replicate 36 0) → b₂ ≡ over b₁ 8 identity → b₂ ≡ inquiry_bytes identity kind
unfolding onto over inquiry_bytes
inquiry_is identity b₁ b₂ kind first len e e₁ e₂ =
    let few : length identity ≤ 28 = omega arith in
    rw (e₂, e₁, e, take_all 28 identity few, len, append-nil identity)

-- the four bytes of the last address, and of 512
pub capacity_is : (capacity last : ℕ) (b : List ℕ) → last ≡ capacity - 1 → b ≡ bytes 4 (last % 4294967296)
    → get_or b 0 0 ∷ get_or b 1 0 ∷ get_or b 2 0 ∷ get_or b 3 0 ∷ 0x00 ∷ 0x00 ∷ 0x02 ∷ 0x00 ∷ [] ≡ capacity_bytes capacity
unfolding capacity_bytes
capacity_is capacity last b e h =
    let is : b ≡ bytes 4 (capacity - 1) = h ∙ bytes_mod 4 last ∙ ap (bytes 4) e in
    rw is

-- a next frame: what the turn t and the buffer after it are, by what its calls gave
module _ (v : View) (a x start : ℕ) (W R : List ℕ) (t : Turn) where
  abbrev Says : List ℕ → Type 0
  Says R₁ = (t ≡ next_turn v a x start W (length R)) × (R₁ ≡ next_turn_buffer v a x start W R)

  pub no_login_lem : v.seat ≡ None → t ≡ refused_turn NoExchange → Says R
  unfolding next_turn next_turn_buffer
  no_login_lem s e = rw s (e, refl)

  module _ (i : ℕ) (seat : v.seat ≡ Some i) where
    module _ (g : Option ℕ) (eg : g ≡ find_exchange v.login x) where
      pub no_exchange_lem : g ≡ None → t ≡ refused_turn NoExchange → Says R
      unfolding next_turn next_turn_buffer
      no_exchange_lem none e = rw (seat, sym eg ∙ none) (e, refl)

      module _ (j : ℕ) (place : g ≡ Some j) where
        pub not_proven : (v.login.proven ≡ 1 → ⊥) → t ≡ refused_turn Unproven → Says R
        unfolding next_turn next_turn_buffer
        not_proven h e = rw (seat, sym eg ∙ place, ne_eqb v.login.proven 1 h) (e, refl)

        module _ (proven : v.login.proven ≡ 1) (e : Exchange) (ee : e ≡ exchange_at v.login j) (w : Option ℕ) (ew : w ≡ window_place (full_frame v.login.size) e start (length W)) where
          pub no_window : w ≡ None → t ≡ refused_turn BadWindow → Says R
          unfolding next_turn next_turn_buffer
          no_window none d = rw (seat, sym eg ∙ place, eq-eqb v.login.proven 1 proven, sym ee, sym ew ∙ none) (d, refl)

          pub frame_given : (k : ℕ) (h : Header) (n : ℕ) (R₁ : List ℕ) (f : Exchange) (m : Login) → w ≡ Some k
              → h ≡ asked_by v.own.address a x
              → n ≡ sent_of v.own h (next_reply (full_frame v.login.size) e) (source_of v.unit e k W) (length R)
              → R₁ ≡ written_of v.own h (next_reply (full_frame v.login.size) e) (source_of v.unit e k W) R
              → f ≡ next_exchange (full_frame v.login.size) e → m ≡ with_exchange v.login j f
              → t ≡ record { said = Ok n; change = Keep; at = Some i; login = m } → Says R₁
          unfolding next_turn next_turn_buffer
          frame_given k h n R₁ f m some eh en er ef em et =
              rw (seat, sym eg ∙ place, eq-eqb v.login.proven 1 proven, sym ee, sym ew ∙ some) (et ∙ rw (en, em, ef, eh), er ∙ rw eh)
