-- What the next frame of an exchange is, by its direction and what is left of it: of a WRITE FCP_XFER_RDY, nothing while data are awaited, and then the response. Assumes nothing.
use Rattle.std.specs.Prelude.{Some}
use mathlib.Core.Path.{◌≡◌, refl, sym, ◌∙◌}
use mathlib.Core.Bool.{Bool, true, false, cond, and-false}
use Prim.Native.Nat.{ℕ, ◌≤◌}
use lib.Dec.{eqb}
use borrow.Author.Tests.{eqb-true, eq-eqb, ne_eqb, le-ltb}
use Rattle.tables.proofs.Bools.{apart}
use Rattle.state.specs.declared.Exchange.{Exchange}
use Rattle.state.specs.declared.Port.{Port}
use Rattle.state.specs.Standing.{Open}
use Rattle.state.specs.Changes.{empty_exchange, login_at, advanced, asked}
use Rattle.state.specs.Kinds.{kind_blocks, is_write}
use Rattle.state.specs.Tables.{lookup_of}
use Rattle.formed.specs.Formed.{next_bytes}
use Rattle.residual.specs.Residual.{residual_of}
use Rattle.reply.specs.declared.Response.TheVariants.{Status}
use Rattle.reply.specs.declared.Reply.TheVariants.{Nothing, Respond, Data, Ready}
use Rattle.reply.specs.Reply.{silent}
use Rattle.serve.specs.Next.{has_more, reads_more, place_of, window_place, frame_of, burst_of, ready_reply, next_reply, next_exchange, exchange_of, full_of, Frame, step_of}
use Rattle.serve.proofs.Steps.{given}

-- data that are awaited are asked for already
pub asked_again : (e : Exchange) → e.awaited ≡ 1 → asked e ≡ e
asked_again e a = rw (sym a)

module _ (full : ℕ) (e : Exchange) where
  -- nothing is left: FCP_RSP, which frees the place
  module _ (more : has_more e ≡ false) where
    pub ends_reply : next_reply full e ≡ Respond (Status 0x00 (residual_of e.wanted e.expected))
    unfolding next_reply
    ends_reply = rw more

    pub ends_exchange : next_exchange full e ≡ empty_exchange
    unfolding next_exchange
    ends_exchange = rw more

  -- a data frame to the host
  module _ (more : has_more e ≡ true) (to : is_write e ≡ false) where
    pub sends_reply : next_reply full e ≡ Data (frame_of full e)
    unfolding next_reply
    sends_reply = rw (more, to)

    pub sends_exchange : next_exchange full e ≡ advanced e (next_bytes full e)
    unfolding next_exchange
    sends_exchange = rw (more, to)

  -- FCP_XFER_RDY for the bytes left, after which data are awaited
  module _ (more : has_more e ≡ true) (from : is_write e ≡ true) where
    pub asks_reply : (e.awaited ≡ 1 → ⊥) → next_reply full e ≡ Ready e.sent (burst_of e)
    unfolding next_reply ready_reply
    asks_reply a = rw (more, from, ne_eqb e.awaited 1 a)

    pub asks_exchange : next_exchange full e ≡ asked e
    unfolding next_exchange
    asks_exchange = rw (more, from)

    -- "nothing while data is awaited"
    pub awaits_reply : e.awaited ≡ 1 → next_reply full e ≡ Nothing
    unfolding next_reply ready_reply
    awaits_reply a = rw (more, from, eq-eqb e.awaited 1 a)

    pub awaits_exchange : e.awaited ≡ 1 → next_exchange full e ≡ e
    awaits_exchange a = asks_exchange ∙ asked_again e a

  -- where nothing is sent, the exchange is as it was
  pub silent_stays : silent (next_reply full e) ≡ true → next_exchange full e ≡ e
  unfolding next_reply ready_reply
  silent_stays = by (has_more e) (is_write e) (eqb e.awaited 1) refl refl refl
    where
      by : (more write awaited : Bool) → has_more e ≡ more → is_write e ≡ write → eqb e.awaited 1 ≡ awaited
          → silent (cond more (cond write (cond awaited Nothing (Ready e.sent (burst_of e))) (Data (frame_of full e))) (Respond (Status 0x00 (residual_of e.wanted e.expected)))) ≡ true
          → next_exchange full e ≡ e
      by true true true m w a s = awaits_exchange m w (eqb-true e.awaited 1 a)
      by true true false m w a s = apart s refl
      by true false awaited m w a s = apart s refl
      by false write awaited m w a s = apart s refl

-- no next frame of a WRITE carries data of a window
module _ (e : Exchange) (from : is_write e ≡ true) where
  pub write_reads : reads_more e ≡ false
  unfolding reads_more
  write_reads = rw (from, and-false (eqb e.kind kind_blocks))

  pub write_place : (full start len : ℕ) → place_of full e start len ≡ Some e.sent
  unfolding place_of
  write_place full start len = rw write_reads

  pub write_window : (full start len : ℕ) → len ≤ 65536 → window_place full e start len ≡ Some e.sent
  unfolding window_place
  write_window full start len short = rw (le-ltb 65536 len short) (write_place full start len)

-- so none is refused at a proven login, whatever window of at most 65,536 bytes is lent
pub write_step : (p : Port) (a x start len i j : ℕ) → lookup_of p a x ≡ Open i j → (login_at p i).proven ≡ 1 → is_write (exchange_of p i j) ≡ true → len ≤ 65536
    → step_of p a x start len ≡ Frame i j (exchange_of p i j).sent
write_step p a x start len i j o proven from short = given record { stands = o; proven = proven; short = short; place = write_place (exchange_of p i j) from (full_of p i) start len }
