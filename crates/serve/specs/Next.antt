-- The next frame of an open exchange (document 01, "Commands" and "Numbers returned for refused calls"; document 02, request 2).
use Rattle.std.specs.Prelude.{ℕ, ◌+◌, ◌-◌, min, Bool, cond, not, ◌&&◌, List, eqb, ltb, length, drop, Option, Some, None, Ok, Err, Result}
use Rattle.tables.specs.Lists.{on_found}
use Rattle.wire.specs.Bytes.{onto}
use Rattle.frame.specs.declared.Header.{Header}
use Rattle.cover.specs.Cover.{position_of, cover_of, too_long}
use Rattle.refusal.specs.declared.Refusal.{Refusal}
use Rattle.refusal.specs.declared.Refusal.TheVariants.{NoExchange, Unproven, BadWindow}
use Rattle.state.specs.declared.Exchange.{Exchange}
use Rattle.state.specs.declared.Login.{Login}
use Rattle.state.specs.declared.Port.{Port}
use Rattle.state.specs.declared.Unit.{Unit}
use Rattle.state.specs.Standing.{Standing}
use Rattle.state.specs.Standing as standing
use Rattle.state.specs.Changes.{empty_exchange, own_of, login_at, exchange_at, with_login, with_exchange, advanced, asked}
use Rattle.state.specs.Kinds.{kind_blocks, is_write}
use Rattle.state.specs.Tables.{lookup_of}
use Rattle.formed.specs.Formed.{full_frame, total, next_bytes}
use Rattle.residual.specs.Residual.{residual_of}
use Rattle.reply.specs.declared.DataFrame.{DataFrame}
use Rattle.reply.specs.declared.Response.TheVariants.{Status}
use Rattle.reply.specs.declared.Reply.{Reply}
use Rattle.reply.specs.declared.Reply.TheVariants as reply
use Rattle.reply.specs.Reply.{bytes_of}
use Rattle.serve.specs.Made.{made_bytes}

-- data are left to send: fewer bytes were sent than are "to send", of a WRITE by the host
unfoldable pub has_more : Exchange → Bool
has_more e = ltb e.sent (total e)

-- the next frame carries READ data; "made data and FCP_RSP need no cover"
unfoldable pub reads_more : Exchange → Bool
reads_more e = eqb e.kind kind_blocks && not (is_write e) && has_more e

-- the unit's byte at which the next READ or WRITE data begin
abbrev pub position : Exchange → ℕ
position e = position_of e.start e.sent

-- where the next frame's data begin: in the window for READ data, else among the made data
unfoldable pub place_of : ℕ → Exchange → ℕ → ℕ → Option ℕ
place_of full e start len = cond (reads_more e) (cover_of (position e) (next_bytes full e) start len) (Some e.sent)

-- "a window: .. at most 65,536 bytes": in a longer one nowhere
unfoldable pub window_place : ℕ → Exchange → ℕ → ℕ → Option ℕ
window_place full e start len = cond (too_long len) None (place_of full e start len)

-- "OFFSET is the byte offset; SEQ_CNT the frame's number"; "A frame carries the login's W18 size, 2,048 at most, or what is left"
unfoldable pub frame_of : ℕ → Exchange → DataFrame
frame_of full e = record { offset = e.sent; count = e.count; size = next_bytes full e; last = eqb (e.sent + next_bytes full e) (total e) }

-- "next frames are FCP_XFER_RDY .. for the bytes left, 65,536 at most" (02, 2)
abbrev pub burst_of : Exchange → ℕ
burst_of e = min (total e - e.sent) 65536

-- of a WRITE with bytes left: FCP_XFER_RDY, "nothing while data is awaited"
unfoldable pub ready_reply : Exchange → Reply
ready_reply e = cond (eqb e.awaited 1) reply.Nothing (reply.Ready e.sent (burst_of e))

-- while there are data, a data frame, or of a WRITE what asks for them; "FCP_RSP follows", with the residual
unfoldable pub next_reply : ℕ → Exchange → Reply
next_reply full e =
    cond (has_more e) (cond (is_write e) (ready_reply e) (reply.Data (frame_of full e))) (reply.Respond (Status 0x00 (residual_of e.wanted e.expected)))

-- the exchange after it; FCP_RSP "frees the place"
unfoldable pub next_exchange : ℕ → Exchange → Exchange
next_exchange full e = cond (has_more e) (cond (is_write e) (asked e) (advanced e (next_bytes full e))) empty_exchange

-- what a data frame's bytes are taken from, from place k on: the window's bytes W for READ, else the made data
unfoldable pub source_of : Unit → Exchange → ℕ → List ℕ → List ℕ
source_of u e k W = drop k (cond (eqb e.kind kind_blocks) W (made_bytes u e.kind))

-- "The port names address and OX_ID for each next frame": it is sent as a reply to a frame of that address and OX_ID, so D_ID is the address and S_ID ours
unfoldable pub asked_by : ℕ → ℕ → ℕ → Header
asked_by own a x =
    record {
      r_ctl = 0;
      d_id = own;
      reserved = 0;
      s_id = a;
      protocol = 0;
      f_ctl = 0;
      seq_id = 0;
      df_ctl = 0;
      seq_cnt = 0;
      ox_id = x;
      rx_id = 0;
      offset = 0;
    }

-- what a next frame comes to: refused, or the frame of the exchange at place j of the login at place i, its data from place k of their source on
pub data Step : Type 0 where
  Refused : Refusal → Step
  Frame : (i j k : ℕ) → Step

-- "7 login unproven", and then "10 window too long or not covering", for the exchange at place j of the login l, which stands at i
unfoldable pub open_step : Login → ℕ → ℕ → ℕ → ℕ → Step
open_step l i j start len =
    cond (not (eqb l.proven 1)) (Refused Unproven) (on_found (window_place (full_frame l.size) (exchange_at l j) start len) (λ k. Frame i j k) (Refused BadWindow))

-- "9 no such open exchange"
abbrev pub step_at : Standing → Port → ℕ → ℕ → Step
step_at standing.NoLogin p start len = Refused NoExchange
step_at (standing.NoExchange i) p start len = Refused NoExchange
step_at (standing.Open i j) p start len = open_step (login_at p i) i j start len

-- "Next frame out: .. 9, 7, 10"; 1 and 2 come before and are the entry's
unfoldable pub step_of : Port → ℕ → ℕ → ℕ → ℕ → Step
step_of p a x start len = step_at (lookup_of p a x) p start len

-- the exchange at place j of the login at place i, and the bytes of a full frame to that login
abbrev pub exchange_of : Port → ℕ → ℕ → Exchange
exchange_of p i j = exchange_at (login_at p i) j

abbrev pub full_of : Port → ℕ → ℕ
full_of p i = full_frame (login_at p i).size

-- every byte of its next frame
unfoldable pub frame_bytes : Unit → Port → ℕ → ℕ → ℕ → ℕ → ℕ → List ℕ → List ℕ
frame_bytes u p a x i j k W = bytes_of (own_of p) (asked_by p.address a x) (next_reply (full_of p i) (exchange_of p i j)) (source_of u (exchange_of p i j) k W)

-- the port after it
unfoldable pub moved_on : Port → ℕ → ℕ → Port
moved_on p i j = with_login p i (with_exchange (login_at p i) j (next_exchange (full_of p i) (exchange_of p i j)))

-- what is said, and the port after it
pub record Next : Type 0 where
  pub said : Result ℕ Refusal
  pub port : Port

-- a refusal leaves "the state unchanged"; otherwise the frame's "length in the answer"
abbrev pub next_at : Step → Unit → Port → ℕ → ℕ → List ℕ → Next
next_at (Refused y) u p a x W = record { said = Err y; port = p }
next_at (Frame i j k) u p a x W = record { said = Ok (length (frame_bytes u p a x i j k W)); port = moved_on p i j }

unfoldable pub next_of : Unit → Port → ℕ → ℕ → ℕ → List ℕ → Next
next_of u p a x start W = next_at (step_of p a x start (length W)) u p a x W

-- a refusal "changes no lent byte"; otherwise "the reply stands at the front of the buffer, .. later bytes unchanged"
abbrev pub buffer_at : Step → Unit → Port → ℕ → ℕ → List ℕ → List ℕ → List ℕ
buffer_at (Refused y) u p a x W buffer = buffer
buffer_at (Frame i j k) u p a x W buffer = onto (frame_bytes u p a x i j k W) buffer

unfoldable pub next_buffer : Unit → Port → ℕ → ℕ → ℕ → List ℕ → List ℕ → List ℕ
next_buffer u p a x start W buffer = buffer_at (step_of p a x start (length W)) u p a x W buffer
