-- What a data frame comes to, for an open WRITE of its sender (document 02, request 2).
use Rattle.std.specs.Prelude.{ℕ, ◌+◌, ◌-◌, ◌*◌, ◌/◌, ◌%◌, min, Bool, true, false, cond, not, ◌&&◌, List, [], eqb, ltb, length, take, drop, Option, Some, None, Ok, Err, Result}
use Rattle.tables.specs.Lists.{on_found}
use Rattle.wire.specs.Bytes.{over}
use Rattle.frame.specs.declared.Header.{Header}
use Rattle.cover.specs.Cover.{position_of, lent_place}
use Rattle.refusal.specs.declared.Refusal.{Refusal}
use Rattle.refusal.specs.declared.Refusal.TheVariants as refusal
use Rattle.state.specs.declared.Exchange.{Exchange}
use Rattle.state.specs.declared.Login.{Login}
use Rattle.state.specs.declared.Port.{Port}
use Rattle.state.specs.Changes.{login_at, exchange_at, with_exchange, ended_at, taken}
use Rattle.state.specs.Kinds.{is_write}
use Rattle.state.specs.Tables.{find_login, find_exchange}
use Rattle.formed.specs.Formed.{total}
use Rattle.reply.specs.declared.Reply.TheVariants as reply
use Rattle.reply.specs.declared.Response.TheVariants as response
use Rattle.reply.specs.Reply.{sent_of, written_of}
use Rattle.calls.specs.declared.View.{View}
use Rattle.calls.specs.declared.Served.{Served}
use Rattle.calls.specs.declared.Turn.{Turn}
use Rattle.calls.specs.Turn.{Decided, decided_as, served_as, served_at, served_in, refused_turn, sent_turn}
use Rattle.taking.specs.declared.Step.{Step}
use Rattle.taking.specs.declared.Untaken.{Untaken}
use Rattle.taking.specs.declared.Step.TheVariants.{Fault, Take}
use Rattle.taking.specs.declared.Untaken.TheVariants.{NoWrite, Uncovered}

-- "(01h, 08h)": the form rule leaves no other frame with this R_CTL
abbrev pub is_data : Header → Bool
is_data h = eqb h.r_ctl 0x01

-- the bytes that a data frame of this size carries: its payload without the fill, whose count is in the low two bits of F_CTL
abbrev pub data_size : Header → ℕ → ℕ
data_size h size = size - 24 - h.f_ctl % 4

abbrev pub data_in : Header → List ℕ → List ℕ
data_in h f = take (data_size h (length f)) (drop 24 f)

-- the end of the burst that was last asked for, 65,536 bytes at most; where no data are awaited that of what was sent
unfoldable pub burst_end : Exchange → ℕ
burst_end e = cond (eqb e.awaited 1) (min (total e) ((e.sent / 65536 + 1) * 65536)) e.sent

-- RSP_CODE for a data frame of n bytes at an offset: "at another offset than the next is answered at once with RSP_CODE 03, else past the burst with 01"; else it is no fault
unfoldable pub fault_of : Exchange → ℕ → ℕ → Option ℕ
fault_of e offset n = cond (not (eqb offset e.sent)) (Some 0x03) (cond (ltb (burst_end e) (offset + n)) (Some 0x01) None)

-- the place of a login's open WRITE of this OX_ID
unfoldable pub find_write : Login → ℕ → Option ℕ
find_write l x = on_found (find_exchange l x) (λ j. cond (is_write (exchange_at l j)) (Some j) None) None

-- the window holds the n bytes from where the next data go on: the exchange stands at place j
unfoldable pub covered_step : Exchange → ℕ → ℕ → ℕ → ℕ → Result Step Untaken
covered_step e j n start len = on_found (lent_place (position_of e.start e.sent) n start len) (λ k. Ok (Take j k)) (Err Uncovered)

-- "11, data frame for no open write, ..; then 10 for its window, unless a fault ends the exchange": 11, 03, 01, 10, in this order
unfoldable pub step_of : Login → ℕ → ℕ → ℕ → ℕ → ℕ → Result Step Untaken
step_of l x offset n start len =
    on_found (find_write l x) (λ j. on_found (fault_of (exchange_at l j) offset n) (λ code. Ok (Fault j code)) (covered_step (exchange_at l j) j n start len)) (Err NoWrite)

-- the same of a frame of this size with header h, at a window of len bytes from block start on
abbrev pub step_in : Login → Header → ℕ → ℕ → ℕ → Result Step Untaken
step_in l h size start len = step_of l h.ox_id h.offset (data_size h size) start len

abbrev pub no_write : Result Step Untaken → Bool
no_write (Err NoWrite) = true
no_write (Ok (Fault j code)) = false
no_write (Err Uncovered) = false
no_write (Ok (Take j k)) = false

abbrev pub uncovered : Result Step Untaken → Bool
uncovered (Err NoWrite) = false
uncovered (Ok (Fault j code)) = false
uncovered (Err Uncovered) = true
uncovered (Ok (Take j k)) = false

-- "When", of 11 and 10, for a frame with header h that comes to this as a data frame; the others are told before (`arrival/specs/Arrival.antt`)
abbrev pub applies_data : Header → Result Step Untaken → Refusal → Bool
applies_data h s refusal.ShortBuffer = false
applies_data h s refusal.IllFormed = false
applies_data h s refusal.BadSize = false
applies_data h s refusal.NotOurs = false
applies_data h s refusal.BadSource = false
applies_data h s refusal.UnknownForm = false
applies_data h s refusal.Unproven = false
applies_data h s refusal.BadSetup = false
applies_data h s refusal.NoExchange = false
applies_data h s refusal.BadWindow = is_data h && uncovered s
applies_data h s refusal.NoWrite = is_data h && no_write s

-- the exchange after n bytes more: data are awaited until the burst's end
abbrev pub taken_on : Exchange → ℕ → Exchange
taken_on e n = taken e n (cond (eqb (e.sent + n) (burst_end e)) 0 1)

-- the answer to a data frame of n bytes, and the sender's login after it: a fault "is answered at once .. and ends the exchange"; else nothing is sent; a frame that is refused changes nothing
abbrev pub served_by : Result Step Untaken → Login → ℕ → Served
served_by (Err NoWrite) l n = served_as reply.Nothing l
served_by (Ok (Fault j code)) l n = served_as (reply.Respond (response.Code code)) (ended_at l j)
served_by (Err Uncovered) l n = served_as reply.Nothing l
served_by (Ok (Take j k)) l n = served_as reply.Nothing (with_exchange l j (taken_on (exchange_at l j) n))

unfoldable pub served_data : Login → Header → ℕ → ℕ → ℕ → Served
served_data l h size start len = served_by (step_in l h size start len) l (data_size h size)

-- "FCP_DATA frames go in order into a lent window": the window W after these data
abbrev pub window_by : Result Step Untaken → List ℕ → List ℕ → List ℕ
window_by (Err NoWrite) carried W = W
window_by (Ok (Fault j code)) carried W = W
window_by (Err Uncovered) carried W = W
window_by (Ok (Take j k)) carried W = over W k carried

unfoldable pub window_after : Login → Header → List ℕ → ℕ → List ℕ → List ℕ
window_after l h f start W = window_by (step_in l h (length f) start (length W)) (data_in h f) W

-- what is decided of a data frame, and the port after it
unfoldable pub data_decided : Port → Header → ℕ → ℕ → ℕ → Decided
data_decided p h size start len = on_found (find_login p h.s_id) (λ i. served_at p i (served_data (login_at p i) h size start len)) (decided_as reply.Nothing p)

-- 11, 10, or neither refuses it
abbrev pub on_step : {A : Type 0} → Result Step Untaken → (Refusal → A) → A → A
on_step (Err NoWrite) g a = g refusal.NoWrite
on_step (Ok (Fault j code)) g a = a
on_step (Err Uncovered) g a = g refusal.BadWindow
on_step (Ok (Take j k)) g a = a

-- what a data frame that arrived well comes to, seen by its sender: refused, or the length of its answer and the login after it; "no open write" of a port that is not logged in
unfoldable pub taking_turn : View → Header → ℕ → ℕ → ℕ → ℕ → Turn
taking_turn v h size start len room =
    on_found v.seat (λ i. on_step (step_in v.login h size start len) refused_turn (sent_turn (sent_of v.own h (served_data v.login h size start len).reply [] room) (served_in i (served_data v.login h size start len))))
    (refused_turn refusal.NoWrite)

unfoldable pub taking_buffer : View → Header → ℕ → ℕ → ℕ → List ℕ → List ℕ
taking_buffer v h size start len l = on_found v.seat (λ i. on_step (step_in v.login h size start len) (λ x. l) (written_of v.own h (served_data v.login h size start len).reply [] l)) l

unfoldable pub taking_window : View → Header → List ℕ → ℕ → List ℕ → List ℕ
taking_window v h f start W = on_found v.seat (λ i. window_after v.login h f start W) W
