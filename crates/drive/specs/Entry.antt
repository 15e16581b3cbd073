-- A frame in and a next frame out: the definitions of record (document 01, "Numbers returned for refused calls"; document 02, request 2).
use Rattle.std.specs.Prelude.{ℕ, Bool, cond, not, ◌||◌, List, [], length, Ok, Result}
use Rattle.tables.specs.Firsts.{first_of}
use Rattle.wire.specs.Bytes.{onto}
use Rattle.frame.specs.declared.Header.{Header}
use Rattle.frame.specs.Head.{header_of}
use Rattle.refusal.specs.declared.Refusal.{Refusal}
use Rattle.refusal.specs.declared.Refusal.TheVariants.{ShortBuffer, IllFormed}
use Rattle.refusal.specs.Refusal.{frame_order}
use Rattle.state.specs.declared.Port.{Port}
use Rattle.state.specs.declared.Unit.{Unit}
use Rattle.state.specs.Changes.{own_of}
use Rattle.state.specs.Tables.{login_of}
use Rattle.formed.specs.Formed.{well_formed}
use Rattle.reply.specs.declared.Reply.TheVariants as reply
use Rattle.reply.specs.Reply.{bytes_of}
use Rattle.calls.specs.Turn.{Decided, decided_as}
use Rattle.link.specs.Link.{link_of, abts_of}
use Rattle.command.specs.Command.{command_of}
use Rattle.serve.specs.Next.{Next, next_of, next_buffer}
use Rattle.taking.specs.declared.Step.{Step}
use Rattle.taking.specs.declared.Untaken.{Untaken}
use Rattle.taking.specs.Taking.{step_in, applies_data, data_decided, window_after}
use Rattle.arrival.specs.declared.Form.{Form}
use Rattle.arrival.specs.declared.Form.TheVariants.{Link, Done, Abort, Command, Data}
use Rattle.arrival.specs.Arrival.{short_buffer, form_of, applies_in}
use Rattle.drive.specs.declared.Drive.{Drive}
use Rattle.drive.specs.declared.Answer.{Answer}
use Rattle.drive.specs.Drive.{refused}

-- the reply to a frame that passed, and the port after it; "A 23h frame that passes is answered with nothing and changes nothing"
abbrev pub decided_of : Unit → Port → Header → Form → List ℕ → ℕ → ℕ → Decided
decided_of u p h Link f start len = link_of p h f
decided_of u p h Done f start len = decided_as reply.Nothing p
decided_of u p h Abort f start len = abts_of p h.s_id h.ox_id h.rx_id
decided_of u p h Command f start len = command_of u p h f
decided_of u p h Data f start len = data_decided p h (length f) start len

-- what is decided of a frame, by its R_CTL, at a window of len bytes from block start on
abbrev pub decided_in : Drive → List ℕ → ℕ → ℕ → Decided
decided_in d f start len = decided_of d.unit d.port (header_of f) (form_of (header_of f).r_ctl) f start len

-- the reply's bytes; no data frame answers a frame in, so there is nothing to take data from
unfoldable pub reply_bytes : Drive → Header → Decided → List ℕ
reply_bytes d h r = bytes_of (own_of d.port) h r.reply []

-- the reply's length in the answer, and the next state
abbrev pub answered : Drive → Header → Decided → Answer
answered d h r = record { said = Ok (length (reply_bytes d h r)); drive = record { unit = d.unit; port = r.port } }

-- what the frame comes to if it is a data frame
abbrev pub data_step : Drive → List ℕ → ℕ → ℕ → Result Step Untaken
data_step d f start len = step_in (login_of d.port (header_of f).s_id) (header_of f) (length f) start len

-- "When", of each number, for the frame f with a window of len bytes from block start on and a buffer of so many bytes: 1 to 7 by what arrived, 11 and 10 by what a data frame comes to
abbrev pub applies : Drive → List ℕ → ℕ → ℕ → ℕ → Refusal → Bool
applies d f start len room x = applies_data (header_of f) (data_step d f start len) x || applies_in d.unit d.port (header_of f) f room x

-- "Frame in: 1 to 7 in order", then 11 and 10: "returns its number and the state unchanged"; otherwise the reply's length and the next state
unfoldable pub frame_in : Drive → List ℕ → ℕ → List ℕ → ℕ → Answer
frame_in d f start W room = first_of (applies d f start (length W) room) frame_order (λ x. refused x d) (answered d (header_of f) (decided_in d f start (length W)))

-- and "changes no lent byte"; "Otherwise the reply stands at the front of the buffer, .. later bytes unchanged"
unfoldable pub frame_in_buffer : Drive → List ℕ → ℕ → List ℕ → List ℕ → List ℕ
frame_in_buffer d f start W l = first_of (applies d f start (length W) (length l)) frame_order (λ x. l) (onto (reply_bytes d (header_of f) (decided_in d f start (length W))) l)

-- the window after a frame of a form: "FCP_DATA frames go in order into a lent window", and no other frame touches it
abbrev pub window_of : Drive → Form → List ℕ → ℕ → List ℕ → List ℕ
window_of d Link f start W = W
window_of d Done f start W = W
window_of d Abort f start W = W
window_of d Command f start W = W
window_of d Data f start W = window_after (login_of d.port (header_of f).s_id) (header_of f) f start W

-- every byte of the window after the call
unfoldable pub frame_in_window : Drive → List ℕ → ℕ → List ℕ → ℕ → List ℕ
frame_in_window d f start W room = first_of (applies d f start (length W) room) frame_order (λ x. W) (window_of d (form_of (header_of f).r_ctl) f start W)

-- what became of a next frame, and the next state
abbrev pub next_answer : Drive → Next → Answer
next_answer d n = record { said = n.said; drive = record { unit = d.unit; port = n.port } }

-- "Next frame out: 1, 2, 9, 7, 10"
unfoldable pub next_frame : Drive → ℕ → ℕ → ℕ → List ℕ → ℕ → Answer
next_frame d a x start W room =
    cond (short_buffer room) (refused ShortBuffer d)
    (cond (not (well_formed d.unit d.port)) (refused IllFormed d)
    (next_answer d (next_of d.unit d.port a x start W)))

unfoldable pub next_frame_buffer : Drive → ℕ → ℕ → ℕ → List ℕ → List ℕ → List ℕ
next_frame_buffer d a x start W l = cond (short_buffer (length l)) l (cond (not (well_formed d.unit d.port)) l (next_buffer d.unit d.port a x start W l))
