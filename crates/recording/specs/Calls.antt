-- The calls: what a record of a letter and a body is answered, and the session after it.
use Rattle.std.specs.Prelude.{ℕ, ◌+◌, Bool, true, false, cond, ◌&&◌, List, [], ◌++◌, eqb, leb, ltb, length, take, drop, get_or, replicate, Ok, Err, Result}
use Rattle.refusal.specs.declared.Refusal.{Refusal}
use Rattle.wire.specs.Bytes.{num}
use Rattle.state.specs.declared.Setup.{Setup}
use Rattle.drive.specs.declared.Drive.{Drive}
use Rattle.drive.specs.declared.Answer.{Answer}
use Rattle.drive.specs.declared.Event.{Event}
use Rattle.drive.specs.declared.Event.TheVariants.{LoopReset, TimeOver, PowerOn}
use Rattle.drive.specs.Drive.{no_drive, new_answer, event_answer}
use Rattle.drive.specs.Entry.{frame_in, frame_in_buffer, frame_in_window, next_frame, next_frame_buffer}
use Rattle.recording.specs.declared.Session.{Session}
use Rattle.recording.specs.declared.Told.{Told}
use Rattle.recording.specs.Answers.{answer, answer_of}

-- "no drive made yet"
unfoldable pub unmade : Session
unmade = record { made = false; drive = no_drive }

-- the answer's bytes, and the session after it
abbrev pub told_as : Session → List ℕ → Told
told_as s text = record { session = s; line = text }

-- "255 stands for what is no call, with length 0 and last byte 1"
unfoldable pub no_call : Session → Told
no_call s = told_as s (answer 255 [] true)

-- the drive's answer, and the drive after it; l is what it left in the lent buffer
unfoldable pub told_answer : Session → Answer → List ℕ → Told
told_answer s a l = told_as (record { made = s.made; drive = a.drive }) (answer_of a.said l)

-- "A refused S leaves the drive as it was"
abbrev pub kept_by : Result ℕ Refusal → Session → Drive → Session
kept_by (Ok n) s d = record { made = true; drive = d }
kept_by (Err x) s d = s

unfoldable pub made_by : Session → Answer → Told
made_by s a = told_as (kept_by a.said s a.drive) (answer_of a.said [])

-- "the fill 5Ah it was lent with": a buffer of this size
unfoldable pub fill : ℕ → List ℕ
fill room = replicate room 0x5a

-- a frame in, with this room for the reply and a window W from block start on
unfoldable pub handed : Session → ℕ → List ℕ → ℕ → List ℕ → Told
handed s room frame start W = told_answer s (frame_in s.drive frame start W room) (frame_in_buffer s.drive frame start W (fill room))

unfoldable pub asked : Session → ℕ → ℕ → ℕ → ℕ → List ℕ → Told
asked s address x room start window = told_answer s (next_frame s.drive address x start window room) (next_frame_buffer s.drive address x start window (fill room))

unfoldable pub happened : Session → Event → Told
happened s e = told_answer s (event_answer s.drive e) []

-- "capacity u64, own address u32, identity 28, accept words 112", and whether hosts may write u8 (02, 2)
unfoldable pub setup_in : List ℕ → Setup
setup_in b = record { capacity = num 8 b 0; address = num 4 b 8; identity = take 28 (drop 12 b); accept = take 112 (drop 40 b); writable = get_or b 152 0 }

-- S: 153 bytes; "body too short" is no call, and what follows a call's bytes is not looked at
unfoldable pub setup_call : Session → List ℕ → Told
setup_call s b = cond (ltb (length b) 153) (no_call s) (made_by s (new_answer (setup_in (take 153 b))))

-- F: "room of the reply buffer u16 (at most 4,096), frame"; it lends an empty window at block 0
unfoldable pub frame_call : Session → List ℕ → Told
frame_call s b =
    cond (ltb (length b) 2) (no_call s)
    (cond (ltb 4096 (num 2 b 0)) (no_call s)
    (cond s.made (handed s (num 2 b 0) (drop 2 b) 0 [])
    (no_call s)))

-- N: "address u32, OX_ID u16, room u16, window start u64, window bytes"
unfoldable pub next_call : Session → List ℕ → Told
next_call s b =
    cond (ltb (length b) 16) (no_call s)
    (cond (ltb 4096 (num 2 b 6)) (no_call s)
    (cond s.made (asked s (num 4 b 0) (num 2 b 4) (num 2 b 6) (num 8 b 8) (drop 16 b))
    (no_call s)))

-- E: "one byte: 1 loop reset, 2 verification time over, 3 power on"
abbrev pub event_of : ℕ → Session → Told
event_of n s =
    cond (eqb n 1) (happened s LoopReset)
    (cond (eqb n 2) (happened s TimeOver)
    (cond (eqb n 3) (happened s PowerOn)
    (no_call s)))

unfoldable pub event_call : Session → List ℕ → Told
event_call s b = cond (ltb (length b) 1) (no_call s) (cond s.made (event_of (get_or b 0 0) s) (no_call s))

-- the letters S, F, N and E, of whose bodies no byte changes
unfoldable pub read_by : Session → ℕ → List ℕ → Told
read_by s letter b =
    cond (eqb letter 0x53) (setup_call s b)
    (cond (eqb letter 0x46) (frame_call s b)
    (cond (eqb letter 0x4e) (next_call s b)
    (cond (eqb letter 0x45) (event_call s b)
    (no_call s))))

-- D: "room u16, start u64, frame length u16, frame, window" (02, 2): where the window begins
unfoldable pub window_from : List ℕ → ℕ
window_from b = 12 + num 2 b 10

-- a record is a call of D: "A frame length past the body is no call"
unfoldable pub is_data_call : Session → ℕ → List ℕ → Bool
is_data_call s letter b = eqb letter 0x44 && leb 12 (length b) && leb (num 2 b 0) 4096 && leb (window_from b) (length b) && s.made

-- its frame and its window
unfoldable pub record_frame : List ℕ → List ℕ
record_frame b = take (num 2 b 10) (drop 12 b)

unfoldable pub record_window : List ℕ → List ℕ
record_window b = drop (window_from b) b

unfoldable pub data_call : Session → List ℕ → Told
data_call s b = handed s (num 2 b 0) (record_frame b) (num 8 b 2) (record_window b)

-- what a record is answered: D where it is a call, or one of the letters that only read their body
unfoldable pub told_by : Session → ℕ → List ℕ → Told
told_by s letter b = cond (is_data_call s letter b) (data_call s b) (read_by s letter b)

-- the body of a D after the call: in place of its window the window after it
unfoldable pub data_after : Session → List ℕ → List ℕ
data_after s b = take (window_from b) b ++ frame_in_window s.drive (record_frame b) (num 8 b 2) (record_window b) (num 2 b 0)

-- the body after the call
unfoldable pub body_after : Session → ℕ → List ℕ → List ℕ
body_after s letter b = cond (is_data_call s letter b) (data_after s b) b

-- "The usual answer, then all bytes of the window after the call": from where on the body follows the answer
unfoldable pub rest_of : Session → ℕ → List ℕ → ℕ
rest_of s letter b = cond (is_data_call s letter b) (window_from b) (length b)
