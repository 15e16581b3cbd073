-- One history in which all that document 01 tells of happens, with what host and drive hold at marked moments.
use Rattle.std.specs.Prelude.{◌≡◌, true, false, List, [], ◌∷◌, ◌++◌}
use Rattle.link.specs.Record.{Record, out, held, record_of}
use Rattle.drive.specs.declared.Drive.{Drive}
use Rattle.demands.specs.Numbers.{made}
use Rattle.belief.specs.Host.{Belief, unsure, sure, dlogo}
use Rattle.belief.specs.Demand3.{Event, lost, mute, heard, send, next, pass, foreign, reset, lapse, Keeps, loss, reaches_host, start}
use Rattle.belief.specs.Wire.{time_over, the_drive}
use Rattle.belief.specs.Frames.{sent_kept, host_name, logs_in, pairs, asks, verifies, reads, its_frame, stranger_asks, stranger_logs_in, host_to_stranger}
use Rattle.belief.specs.Histories.{world, from}

-- a history of the host of address 01h
abbrev pub Day : Type 0
Day = List (Event (the_drive 0x01 host_name))

-- a request is lost, and then an answer
abbrev pub doubtful : Day
doubtful = send logs_in lost ∷ send logs_in mute ∷ []

-- the host logs in and pairs
abbrev pub pairing : Day
pairing = doubtful ++ (send logs_in heard ∷ send pairs heard ∷ [])

-- frames of the host to another port, of that port to the drive, and of it to the host
abbrev pub visited : Day
visited = pairing ++ (pass host_to_stranger true ∷ pass stranger_asks true ∷ pass stranger_logs_in true ∷ foreign dlogo ∷ [])

-- the first command gets attention 29h; the READ opens silently
abbrev pub opened : Day
opened = visited ++ (send asks heard ∷ send reads heard ∷ [])

-- data, and then the response
abbrev pub served : Day
served = opened ++ (next its_frame true ∷ [])

abbrev pub answered : Day
answered = served ++ (next its_frame true ∷ [])

-- a loop reset
abbrev pub doubted : Day
doubted = answered ++ (reset ∷ [])

-- PDISC
abbrev pub proven_again : Day
proven_again = doubted ++ (send verifies heard ∷ [])

-- the time runs out before the host verifies again
abbrev pub late : Day
late = proven_again ++ (reset ∷ [])

abbrev pub forgotten : Day
forgotten = late ++ (lapse time_over ∷ [])

-- and it verifies too late
abbrev pub corrected : Day
corrected = forgotten ++ (send verifies heard ∷ [])

-- what the host believes, and what the drive's record for it is, after a history from a drive on
pub record AtFrom (d : Drive) (h : Day) (b : Belief) (r : Record) : Type 0 where
  pub belief : (from d h).belief ≡ b
  pub record_is : record_of (from d h).drive.port 0x01 ≡ r

abbrev pub At : Day → Belief → Record → Type 0
At = AtFrom (made 100)

pub record Marked : Type 0 where
  -- the host keeps its rules throughout
  pub keeps : Keeps (the_drive 0x01 host_name) (start (the_drive 0x01 host_name) (made 100)) corrected
  -- unsure, though the drive has the login; then sure and right
  pub unsure_first : At doubtful unsure (held false true sent_kept)
  pub sure_paired : At pairing (sure (held true true sent_kept)) (held true true sent_kept)
  -- other ports change nothing
  pub others_nothing : At visited (sure (held true true sent_kept)) (held true true sent_kept)
  -- a READ: data and response reach the host, and change nothing
  pub data_comes : reaches_host (the_drive 0x01 host_name) (world opened) (next its_frame true) ≡ true
  pub response_comes : reaches_host (the_drive 0x01 host_name) (world served) (next its_frame true) ≡ true
  pub read_through : At answered (sure (held true true sent_kept)) (held true true sent_kept)
  -- to verify on both sides, and verified
  pub to_verify : At doubted (sure (held true false sent_kept)) (held true false sent_kept)
  pub by_pdisc : At proven_again (sure (held true true sent_kept)) (held true true sent_kept)
  -- the time over is a loss: sure and wrong; and right again by the LOGO that answers
  pub a_loss : loss (the_drive 0x01 host_name) (world late) (lapse time_over) ≡ true
  pub sure_and_wrong : At forgotten (sure (held true false sent_kept)) out
  pub right_again : At corrected (sure out) out
