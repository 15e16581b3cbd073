-- Histories of a WRITE (document 02, request 2), with what the host hears of it, and what host and drive hold then.
use Rattle.std.specs.Prelude.{◌≡◌, true, [], ◌∷◌, ◌++◌, replicate}
use Rattle.link.specs.Record.{held}
use Rattle.drive.specs.declared.Drive.{Drive}
use Rattle.drive.specs.Drive.{made_from}
use Rattle.demands.specs.Numbers.{words}
use Rattle.belief.specs.Host.{Belief, fcp_data, Answer, none, other, sure, May, SurePaired}
use Rattle.belief.specs.Demand3.{Event, lost, heard, send, next, Keeps, gets, start}
use Rattle.belief.specs.Wire.{the_drive}
use Rattle.belief.specs.Frames.{sent_kept, host_name, logs_in, pairs, asks, writes, gives, its_word}
use Rattle.belief.specs.Histories.{from}
use Rattle.belief.specs.Marked.{Day, AtFrom}

-- a drive of 100 blocks that may be written, as it is made
abbrev pub writable : Drive
writable = made_from record { capacity = 100; address = 0xef; identity = replicate 28 0x20; accept = words 0xef 2048; writable = 1 }

-- the host logs in and pairs, and a command takes the attention
abbrev pub pairing : Day
pairing = send logs_in heard ∷ send pairs heard ∷ send asks heard ∷ []

-- the WRITE
abbrev pub opened : Day
opened = pairing ++ (send writes heard ∷ [])

-- what asks for its data
abbrev pub asked : Day
asked = opened ++ (next its_word true ∷ [])

-- nothing comes while they are awaited, and the loop loses them
abbrev pub waited : Day
waited = asked ++ (next its_word true ∷ send gives lost ∷ [])

-- they come
abbrev pub given : Day
given = waited ++ (send gives heard ∷ [])

-- and the response
abbrev pub answered : Day
answered = given ++ (next its_word true ∷ [])

-- or they are sent again: "at another offset than the next"
abbrev pub faulted : Day
faulted = given ++ (send gives heard ∷ [])

-- what the host gets by an event after a history
abbrev pub hears_at : Day → Event (the_drive 0x01 host_name) → Answer
hears_at h e = gets (the_drive 0x01 host_name) (from writable h) e

-- the host believes that it is paired, and the drive's record for it is that
abbrev pub Right : Day → Type 0
Right h = AtFrom writable h (sure (held true true sent_kept)) (held true true sent_kept)

pub record Written : Type 0 where
  -- "The host's rules let paired send data frames", and no other host
  pub paired_gives : (b : Belief) → May b fcp_data → SurePaired b
  -- the host keeps its rules in both
  pub keeps : Keeps (the_drive 0x01 host_name) (start (the_drive 0x01 host_name) writable) answered
  pub keeps_too : Keeps (the_drive 0x01 host_name) (start (the_drive 0x01 host_name) writable) faulted
  -- the WRITE opens in silence
  pub write_silent : hears_at pairing (send writes heard) ≡ none
  pub at_opened : Right opened
  -- FCP_XFER_RDY, and "nothing while data is awaited"
  pub ready_comes : hears_at opened (next its_word true) ≡ other
  pub at_asked : Right asked
  pub none_awaited : hears_at asked (next its_word true) ≡ none
  pub at_waited : Right waited
  -- data are taken in silence, and FCP_RSP follows
  pub data_silent : hears_at waited (send gives heard) ≡ none
  pub at_given : Right given
  pub response_comes : hears_at given (next its_word true) ≡ other
  pub at_answered : Right answered
  -- a fault "is answered at once"
  pub fault_comes : hears_at given (send gives heard) ≡ other
  pub at_faulted : Right faulted
