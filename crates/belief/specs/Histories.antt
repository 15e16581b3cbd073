-- Demand 3 is not empty: a host that keeps its rules logs in and pairs; the verification time runs out and it is right still; after power on it is sure and wrong, until the next frame puts it right.
use Rattle.std.specs.Prelude.{◌≡◌, true, false, List, [], ◌∷◌}
use Rattle.link.specs.Record.{Kept, out, held, kept_from, record_of}
use Rattle.params.specs.Words.{params_of}
use Rattle.formed.specs.Formed.{well_formed}
use Rattle.drive.specs.declared.Drive.{Drive}
use Rattle.demands.specs.Numbers.{made}
use Rattle.demands.specs.Numbers as numbers
use Rattle.belief.specs.Host.{unsure, sure}
use Rattle.belief.specs.Demand3.{Event, send, pass, heard, reset, lapse, World, run, start, Keeps, loss, Free}
use Rattle.belief.specs.Wire.{power_on, time_over, the_drive}
use Rattle.belief.specs.Frames.{sent_kept, host_name, login_as, logs_in, pairs, asks, stranger_logs_in}

-- host and drive after a history, from a drive of 100 blocks on, as it is made
abbrev pub world : List (Event (the_drive 0x01 host_name)) → World (the_drive 0x01 host_name)
world h = run (the_drive 0x01 host_name) (start (the_drive 0x01 host_name) (made 100)) h

-- the host logs in and pairs
abbrev pub pairing : List (Event (the_drive 0x01 host_name))
pairing = send logs_in heard ∷ send pairs heard ∷ []

-- the time runs out then
abbrev pub waited : List (Event (the_drive 0x01 host_name))
waited = send logs_in heard ∷ send pairs heard ∷ lapse time_over ∷ []

-- it logs in and has yet to verify
abbrev pub unverified : List (Event (the_drive 0x01 host_name))
unverified = send logs_in heard ∷ reset ∷ []

-- the drive powers on then
abbrev pub forgotten : List (Event (the_drive 0x01 host_name))
forgotten = send logs_in heard ∷ send pairs heard ∷ lapse power_on ∷ []

-- and the host sends a command
abbrev pub corrected : List (Event (the_drive 0x01 host_name))
corrected = send logs_in heard ∷ send pairs heard ∷ lapse power_on ∷ send asks heard ∷ []

pub record NotEmpty : Type 0 where
  -- a host that keeps its rules becomes sure of a pairing, and the drive's record is that
  pub keeps : Keeps (the_drive 0x01 host_name) (start (the_drive 0x01 host_name) (made 100)) corrected
  pub sure_paired : (world pairing).belief ≡ sure (held true true sent_kept)
  pub right : record_of (world pairing).drive.port 0x01 ≡ held true true sent_kept
  -- the time runs out: a proven login stays, so no memory is lost, and the host is right still
  pub no_loss : Free (the_drive 0x01 host_name) (world pairing) (lapse time_over ∷ [])
  pub right_still : record_of (world waited).drive.port 0x01 ≡ held true true sent_kept
  -- where a loop reset came before, it is a loss
  pub a_loss : loss (the_drive 0x01 host_name) (world unverified) (lapse time_over) ≡ true
  -- after power on it is sure, and wrong
  pub still_sure : (world forgotten).belief ≡ sure (held true true sent_kept)
  pub wrong : record_of (world forgotten).drive.port 0x01 ≡ out
  -- and the LOGO that answers its next command puts it right
  pub again : (world corrected).belief ≡ sure out
  pub so : record_of (world corrected).drive.port 0x01 ≡ out

-- a drive at which another host, of the port name that 02h has now, logged in at the host's address, and one at which a host of this host's port name logged in at 02h
abbrev pub used_before : Drive
used_before = numbers.after (made 100) (login_as 0x01 0x02 ∷ [])

abbrev pub name_elsewhere : Drive
name_elsewhere = numbers.after (made 100) (login_as 0x02 0x01 ∷ [])

-- what a host of that port name sends
abbrev pub stranger_kept : Kept
stranger_kept = kept_from (params_of (numbers.plogi 0x02 2048) 28)

-- host and drive from such a drive on
abbrev pub from : Drive → List (Event (the_drive 0x01 host_name)) → World (the_drive 0x01 host_name)
from d h = run (the_drive 0x01 host_name) (start (the_drive 0x01 host_name) d) h

-- 02h logs in under its port name, and then the host
abbrev pub moved_away : List (Event (the_drive 0x01 host_name))
moved_away = pass stranger_logs_in true ∷ []

abbrev pub then_in : List (Event (the_drive 0x01 host_name))
then_in = pass stranger_logs_in true ∷ send logs_in heard ∷ []

-- the host logs in
abbrev pub moved_here : List (Event (the_drive 0x01 host_name))
moved_here = send logs_in heard ∷ []

pub record LeftBehind : Type 0 where
  -- the host keeps its rules, and the drives are well formed
  pub keeps : Keeps (the_drive 0x01 host_name) (start (the_drive 0x01 host_name) used_before) then_in
  pub formed : (well_formed used_before.unit used_before.port ≡ true) × (well_formed name_elsewhere.unit name_elsewhere.port ≡ true)
  -- another's login stands at the host's address, and ends by another port's PLOGI; the host is unsure
  pub stands : record_of used_before.port 0x01 ≡ held false true stranger_kept
  pub ends : record_of (from used_before moved_away).drive.port 0x01 ≡ out
  pub unsure_then : (from used_before moved_away).belief ≡ unsure
  -- the host logs in, is sure and right, and the other host's login at its own address stays
  pub sure_then : (from used_before then_in).belief ≡ sure (held false true sent_kept)
  pub right_then : record_of (from used_before then_in).drive.port 0x01 ≡ held false true sent_kept
  pub both_stay : record_of (from used_before then_in).drive.port 0x02 ≡ held false true stranger_kept
  -- a login of the host's port name elsewhere ends when the host logs in
  pub elsewhere : record_of name_elsewhere.port 0x02 ≡ held false true sent_kept
  pub moved_here_lem : record_of (from name_elsewhere moved_here).drive.port 0x01 ≡ held false true sent_kept
  pub gone_there : record_of (from name_elsewhere moved_here).drive.port 0x02 ≡ out
