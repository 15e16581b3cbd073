-- Making a drive, and events (document 01, "Numbers returned for refused calls", "Events").
use Rattle.std.specs.Prelude.{cond, replicate, Ok, Err}
use Rattle.refusal.specs.declared.Refusal.{Refusal}
use Rattle.refusal.specs.declared.Refusal.TheVariants.{IllFormed, BadSetup}
use Rattle.state.specs.declared.Setup.{Setup}
use Rattle.state.specs.declared.Change.{Change}
use Rattle.state.specs.declared.Change.TheVariants.{EndAll, Unprove, EndUnproven}
use Rattle.state.specs.Changes.{empty_login, changed_all}
use Rattle.formed.specs.Formed.{setup_rules, well_formed}
use Rattle.drive.specs.declared.Drive.{Drive}
use Rattle.drive.specs.declared.Answer.{Answer}
use Rattle.drive.specs.declared.Event.{Event}
use Rattle.drive.specs.declared.Event.TheVariants.{LoopReset, TimeOver, PowerOn}

-- a drive with no logins, of this setup
unfoldable pub made_from : Setup → Drive
made_from s =
    record {
      unit = record { capacity = s.capacity; identity = s.identity; writable = s.writable };
      port = record { address = s.address; accept = s.accept; logins = replicate 8 empty_login };
    }

-- the setup that is all zeros
abbrev pub no_setup : Setup
no_setup = record { capacity = 0; address = 0; identity = replicate 28 0; accept = replicate 112 0; writable = 0 }

-- what stands beside a refused setup: all zeros
unfoldable pub no_drive : Drive
no_drive = made_from no_setup

-- "returns its number and the state unchanged"
abbrev pub refused : Refusal → Drive → Answer
refused r d = record { said = Err r; drive = d }

-- nothing to send, and the next state
abbrev pub nothing_sent : Drive → Answer
nothing_sent d = record { said = Ok 0; drive = d }

-- "Making a drive: 8"
unfoldable pub new_answer : Setup → Answer
new_answer s = cond (setup_rules s) (nothing_sent (made_from s)) (refused BadSetup no_drive)

-- "Events: loop reset marks every login unproven; verification time over ends the unproven ones; power on ends all."
abbrev pub change_of : Event → Change
change_of LoopReset = Unprove
change_of TimeOver = EndUnproven
change_of PowerOn = EndAll

unfoldable pub after_event : Event → Drive → Drive
after_event e d = record { unit = d.unit; port = changed_all (change_of e) d.port }

-- "Event: 2"
unfoldable pub event_answer : Drive → Event → Answer
event_answer d e = cond (well_formed d.unit d.port) (nothing_sent (after_event e d)) (refused IllFormed d)
