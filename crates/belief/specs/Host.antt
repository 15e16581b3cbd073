-- The host of document 01, "The host's rules": what it believes, what it may send, and how an answer changes its belief.
-- Assumes nothing.
use Rattle.std.specs.Prelude.{◌≡◌, true, false}
use Rattle.link.specs.Record.{Kept, Record, out, held, proved, paired, unpaired}

-- "Belief: out, in, paired (in or paired perhaps to verify) or unsure, with names and parameters sent": unsure, or sure of one; the record is `out`, or `held` with paired, proven, names and parameters
pub data Belief : Type 0 where
  unsure : Belief
  sure : Record → Belief

-- What a host can ask. All are of right form, code and size; a LOGO has the host's own address.
-- A PLOGI carries new names and parameters, a PDISC those that it repeats.
pub data Request : Type 0 where
  plogi pdisc : Kept → Request
  logo adisc prli prlo rrq : Request
  command abts fcp_data : Request

-- What can come back. `none`: nothing comes back, since the drive refused the frame or took it in silence.
-- `dlogo`: a LOGO by the drive. `other`: BA_ACC, BA_RJT, FCP_DATA, FCP_XFER_RDY, FCP_RSP.
pub data Answer : Type 0 where
  none acc rjt dlogo other : Answer

-- RRQ's ACC names no change
abbrev pub same : Record → Record
same r = r

-- a change of what the host is sure of; an unsure host stays so
abbrev pub think : (Record → Record) → Belief → Belief
think f unsure = unsure
think f (sure r) = sure (f r)

-- "Unsure or out sends PLOGI, LOGO only"
abbrev pub MayOut : Request → Type 0
MayOut (plogi l) = Unit {0}
MayOut logo = Unit {0}
MayOut (pdisc l) = ⊥
MayOut adisc = ⊥
MayOut prli = ⊥
MayOut prlo = ⊥
MayOut rrq = ⊥
MayOut command = ⊥
MayOut abts = ⊥
MayOut fcp_data = ⊥

-- "To verify: only PLOGI, LOGO, PDISC, ADISC"; "PDISC repeats the login's parameters"
abbrev pub MayVerify : Kept → Request → Type 0
MayVerify l (plogi m) = Unit {0}
MayVerify l logo = Unit {0}
MayVerify l (pdisc m) = m ≡ l
MayVerify l adisc = Unit {0}
MayVerify l prli = ⊥
MayVerify l prlo = ⊥
MayVerify l rrq = ⊥
MayVerify l command = ⊥
MayVerify l abts = ⊥
MayVerify l fcp_data = ⊥

-- "in adds PRLI, PDISC, ADISC"
abbrev pub MayIn : Kept → Request → Type 0
MayIn l (plogi m) = Unit {0}
MayIn l logo = Unit {0}
MayIn l (pdisc m) = m ≡ l
MayIn l adisc = Unit {0}
MayIn l prli = Unit {0}
MayIn l prlo = ⊥
MayIn l rrq = ⊥
MayIn l command = ⊥
MayIn l abts = ⊥
MayIn l fcp_data = ⊥

-- "paired adds PRLO, commands, ABTS, RRQ but not PRLI"; "The host's rules let paired send data frames" (02, 2)
abbrev pub MayPaired : Kept → Request → Type 0
MayPaired l (plogi m) = Unit {0}
MayPaired l logo = Unit {0}
MayPaired l (pdisc m) = m ≡ l
MayPaired l adisc = Unit {0}
MayPaired l prli = ⊥
MayPaired l prlo = Unit {0}
MayPaired l rrq = Unit {0}
MayPaired l command = Unit {0}
MayPaired l abts = Unit {0}
MayPaired l fcp_data = Unit {0}

-- what the host may send, by its belief
abbrev pub May : Belief → Request → Type 0
May unsure q = MayOut q
May (sure out) q = MayOut q
May (sure (held p false l)) q = MayVerify l q
May (sure (held false true l)) q = MayIn l q
May (sure (held true true l)) q = MayPaired l q

-- a host that is sure of a pairing, with nothing to verify
pub data SurePaired : Belief → Type 0 where
  sure_paired : (l : Kept) → SurePaired (sure (held true true l))

-- What the host believes after an answer, by the kind of its request. `none` is also what a lost request or answer is to it.
-- "PLOGI ACC: in; LS_RJT: out"
abbrev pub after_plogi : Kept → Answer → Belief → Belief
after_plogi l none b = unsure
after_plogi l acc b = sure (held false true l)
after_plogi l rjt b = sure out
after_plogi l dlogo b = sure out
after_plogi l other b = b

-- "LOGO answered, or received: out"
abbrev pub after_logo : Answer → Belief → Belief
after_logo none b = unsure
after_logo acc b = sure out
after_logo rjt b = sure out
after_logo dlogo b = sure out
after_logo other b = b

-- "PRLI, PRLO, PDISC, ADISC ACC as named; other frames .. change nothing"; "a lost request or answer means unsure"
abbrev pub after_link : (Record → Record) → Answer → Belief → Belief
after_link f none b = unsure
after_link f acc b = think f b
after_link f rjt b = b
after_link f dlogo b = sure out
after_link f other b = b

-- A frame that answers no link request: "LOGO .. received: out"; "other frames .. change nothing". After a command, ABTS or a data frame silence says nothing.
-- (That a host may also grow unsure at any time is the event `forget`.)
abbrev pub received : Answer → Belief → Belief
received none b = b
received acc b = b
received rjt b = b
received dlogo b = sure out
received other b = b

-- by the kind of the request
abbrev pub hears : Request → Answer → Belief → Belief
hears (plogi l) a b = after_plogi l a b
hears logo a b = after_logo a b
hears (pdisc l) a b = after_link proved a b
hears adisc a b = after_link proved a b
hears prli a b = after_link paired a b
hears prlo a b = after_link unpaired a b
hears rrq a b = after_link same a b
hears command a b = received a b
hears abts a b = received a b
hears fcp_data a b = received a b
