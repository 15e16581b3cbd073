-- Calls that come between the frames of an open exchange: those that leave it open, and those that end it (document 01, "Link services", "Commands", "Events"; document 02, requests 1 and 2).
use Rattle.std.specs.Prelude.{◌≡◌, true, false, ◌⊎◌, List, ℕ, ◌+◌, length, get_or, Ok, Err, Result}
use Rattle.wire.specs.Bytes.{num, part}
use Rattle.wire.specs.Layout.{AllBytes}
use Rattle.frame.specs.Head.{header_of}
use Rattle.params.specs.Words.{params_of}
use Rattle.refusal.specs.declared.Refusal.{Refusal}
use Rattle.state.specs.declared.Login.{Login}
use Rattle.state.specs.declared.Port.{Port}
use Rattle.state.specs.declared.Change.TheVariants.{EndExchangesOf, Reset, Clear}
use Rattle.state.specs.Tables.{login_of}
use Rattle.link.specs.Link.{size_of, names_differ, page_fine}
use Rattle.link.specs.Login.{Moves}
use Rattle.command.specs.declared.Task.{Task}
use Rattle.command.specs.declared.Task.TheVariants as task
use Rattle.command.specs.declared.CmndFault.{CmndFault}
use Rattle.command.specs.Cmnd.{cmnd_of, task_of}
use Rattle.formed.specs.Formed.{well_formed}
use Rattle.serve.specs.Whole.{StaysOpen}
use Rattle.drive.specs.declared.Drive.{Drive}
use Rattle.drive.specs.declared.Answer.{Answer}
use Rattle.drive.specs.declared.Event.{Event}
use Rattle.drive.specs.declared.Event.TheVariants.{LoopReset, TimeOver, PowerOn}
use Rattle.drive.specs.Drive.{event_answer}
use Rattle.drive.specs.Entry.{frame_in, next_frame}

-- a call of an entry: a frame of bytes, a next frame, an event, each with any buffer and window
pub data Call : Type 0 where
  frame : (f : List ℕ) (start : ℕ) (W : List ℕ) (room : ℕ) → AllBytes f → Call
  next : (a x start : ℕ) (W : List ℕ) (room : ℕ) → Call
  event : Event → Call

-- what the entry answers, and the drive after it
abbrev pub answer_of : Drive → Call → Answer
answer_of d (frame f start W room known) = frame_in d f start W room
answer_of d (next a x start W room) = next_frame d a x start W room
answer_of d (event e) = event_answer d e

abbrev pub after : Drive → Call → Drive
after d c = (answer_of d c).drive

-- what an FCP_CMND's task flags ask for: the answer alone, a change of the logins, or the command
abbrev pub asked : List ℕ → Result Task CmndFault
asked f = task_of (cmnd_of f) (length f) (header_of f).s_id

-- "20h target reset ends all exchanges", "04h clear task set ends all": an FCP_CMND (R_CTL 06h) of a paired login that asks for one of these;
-- of any other sender it ends no login but its own ("No paired login: drive LOGO, login ended")
pub record EndsAll (p : Port) (f : List ℕ) : Type 0 where
  pub command : (header_of f).r_ctl ≡ 0x06
  pub paired : (login_of p (header_of f).s_id).paired ≡ 1
  pub flags : (asked f ≡ Ok (task.Apply Reset)) ⊎ (asked f ≡ Ok (task.Apply (Clear (header_of f).s_id)))

-- a frame of address a with this R_CTL
pub record Own (a rctl : ℕ) (f : List ℕ) : Type 0 where
  pub from : (header_of f).s_id ≡ a
  pub form : (header_of f).r_ctl ≡ rctl

-- a link request (R_CTL 22h) of address a with this code and the code's "payload size"
pub record Service (a code : ℕ) (f : List ℕ) : Type 0 where
  pub own : Own a 0x22 f
  pub code_is : get_or f 24 0 ≡ code
  pub sized : length f ≡ 24 + size_of code

-- "Names differ from the login's", of a PDISC, which has a PLOGI's words, and of an ADISC, whose names are W2-3 and W4-5, "or ADISC W6/B1-3 from S_ID"
abbrev pub pdisc_names : Login → List ℕ → Type 0
pdisc_names l f = names_differ l (params_of f 28).port_name (params_of f 28).node_name ≡ false

abbrev pub adisc_names : Login → List ℕ → Type 0
adisc_names l f = names_differ l (part 8 f 32) (part 8 f 40) ≡ false

-- the calls that leave the exchange of a and x open, as it was, at the drive d
pub data LeavesOpen (d : Drive) (a x : ℕ) : Call → Type 0 where
  -- "returns its number and the state unchanged": any call that is refused
  refused : {c : Call} (r : Refusal) → (answer_of d c).said ≡ Err r → LeavesOpen d a x c
  -- a next frame of another exchange, of this login or of another
  next_other : (b y start : ℕ) (W : List ℕ) (room : ℕ) → ((b ≡ a) × (y ≡ x) → ⊥) → LeavesOpen d a x (next b y start W room)
  -- "loop reset marks every login unproven"
  loop_reset : LeavesOpen d a x (event LoopReset)
  -- "verification time over ends the unproven ones", and this one is proven
  time_over : (login_of d.port a).proven ≡ 1 → LeavesOpen d a x (event TimeOver)
  -- any frame of another sender but one that ends all exchanges, and a PLOGI with the port name of this login
  other : (f : List ℕ) (start : ℕ) (W : List ℕ) (room : ℕ) (known : AllBytes f) → ((header_of f).s_id ≡ a → ⊥) → (EndsAll d.port f → ⊥) → (Moves d.port a (header_of f) f → ⊥) → LeavesOpen d a x (frame f start W room known)
  -- "A 23h frame that passes .. changes nothing"
  done : (f : List ℕ) (start : ℕ) (W : List ℕ) (room : ℕ) (known : AllBytes f) → Own a 0x23 f → LeavesOpen d a x (frame f start W room known)
  -- ABTS of another OX_ID; "RX_ID not FFFFh, BA_RJT"
  abts_other : (f : List ℕ) (start : ℕ) (W : List ℕ) (room : ℕ) (known : AllBytes f) → Own a 0x81 f → ((header_of f).ox_id ≡ x → ⊥) → LeavesOpen d a x (frame f start W room known)
  abts_rejected : (f : List ℕ) (start : ℕ) (W : List ℕ) (room : ℕ) (known : AllBytes f) → Own a 0x81 f → ((header_of f).rx_id ≡ 0xffff → ⊥) → LeavesOpen d a x (frame f start W room known)
  -- a data frame of another OX_ID (02, 2), whatever becomes of it
  data_other : (f : List ℕ) (start : ℕ) (W : List ℕ) (room : ℕ) (known : AllBytes f) → Own a 0x01 f → ((header_of f).ox_id ≡ x → ⊥) → LeavesOpen d a x (frame f start W room known)
  -- an FCP_CMND that is answered with RSP_CODE alone, and a command of another OX_ID, whatever becomes of it
  coded : (f : List ℕ) (start : ℕ) (W : List ℕ) (room : ℕ) (known : AllBytes f) (t : CmndFault) → Own a 0x06 f → asked f ≡ Err t → LeavesOpen d a x (frame f start W room known)
  command_other : (f : List ℕ) (start : ℕ) (W : List ℕ) (room : ℕ) (known : AllBytes f) → Own a 0x06 f → asked f ≡ Ok task.Execute → ((header_of f).ox_id ≡ x → ⊥) → LeavesOpen d a x (frame f start W room known)
  -- "other code 0B,00; wrong size 03,00"
  unsized : (f : List ℕ) (start : ℕ) (W : List ℕ) (room : ℕ) (known : AllBytes f) → Own a 0x22 f → (length f ≡ 24 + size_of (get_or f 24 0) → ⊥) → LeavesOpen d a x (frame f start W room known)
  -- PRLI "ends nothing"; RRQ
  prli : (f : List ℕ) (start : ℕ) (W : List ℕ) (room : ℕ) (known : AllBytes f) → Service a 0x20 f → LeavesOpen d a x (frame f start W room known)
  rrq : (f : List ℕ) (start : ℕ) (W : List ℕ) (room : ℕ) (known : AllBytes f) → Service a 0x12 f → LeavesOpen d a x (frame f start W room known)
  -- LOGO: "W1/B1-3 must equal S_ID, else 03,1F"; PRLO: "B1-3 = 10 00 14 and W1/B0 = 08h, else 09,00"
  logo_rejected : (f : List ℕ) (start : ℕ) (W : List ℕ) (room : ℕ) (known : AllBytes f) → Service a 0x05 f → (num 3 f 29 ≡ a → ⊥) → LeavesOpen d a x (frame f start W room known)
  prlo_rejected : (f : List ℕ) (start : ℕ) (W : List ℕ) (room : ℕ) (known : AllBytes f) → Service a 0x21 f → page_fine (num 3 f 25) (get_or f 28 0) ≡ false → LeavesOpen d a x (frame f start W room known)
  -- PDISC and ADISC with the login's names and address: "ACC marks the login proven and changes nothing else"; PDISC is "changing nothing on reject"
  pdisc : (f : List ℕ) (start : ℕ) (W : List ℕ) (room : ℕ) (known : AllBytes f) → Service a 0x50 f → pdisc_names (login_of d.port a) f → LeavesOpen d a x (frame f start W room known)
  adisc : (f : List ℕ) (start : ℕ) (W : List ℕ) (room : ℕ) (known : AllBytes f) → Service a 0x52 f → adisc_names (login_of d.port a) f → num 3 f 49 ≡ a → LeavesOpen d a x (frame f start W room known)

-- the calls that end it, where they are not refused
pub data EndsOpen (d : Drive) (a x : ℕ) : Call → Type 0 where
  -- "power on ends all"; "verification time over ends the unproven ones", and this one is unproven
  power_on : EndsOpen d a x (event PowerOn)
  time_out : ((login_of d.port a).proven ≡ 1 → ⊥) → EndsOpen d a x (event TimeOver)
  -- "20h target reset ends all exchanges", "04h clear task set ends all", of whatever sender
  all_end : (f : List ℕ) (start : ℕ) (W : List ℕ) (room : ℕ) (known : AllBytes f) → EndsAll d.port f → EndsOpen d a x (frame f start W room known)
  -- "A PLOGI whose parameters pass, with a port name logged in at another address, ends that login and its exchanges" (02, 1)
  moved : (f : List ℕ) (start : ℕ) (W : List ℕ) (room : ℕ) (known : AllBytes f) → ((header_of f).s_id ≡ a → ⊥) → Moves d.port a (header_of f) f → EndsOpen d a x (frame f start W room known)
  -- "02h abort task set the sender's"
  aborts_set : (f : List ℕ) (start : ℕ) (W : List ℕ) (room : ℕ) (known : AllBytes f) → Own a 0x06 f → asked f ≡ Ok (task.Apply (EndExchangesOf a)) → EndsOpen d a x (frame f start W room known)
  -- "(1) OX_ID open at this login: that exchange ends"
  again : (f : List ℕ) (start : ℕ) (W : List ℕ) (room : ℕ) (known : AllBytes f) → Own a 0x06 f → asked f ≡ Ok task.Execute → (header_of f).ox_id ≡ x → EndsOpen d a x (frame f start W room known)
  -- ABTS: "the sender's exchange of that OX_ID, if any, ends"
  abts : (f : List ℕ) (start : ℕ) (W : List ℕ) (room : ℕ) (known : AllBytes f) → Own a 0x81 f → (header_of f).ox_id ≡ x → (header_of f).rx_id ≡ 0xffff → EndsOpen d a x (frame f start W room known)
  -- a data frame of this OX_ID "at another offset than the next is answered at once with RSP_CODE 03, else past the burst with 01, and ends the exchange" (02, 2): one that is answered with a frame
  faulted : (f : List ℕ) (start : ℕ) (W : List ℕ) (room : ℕ) (known : AllBytes f) → Own a 0x01 f → (header_of f).ox_id ≡ x → ((frame_in d f start W room).said ≡ Ok 0 → ⊥) → EndsOpen d a x (frame f start W room known)
  -- PLOGI "ends the sender's login and exchanges first, accepted or not"; LOGO "Ends the login if any"; PRLO "ends the pairing and its exchanges"
  plogi : (f : List ℕ) (start : ℕ) (W : List ℕ) (room : ℕ) (known : AllBytes f) → Service a 0x03 f → EndsOpen d a x (frame f start W room known)
  logo : (f : List ℕ) (start : ℕ) (W : List ℕ) (room : ℕ) (known : AllBytes f) → Service a 0x05 f → num 3 f 29 ≡ a → EndsOpen d a x (frame f start W room known)
  prlo : (f : List ℕ) (start : ℕ) (W : List ℕ) (room : ℕ) (known : AllBytes f) → Service a 0x21 f → page_fine (num 3 f 25) (get_or f 28 0) ≡ true → EndsOpen d a x (frame f start W room known)
  -- "Names differ from the login's, or ADISC W6/B1-3 from S_ID: drive LOGO, login ended"
  pdisc_differs : (f : List ℕ) (start : ℕ) (W : List ℕ) (room : ℕ) (known : AllBytes f) → Service a 0x50 f → (pdisc_names (login_of d.port a) f → ⊥) → EndsOpen d a x (frame f start W room known)
  adisc_differs : (f : List ℕ) (start : ℕ) (W : List ℕ) (room : ℕ) (known : AllBytes f) → Service a 0x52 f → (adisc_names (login_of d.port a) f → ⊥) ⊎ (num 3 f 49 ≡ a → ⊥) → EndsOpen d a x (frame f start W room known)

-- the exchange's own next frame, and a data frame of its own that is taken in silence: these serve it
abbrev pub Serves : Drive → ℕ → ℕ → Call → Type 0
Serves d a x (frame f start W room known) = Own a 0x01 f × ((header_of f).ox_id ≡ x) × ((frame_in d f start W room).said ≡ Ok 0)
Serves d a x (next b y start W room) = (b ≡ a) × (y ≡ x)
Serves d a x (event e) = ⊥

-- a call that was not refused
pub record Taken (d : Drive) (c : Call) : Type 0 where
  pub n : ℕ
  pub said : (answer_of d c).said ≡ Ok n

-- what a call that leaves it open leaves, where the exchange stood at place j of the login at place i: it stands there as it was, and the drive is well formed and of the same unit
pub record Left (a x i j : ℕ) (d e : Drive) : Type 0 where
  pub formed : well_formed e.unit e.port ≡ true
  pub unit : e.unit ≡ d.unit
  pub stays : StaysOpen a x i j d.port e.port
