-- The drive itself as demand 3 sees it: its entries' definitions of record over bytes, for the host of one address and one port name (document 01, "The host's rules"; document 02, requests 1 and 2).
use Rattle.std.specs.Prelude.{ℕ, ◌+◌, ◌≡◌, Bool, true, false, cond, not, List, eqb, length, get_or, Ok, Err, Result}
use Rattle.refusal.specs.declared.Refusal.{Refusal}
use Rattle.wire.specs.Bytes.{num, name_of}
use Rattle.wire.specs.Layout.{AllBytes}
use Rattle.frame.specs.Head.{header_of}
use Rattle.params.specs.Words.{params_of}
use Rattle.formed.specs.Formed.{well_formed}
use Rattle.link.specs.Record.{Kept, Record, out, held, kept_from, record_of}
use Rattle.drive.specs.declared.Drive.{Drive}
use Rattle.drive.specs.declared.Event.TheVariants.{LoopReset, TimeOver, PowerOn}
use Rattle.drive.specs.Drive.{event_answer}
use Rattle.drive.specs.Entry.{frame_in, frame_in_buffer, next_frame, next_frame_buffer}
use Rattle.belief.specs.Host.{Request, plogi, pdisc, logo, adisc, prli, prlo, rrq, command, abts, fcp_data, Answer, none, acc, rjt, dlogo, other}
use Rattle.belief.specs.Side.{Side, OwnIn}

-- a frame of the host of address a with this R_CTL; one whose other fields are wrong is refused, "and a frame the drive refuses counts as lost"
pub record Framed (a : ℕ) (f : List ℕ) (rctl : ℕ) : Type 0 where
  pub routing : (header_of f).r_ctl ≡ rctl
  pub source : (header_of f).s_id ≡ a

-- a link request "of right form, code and size"
pub record Linked (a : ℕ) (f : List ℕ) (code size : ℕ) : Type 0 where
  pub form : Framed a f 0x22
  pub coded : get_or f 24 0 ≡ code
  pub sized : length f ≡ 24 + size

-- the bytes f make the request; "a LOGO with its own address"; names and parameters are those that the drive stores
abbrev pub Makes : ℕ → List ℕ → Request → Type 0
Makes a f (plogi k) = Linked a f 0x03 116 × (k ≡ kept_from (params_of f 28))
Makes a f (pdisc k) = Linked a f 0x50 116 × (k ≡ kept_from (params_of f 28))
Makes a f logo = Linked a f 0x05 16 × (num 3 f 29 ≡ a)
Makes a f adisc = Linked a f 0x52 28
Makes a f prli = Linked a f 0x20 20
Makes a f prlo = Linked a f 0x21 20
Makes a f rrq = Linked a f 0x12 44
Makes a f command = Framed a f 0x06
Makes a f abts = Framed a f 0x81
Makes a f fcp_data = Framed a f 0x01

-- "no other port uses this host's port name": names and parameters with this port name
abbrev pub Named : ℕ → Kept → Type 0
Named name k = name_of k.port_name ≡ name

-- a PLOGI of right size with this port name, whoever sends it
abbrev pub PlogiOf : ℕ → List ℕ → Type 0
PlogiOf name f = Linked (header_of f).s_id f 0x03 116 × Named name (kept_from (params_of f 28))

-- a frame of the host as it arrives, with the window and the buffer that the port lends, of any size and contents; "its own names": its PLOGIs carry its port name
pub record FromHost (a name : ℕ) : Type 0 where
  pub request : Request
  pub bytes : List ℕ
  pub start : ℕ
  pub window : List ℕ
  pub buffer : List ℕ
  pub known : AllBytes bytes
  pub makes : Makes a bytes request
  pub named : OwnIn (Named name) request

-- what the n bytes of a reply at the front of the buffer say, by R_CTL and the first byte of the payload
abbrev pub sound_of : ℕ → List ℕ → Answer
sound_of n l = cond (eqb n 0) none (cond (eqb (get_or l 0 0) 0x23) (cond (eqb (get_or l 24 0) 0x02) acc rjt) (cond (eqb (get_or l 0 0) 0x22) dlogo other))

-- what the host of address a hears of a call of the drive, whoever's it is: the frame at the front of the buffer where its D_ID, bytes 1 to 3, is a; of a refused call nothing
abbrev pub heard_of : ℕ → Result ℕ Refusal → List ℕ → Answer
heard_of a (Ok n) l = cond (eqb (num 3 l 1) a) (sound_of n l) none
heard_of a (Err x) l = none

-- of a frame in, and of a next frame of the exchange of address b and OX_ID x
abbrev pub heard_in : ℕ → Drive → List ℕ → ℕ → List ℕ → List ℕ → Answer
heard_in a d f start W l = heard_of a (frame_in d f start W (length l)).said (frame_in_buffer d f start W l)

abbrev pub heard_next : ℕ → Drive → ℕ → ℕ → ℕ → List ℕ → List ℕ → Answer
heard_next a d b x start W l = heard_of a (next_frame d b x start W (length l)).said (next_frame_buffer d b x start W l)

-- a call for the next frame to the host, with any window and buffer
pub record ForHost : Type 0 where
  pub ox : ℕ
  pub start : ℕ
  pub window : List ℕ
  pub buffer : List ℕ

-- what else happens: "other ports sending what they like" under other addresses, but a PLOGI of right size with the host's port name; next frames to these, answers (23h) of any port, and frames to
-- other ports, of this host too
pub data Others (a name : ℕ) : Type 0 where
  frame : (f : List ℕ) (start : ℕ) (window buffer : List ℕ) → AllBytes f → ((header_of f).s_id ≡ a → ⊥) → (PlogiOf name f → ⊥) → Others a name
  answer : (f : List ℕ) (start : ℕ) (window buffer : List ℕ) → AllBytes f → (header_of f).r_ctl ≡ 0x23 → Others a name
  next : (b ox start : ℕ) (window buffer : List ℕ) → (b ≡ a → ⊥) → Others a name
  elsewhere : (f : List ℕ) (start : ℕ) (window buffer : List ℕ) → Others a name

-- a frame to another port has another D_ID than the drive's address
abbrev pub ToOthers : {a name : ℕ} → Drive → Others a name → Type 0
ToOthers d (frame f start W l k n m) = Unit {0}
ToOthers d (answer f start W l k r) = Unit {0}
ToOthers d (next b x start W l n) = Unit {0}
ToOthers d (elsewhere f start W l) = (header_of f).d_id ≡ d.port.address → ⊥

abbrev pub others : {a name : ℕ} → Drive → Others a name → Drive
others d (frame f start W l k n m) = (frame_in d f start W (length l)).drive
others d (answer f start W l k r) = (frame_in d f start W (length l)).drive
others d (next b x start W l n) = (next_frame d b x start W (length l)).drive
others d (elsewhere f start W l) = (frame_in d f start W (length l)).drive

-- what the host hears of it
abbrev pub others_heard : {a name : ℕ} → Drive → Others a name → Answer
others_heard {a} d (frame f start W l k n m) = heard_in a d f start W l
others_heard {a} d (answer f start W l k r) = heard_in a d f start W l
others_heard {a} d (next b x start W l n) = heard_next a d b x start W l
others_heard {a} d (elsewhere f start W l) = heard_in a d f start W l

-- the events that end logins: "until the drive powers on or its verification time runs out"
pub data Ending : Type 0 where
  power_on time_over : Ending

abbrev pub after_ending : Drive → Ending → Drive
after_ending d power_on = (event_answer d PowerOn).drive
after_ending d time_over = (event_answer d TimeOver).drive

-- a loss of memory is one that ends this host's login: "verification time over ends the unproven ones; power on ends all"
abbrev pub ends : Ending → Record → Bool
ends x out = false
ends power_on (held p v k) = true
ends time_over (held p v k) = not v

-- the drive, for the host of address a and this port name
abbrev pub the_drive : ℕ → ℕ → Side
the_drive a name =
    record {
      State = Drive;
      Wf = λ d. well_formed d.unit d.port ≡ true;
      login = λ d. record_of d.port a;
      Own = Named name;
      Sent = FromHost a name;
      asks = λ f. f.request;
      answer = λ d f. heard_in a d f.bytes f.start f.window f.buffer;
      take = λ d f. (frame_in d f.bytes f.start f.window (length f.buffer)).drive;
      Call = ForHost;
      speaks = λ d c. heard_next a d a c.ox c.start c.window c.buffer;
      call = λ d c. (next_frame d a c.ox c.start c.window (length c.buffer)).drive;
      Else = Others a name;
      Aside = ToOthers;
      says = others_heard;
      pass = others;
      reset = λ d. (event_answer d LoopReset).drive;
      Lapse = Ending;
      loses = λ d x. ends x (record_of d.port a);
      lapse = after_ending;
    }
