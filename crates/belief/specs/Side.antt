-- A drive as demand 3 sees it, for one host's address and port name: an interface, so that impostors can be spoken of too, and the laws that the proof needs of it.
-- The drive itself, over bytes, is one: `specs/Wire.antt`.
-- Assumes nothing.
use Rattle.std.specs.Prelude.{◌≡◌, Bool, true, false, cond, ◌⊎◌}
use Rattle.link.specs.Record.{Kept, Record, out, held, proved, paired, unpaired, doubted}
use Rattle.belief.specs.Host.{Request, plogi, pdisc, logo, adisc, prli, prlo, rrq, command, abts, fcp_data, Answer, none, acc, rjt, dlogo, other, same}

pub record Side : Type 1 where
  pub State : Type 0
  pub Wf : State → Type 0
  -- the login record for the host's address
  pub login : State → Record
  -- the names and parameters that are this host's own: those with its port name (02, 1: "no other port uses this host's port name")
  pub Own : Kept → Type 0
  -- a frame of this host as it arrives, with the buffer that the port lends; what it asks; what the host is to hear of it; the next state
  pub Sent : Type 0
  pub asks : Sent → Request
  pub answer : State → Sent → Answer
  pub take : State → Sent → State
  -- a call for the next frame to this host: what the host is to hear of it; the next state
  pub Call : Type 0
  pub speaks : State → Call → Answer
  pub call : State → Call → State
  -- all that else may happen: frames of other ports, frames to other ports, next frames to these, calls of every kind that are refused
  pub Else : Type 0
  -- that it is none of the host's requests to the drive; what the host is to hear of it, since a drive may send to whom it likes; the next state
  pub Aside : State → Else → Type 0
  pub says : State → Else → Answer
  pub pass : State → Else → State
  pub reset : State → State
  -- events that may lose memory: whether this host's login is lost by one, and the next state
  pub Lapse : Type 0
  pub loses : State → Lapse → Bool
  pub lapse : State → Lapse → State

-- a record under the host's own port name, or none
abbrev pub OwnRecord : (Kept → Type 0) → Record → Type 0
OwnRecord Own out = Unit {0}
OwnRecord Own (held p v k) = Own k

-- a login under another port name: what an earlier user of the address left
abbrev pub NotOwn : (Kept → Type 0) → Record → Type 0
NotOwn Own r = OwnRecord Own r → ⊥

-- the host logs in under its own port name; of no other request is anything asked
abbrev pub OwnIn : (Kept → Type 0) → Request → Type 0
OwnIn Own (plogi k) = Own k
OwnIn Own (pdisc k) = Unit {0}
OwnIn Own logo = Unit {0}
OwnIn Own adisc = Unit {0}
OwnIn Own prli = Unit {0}
OwnIn Own prlo = Unit {0}
OwnIn Own rrq = Unit {0}
OwnIn Own command = Unit {0}
OwnIn Own abts = Unit {0}
OwnIn Own fcp_data = Unit {0}

abbrev pub Held : Record → Type 0
Held out = ⊥
Held (held p v l) = Unit {0}

abbrev pub Paired : Record → Type 0
Paired out = ⊥
Paired (held false v l) = ⊥
Paired (held true v l) = Unit {0}

-- What each kind of request may be answered with, and the record r' after it, from the record r before it.
abbrev pub OnPlogi : Kept → Answer → Record → Type 0
OnPlogi l none r' = Unit {0}
OnPlogi l acc r' = r' ≡ held false true l
OnPlogi l rjt r' = r' ≡ out
OnPlogi l dlogo r' = ⊥
OnPlogi l other r' = ⊥

abbrev pub OnLogo : Answer → Record → Type 0
OnLogo none r' = Unit {0}
OnLogo acc r' = r' ≡ out
OnLogo rjt r' = ⊥
OnLogo dlogo r' = ⊥
OnLogo other r' = ⊥

abbrev pub OnLink : (Record → Record) → Record → Answer → Record → Type 0
OnLink f r none r' = Unit {0}
OnLink f r acc r' = Held r × (r' ≡ f r)
OnLink f r rjt r' = Held r × (r' ≡ r)
OnLink f r dlogo r' = r' ≡ out
OnLink f r other r' = ⊥

abbrev pub OnCommand : Record → Answer → Record → Type 0
OnCommand r none r' = r' ≡ r
OnCommand r acc r' = ⊥
OnCommand r rjt r' = ⊥
OnCommand r dlogo r' = (¬ (Paired r)) × (r' ≡ out)
OnCommand r other r' = Held r × (r' ≡ r)

abbrev pub Meets : Record → Request → Answer → Record → Type 0
Meets r (plogi l) a r' = OnPlogi l a r'
Meets r logo a r' = OnLogo a r'
Meets r (pdisc l) a r' = OnLink proved r a r'
Meets r adisc a r' = OnLink proved r a r'
Meets r prli a r' = OnLink paired r a r'
Meets r prlo a r' = OnLink unpaired r a r'
Meets r rrq a r' = OnLink same r a r'
Meets r command a r' = OnCommand r a r'
Meets r abts a r' = OnCommand r a r'
Meets r fcp_data a r' = OnCommand r a r'

-- What a call that is no frame of the host may leave for it: nothing changes, and what is sent goes to a host that is logged in, or is a LOGO to one that is out, since the loop may lose it.
abbrev pub Unasked : Record → Answer → Record → Type 0
Unasked r none r' = r' ≡ r
Unasked r acc r' = Held r × (r' ≡ r)
Unasked r rjt r' = Held r × (r' ≡ r)
Unasked r dlogo r' = (r ≡ out) × (r' ≡ out)
Unasked r other r' = Held r × (r' ≡ r)

pub record Laws (D : Side) : Type 0 where
  pub take_wf : (s : D.State) (f : D.Sent) → D.Wf s → D.Wf (D.take s f)
  pub call_wf : (s : D.State) (c : D.Call) → D.Wf s → D.Wf (D.call s c)
  pub pass_wf : (s : D.State) (x : D.Else) → D.Wf s → D.Aside s x → D.Wf (D.pass s x)
  pub reset_wf : (s : D.State) → D.Wf s → D.Wf (D.reset s)
  pub lapse_wf : (s : D.State) (x : D.Lapse) → D.Wf s → D.Wf (D.lapse s x)
  -- "keeps .. its own names"
  pub owns : (f : D.Sent) → OwnIn D.Own (D.asks f)
  -- a frame of the host
  pub takes : (s : D.State) (f : D.Sent) → D.Wf s → Meets (D.login s) (D.asks f) (D.answer s f) (D.login (D.take s f))
  -- a next frame, and all else: of a login under another port name no more is asked than that the host hears nothing
  pub calls : (s : D.State) (c : D.Call) → D.Wf s → Unasked (D.login s) (D.speaks s c) (D.login (D.call s c))
  pub passes : (s : D.State) (x : D.Else) → D.Wf s → D.Aside s x → Unasked (D.login s) (D.says s x) (D.login (D.pass s x)) ⊎ (NotOwn D.Own (D.login s) × (D.says s x ≡ none))
  pub resets : (s : D.State) → D.Wf s → D.login (D.reset s) ≡ doubted (D.login s)
  -- a loss of memory ends the login, and what is none leaves the record as it was
  pub lapses : (s : D.State) (x : D.Lapse) → D.Wf s → D.login (D.lapse s x) ≡ cond (D.loses s x) out (D.login s)
