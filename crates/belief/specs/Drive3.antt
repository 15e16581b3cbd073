-- Demand 3 of the drive itself, from top to bottom: what it says, what others change, what it keeps out, and histories of which it speaks. `the_drive a name` is the drive as the host of address a and this port name meets it,
-- over bytes: its steps are the entries' definitions of record. Each is proved in `proofs/Drive3.antt`, and assumes nothing but what stands in it.
use Rattle.std.specs.Prelude.{ℕ, ◌≡◌, Bool, true, cond, ◌⊎◌, List, length}
use Rattle.formed.specs.Formed.{well_formed}
use Rattle.link.specs.Record.{out, record_of}
use Rattle.serve.specs.Whole.{is_sent}
use Rattle.drive.specs.declared.Drive.{Drive}
use Rattle.drive.specs.Entry.{next_frame}
use Rattle.belief.specs.Host.{none, other}
use Rattle.belief.specs.Side.{Side, NotOwn}
use Rattle.belief.specs.Demand3.{Event, pass, World, step, Free, NoLapse, Demand3}
use Rattle.belief.specs.Impostor.{KeptOut}
use Rattle.belief.specs.Wire.{heard_next, Named, Others, ToOthers, others_heard, the_drive}
use Rattle.belief.specs.Histories.{NotEmpty, LeftBehind}
use Rattle.belief.specs.Marked.{Marked}
use Rattle.belief.specs.Written.{Written}

pub record Drive3 : Type 1 where
  -- Of every history over the drive's entries, from any well-formed drive on, also one with a login of another host at the host's address or with its port name elsewhere, and for the host of any
  -- address and any port name, which no other port's PLOGI carries: from the moment that the host becomes sure until a loss of memory it is unsure or its belief
  -- equals the drive's record; once a frame from the drive reaches it, it is unsure or right again; an answered PLOGI or LOGO ends the doubt.
  pub demand_3 : (a name : ℕ) → Demand3 (the_drive a name)
  -- No memory is lost where the drive neither "powers on" nor "its verification time runs out".
  pub free_without_lapse : (D : Side) (h : List (Event D)) (w : World D) → NoLapse D h → Free D w h
  -- "All from other ports, change nothing": neither what the host believes nor the drive's record for it, whatever other ports send, is called for to them or is sent to them; but where the record is that of
  -- a login under another port name, which its own host ends by moving.
  pub others_change_nothing : (a name : ℕ) (w : World (the_drive a name)) → well_formed w.drive.unit w.drive.port ≡ true → (x : Others a name) (b : Bool) → ToOthers w.drive x
      → ((step (the_drive a name) w (pass x b)).belief ≡ w.belief)
      × ((record_of (step (the_drive a name) w (pass x b)).drive.port a ≡ record_of w.drive.port a) ⊎ (NotOwn (Named name) (record_of w.drive.port a) × (record_of (step (the_drive a name) w (pass x b)).drive.port a ≡ out)))
  -- Nothing that another port's call draws is heard by the host, nor that its own frame to another port draws.
  pub others_unheard : (a name : ℕ) (d : Drive) → well_formed d.unit d.port ≡ true → (x : Others a name) → ToOthers d x → others_heard d x ≡ none
  -- A next frame to the host is heard exactly where one is given, which is not while data are awaited, as a frame that changes nothing that it believes.
  pub own_heard : (a : ℕ) (d : Drive) → well_formed d.unit d.port ≡ true → (x start : ℕ) (W l : List ℕ) → heard_next a d a x start W l ≡ cond (is_sent (next_frame d a x start W (length l)).said) other none
  -- Impostors that demand 3 itself keeps out: a drive that stores nothing, one that keeps the old login after a rejected PLOGI, one that ends a login by what is no loss of memory, one that sends a host
  -- that is logged in a LOGO which it did not ask for.
  pub kept_out : (D : Side) → Demand3 D → KeptOut D
  -- A host that keeps its rules pairs, and is right still when the verification time runs out; after power on it is sure and wrong, until the next frame puts it right.
  pub not_empty : NotEmpty
  -- A login that another host left at the host's address ends when that host logs in at its own, and the host is unsure then; a login with the host's port name elsewhere ends when the host logs in.
  pub left_behind : LeftBehind
  -- Through a lost request, a lost answer, frames of other ports, a READ, a loop reset and PDISC, and the time over a host is unsure, sure, to verify, sure and wrong, and right again.
  pub marked : Marked
  -- A WRITE to a drive that may be written: the host hears FCP_XFER_RDY, no more until the data came, of these nothing, and the response, at once where they are sent twice; it is sure and right throughout.
  pub written : Written
