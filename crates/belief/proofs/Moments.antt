-- Moments of a history, and how one event after the other leads to them. Assumes nothing.
use Prim.Native.Nat.{ℕ}
use mathlib.Core.Path.{◌≡◌, sym, ap, ◌∙◌, subst}
use mathlib.Core.Bool.{true, false}
use mathlib.Core.List.{[], ◌∷◌, ◌++◌}
use lib.ListN.{replicate}
use Rattle.state.specs.declared.Exchange.{Exchange}
use Rattle.state.specs.declared.Login.{Login}
use Rattle.state.specs.Changes.{empty_exchange, empty_login}
use Rattle.link.specs.Record.{Record, held, record_of}
use Rattle.drive.specs.declared.Drive.{Drive}
use Rattle.demands.specs.Numbers.{words}
use Rattle.belief.specs.Host.{Belief}
use Rattle.belief.specs.Demand3.{Event, World, step, run, Follows, Keeps, start}
use Rattle.belief.specs.Wire.{the_drive}
use Rattle.belief.specs.Frames.{sent_kept, host_name}
use Rattle.belief.specs.Marked.{Day, AtFrom}

-- The moments, spelt out, so that each event is computed from them and not from the first one on.
abbrev pub Moment : Type 0
Moment = World (the_drive 0x01 host_name)

-- a login of this address with these flags, attention and first exchange
abbrev pub seat : (address proven paired attention : ℕ) → Exchange → Login
seat address proven paired attention e =
    record {
      used = 1;
      proven = proven;
      paired = paired;
      attention = attention;
      concurrent = 1;
      sequences = 1;
      size = 2048;
      address = address;
      port_name = replicate 7 0x5a ++ (address ∷ []);
      node_name = replicate 8 0x5a;
      places = e ∷ replicate 7 empty_exchange;
    }

-- the host believes this, and a drive that may be written or not has these two logins
abbrev pub moment : ℕ → Belief → Login → Login → Moment
moment writable b l m =
    record {
      drive = record { unit = record { capacity = 100; identity = replicate 28 0x20; writable = writable }; port = record { address = 0xef; accept = words 0xef 2048; logins = l ∷ m ∷ replicate 6 empty_login } };
      belief = b;
    }

-- what is held of the host: logged in, paired, and paired to verify
abbrev pub in_held : Record
in_held = held false true sent_kept

abbrev pub paired_held : Record
paired_held = held true true sent_kept

abbrev pub doubted_held : Record
doubted_held = held true false sent_kept

-- a host that keeps its rules comes from one to the other
pub record Leads (w : Moment) (h : Day) (v : Moment) : Type 0 where
  pub keeps : Keeps (the_drive 0x01 host_name) w h
  pub ends : run (the_drive 0x01 host_name) w h ≡ v

-- by one event
pub record By (v : Moment) (e : Event (the_drive 0x01 host_name)) (u : Moment) : Type 0 where
  pub follows : Follows (the_drive 0x01 host_name) v e
  pub goes : step (the_drive 0x01 host_name) v e ≡ u

-- one event after others
after : (w v u : Moment) (h : Day) (e : Event (the_drive 0x01 host_name)) → Leads w h v → By v e u → Leads w (h ++ (e ∷ [])) u
after w v u [] e l b = record { keeps = (subst (λ (x : Moment). Follows (the_drive 0x01 host_name) x e) (sym l.ends) b.follows, tt); ends = ap (λ (x : Moment). step (the_drive 0x01 host_name) x e) l.ends ∙ b.goes }
after w v u (f ∷ h) e l b =
    let r = after (step (the_drive 0x01 host_name) w f) v u h e record { keeps = l.keeps.1; ends = l.ends } b in
    record { keeps = (l.keeps.0, r.keeps); ends = r.ends }

pub more : {w v u : Moment} {h : Day} {e : Event (the_drive 0x01 host_name)} → Leads w h v → By v e u → Leads w (h ++ (e ∷ [])) u
more {w} {v} {u} {h} {e} l b = after w v u h e l b

-- from a drive to a moment
abbrev pub Reach : Drive → Day → Moment → Type 0
Reach d h v = Leads (start (the_drive 0x01 host_name) d) h v

-- what holds at a moment holds at the end of the history that leads to it
pub at_end : {d : Drive} {h : Day} {v : Moment} → Reach d h v → (r : Record) → record_of v.drive.port 0x01 ≡ r → AtFrom d h v.belief r
at_end l r e = record { belief = ap (λ (x : Moment). x.belief) l.ends; record_is = ap (λ (x : Moment). record_of x.drive.port 0x01) l.ends ∙ e }
