-- Demands 1 and 2 hold. Assumes nothing.
use Rattle.std.specs.Prelude.{Err}
use mathlib.Core.Path.{◌≡◌, sym, ◌∙◌}
use mathlib.Core.List.{List}
use Prim.Native.Nat.{ℕ, ◌≤◌, ◌<◌}
use native.Mathlib.Omega.{arith}
use lib.ListN.{length}
use borrow.Author.Tests.{not-true}
use Rattle.tables.proofs.Bools.{apart}
use Rattle.wire.proofs.Digits.{name_same}
use Rattle.frame.proofs.Trips.{write_read, read_write}
use Rattle.formed.specs.Formed.{well_formed}
use Rattle.refusal.specs.declared.Refusal.TheVariants.{IllFormed}
use Rattle.drive.specs.declared.Drive.{Drive}
use Rattle.drive.specs.Entry.{frame_in, next_frame}
use Rattle.drive.proofs.Made.{new_refused, new_made, event_refused, event_answered}
use Rattle.demands.specs.Driven.{Driven}
use Rattle.demands.specs.Demands.{Demand1, Demand2}
use Rattle.demands.proofs.Replies.{one_reply}
use Rattle.demands.proofs.Reach.{driven_fine}
use Rattle.demands.proofs.Refusals.{frame_first, frame_refuses, next_first, next_refuses, next_unchanged}
use Rattle.demands.proofs.Lengths.{frame_long, next_long, next_silent, next_most}
use Rattle.demands.proofs.Login.{login_is, moved_is}
use Rattle.demands.proofs.Judges.{judges_is}
use Rattle.demands.proofs.Between.{leaves_open}
use Rattle.demands.proofs.Ending.{ends_open, no_third_call}
use Rattle.demands.proofs.Reading.{reads_shown, reads_read, reads_made, reads_come}
use Rattle.demands.proofs.Opening.{opens_command, read_in, made_in, comes_in}
use Rattle.demands.proofs.Outside.{write_local, write_outside}
use Rattle.demands.proofs.Writing.{whole_write, whole_write_in}
use Rattle.demands.proofs.WriteComes.{write_comes}
use Rattle.demands.proofs.Numbers.{known_numbers}

-- 2 is given where the state is not well formed, and a driven one is
never_frame : {d : Drive} → Driven d → (f : List ℕ) (start : ℕ) (W l : List ℕ) → (frame_in d f start W (length l)).said ≡ Err IllFormed → ⊥
never_frame {d} r f start W l e = apart (driven_fine r) (not-true (well_formed d.unit d.port) (frame_first d f start W l IllFormed e).this)

never_next : {d : Drive} → Driven d → (a x start : ℕ) (W l : List ℕ) → (next_frame d a x start W (length l)).said ≡ Err IllFormed → ⊥
never_next {d} r a x start W l e = apart (driven_fine r) (not-true (well_formed d.unit d.port) (next_first d a x start W l IllFormed e).this)

below : (n m : ℕ) → n ≤ m → m < 65536 → n < 65536
below n m h k = omega arith

pub demand_1 : Demand1
demand_1 =
    record {
      no_two_replies = one_reply;
      frame_given = frame_first;
      frame_then = frame_refuses;
      next_given = next_first;
      next_then = next_refuses;
      next_same = next_unchanged;
      event_given = λ d e. (event_refused d e, event_answered d e);
      new_given = λ s. (new_refused s, new_made s);
      driven_formed = driven_fine;
      frame_never_2 = never_frame;
      next_never_2 = never_next;
      event_never_2 = λ {d} r e. event_answered d e (driven_fine r);
      frame_length = frame_long;
      next_length = next_long;
      next_awaits = next_silent;
      frame_below = λ d f start W l n words e. below n 140 (frame_long d f start W l n words e).0 (omega arith);
      next_below = λ d a x start W l n e. below n 2072 (next_most d a x start W l n e) (omega arith);
    }

pub demand_2 : Demand2
demand_2 =
    record {
      header_bytes_lem = write_read;
      header_fields = read_write;
      port_login = login_is;
      host_moved = λ d f start W l p words b n. moved_is d f start W l p words b n;
      name_same = λ x y bx by ex ey e. name_same x y bx by (ex ∙ sym ey) e;
      whole_read = reads_read;
      whole_made = reads_made;
      stays_open = leaves_open;
      ends_open = ends_open;
      no_third_call = no_third_call;
      command_opens = opens_command;
      whole_read_in = λ d e unit f start W l frames last long known r. read_in d f start W l known r e unit frames last long;
      whole_made_in = λ opens made unwritten d e unit f start W l frames last words known r. made_in opens made unwritten d f start W l known r e unit frames last words;
      whole_comes = reads_come;
      whole_comes_in = λ opens unwritten d unit f start W l long known r. comes_in opens d f start W l known r unwritten unit long;
      frames_shown = reads_shown;
      write_local = write_local;
      write_outside = write_outside;
      whole_write = whole_write;
      whole_write_in = whole_write_in;
      write_comes = write_comes;
      judges_is = judges_is;
      p_cases = known_numbers;
    }
