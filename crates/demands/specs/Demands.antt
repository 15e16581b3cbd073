-- Demands 1 and 2 over the four entries, from top to bottom; demand 3 is `Drive3` of the crate belief. `frame_in`, `next_frame`, `event_answer` and `new_answer` are the definitions of record:
-- the entries' contracts say that their answers are these, for all input. Each is proved in `proofs/Demands.antt`, and assumes nothing but what stands in it.
use Rattle.std.specs.Prelude.{◌≡◌, true, false, ◌⊎◌, List, [], ◌++◌, ℕ, ◌-◌, ◌*◌, ◌%◌, ◌≤◌, ◌<◌, length, take, drop, get_or, Ok, Err}
use seplogic.Ra.Ura.{Ura}
use base.Logic.{SProp}
use prog.Memory.{Memory}
use prog.Routine.{Routine}
use types.Logic.{Logic}
use contract.Monad.{Fun}
use Rattle.tables.specs.Firsts.{IsFirst}
use Rattle.wire.specs.Bytes.{num, name_of}
use Rattle.wire.specs.Layout.{AllBytes}
use Rattle.frame.specs.declared.Header.{Header}
use Rattle.frame.specs.Head.{Fits, header_of, header_bytes}
use Rattle.state.specs.declared.Exchange.{Exchange}
use Rattle.state.specs.declared.Login.{Login}
use Rattle.state.specs.declared.Setup.{Setup}
use Rattle.state.specs.Standing.{Open}
use Rattle.state.specs.Changes.{login_at, is_closed}
use Rattle.state.specs.Kinds.{kind_blocks, is_write}
use Rattle.state.specs.Tables.{lookup_of}
use Rattle.formed.specs.Formed.{setup_rules, well_formed, total}
use Rattle.refusal.specs.declared.Refusal.{Refusal}
use Rattle.refusal.specs.declared.Refusal.TheVariants.{IllFormed, BadSetup}
use Rattle.refusal.specs.Refusal.{frame_order, next_order}
use Rattle.serve.specs.Made.{made_bytes}
use Rattle.serve.specs.Next.{exchange_of, full_of}
use Rattle.link.specs.Link.{link_of}
use Rattle.judging.specs.Judgement.{judgement_of}
use Rattle.arrival.specs.Arrival.{bad_source}
use Rattle.drive.specs.declared.Drive.{Drive}
use Rattle.drive.specs.declared.Event.{Event}
use Rattle.drive.specs.Drive.{made_from, no_drive, nothing_sent, refused, new_answer, after_event, event_answer}
use Rattle.drive.specs.Entry.{answered, applies, frame_in, frame_in_buffer, frame_in_window, next_frame, next_frame_buffer}
use Rattle.demands.specs.Replies.{OneReply}
use Rattle.demands.specs.Driven.{Driven}
use Rattle.demands.specs.Refusals.{applies_out}
use Rattle.demands.specs.Login.{LoginIn, PortLogin, HostMoved}
use Rattle.demands.specs.Between.{Call, after, LeavesOpen, EndsOpen, Serves, Taken, Left}
use Rattle.demands.specs.Reading.{Awaits, Sends, Shown, Reads, Fresh, CommandIn, read_of, write_of, Opens, read, write, Opened, flags_in, Delivered, read_from, Frees, Comes}
use Rattle.demands.specs.Writing.{World, Act, Reaches, unit_after, ran, Outside, Writes, Stored, data_sent, WriteComes}
use Rattle.demands.specs.Numbers.{KnownNumbers}
use Rattle.demands.specs.Judges.{plogi_header, plogi_frame, reply_for}

-- "Every public entry takes every input, ends, and does nothing undefined": that is the contracts', which ask nothing. "Bad input is refused by a number of document 01; a refusal hands back the
-- state unchanged and writes no byte of a lent buffer."
pub record Demand1 : Type 2 where
  -- No input allows two replies: of the contracts of all entries, of the C functions and of the programs' functions, two outcomes that one allows are the same, answer and all that is left of what was lent.
  pub no_two_replies : {M : Type 1} {𝓤 : Ura M} (𝓛 : Logic 𝓤) (mem : Memory → SProp 𝓤) (run : Routine → Fun 𝓤) → OneReply 𝓛 mem run
  -- Refusals of a frame in: a number is given exactly when it is the first of 1 to 7, 11, 10 that applies, with the drive unchanged and no byte of the buffer and of the window changed.
  pub frame_given : (d : Drive) (f : List ℕ) (start : ℕ) (W l : List ℕ) (x : Refusal) → (frame_in d f start W (length l)).said ≡ Err x → IsFirst (applies d f start (length W) (length l)) frame_order x
  pub frame_then : (d : Drive) (f : List ℕ) (start : ℕ) (W l : List ℕ) (x : Refusal) → IsFirst (applies d f start (length W) (length l)) frame_order x → (frame_in d f start W (length l) ≡ refused x d) × (frame_in_buffer d f start W l ≡ l) × (frame_in_window d f start W (length l) ≡ W)
  -- Refusals of a next frame out: the same, in the order 1, 2, 9, 7, 10.
  pub next_given : (d : Drive) (a x start : ℕ) (W l : List ℕ) (r : Refusal) → (next_frame d a x start W (length l)).said ≡ Err r → IsFirst (applies_out d a x start W l) next_order r
  pub next_then : (d : Drive) (a x start : ℕ) (W l : List ℕ) (r : Refusal) → IsFirst (applies_out d a x start W l) next_order r → (next_frame d a x start W (length l)).said ≡ Err r
  pub next_same : (d : Drive) (a x start : ℕ) (W l : List ℕ) (r : Refusal) → (next_frame d a x start W (length l)).said ≡ Err r
      → ((next_frame d a x start W (length l)).drive ≡ d) × (next_frame_buffer d a x start W l ≡ l)
  -- An event is refused, with 2, exactly when the state is not well formed; making a drive, with 8, exactly when a setup rule fails.
  pub event_given : (d : Drive) (e : Event) → (well_formed d.unit d.port ≡ false → event_answer d e ≡ refused IllFormed d) × (well_formed d.unit d.port ≡ true → event_answer d e ≡ nothing_sent (after_event e d))
  pub new_given : (s : Setup) → (setup_rules s ≡ false → new_answer s ≡ refused BadSetup no_drive)
      × (setup_rules s ≡ true → new_answer s ≡ nothing_sent (made_from s))
  -- Well formed is kept: a drive that was made, and driven only by the entries, is well formed, and no call of it is refused with 2.
  pub driven_formed : {d : Drive} → Driven d → well_formed d.unit d.port ≡ true
  pub frame_never_2 : {d : Drive} → Driven d → (f : List ℕ) (start : ℕ) (W l : List ℕ) → (frame_in d f start W (length l)).said ≡ Err IllFormed → ⊥
  pub next_never_2 : {d : Drive} → Driven d → (a x start : ℕ) (W l : List ℕ) → (next_frame d a x start W (length l)).said ≡ Err IllFormed → ⊥
  pub event_never_2 : {d : Drive} → Driven d → (e : Event) → event_answer d e ≡ nothing_sent (after_event e d)
  -- The length of what is sent: of a reply to a frame in at most 140 bytes (PLOGI's ACC), of a next frame from 24 to 2,072, and 0 exactly while data are awaited (02, 2), when nothing of the drive changes; a multiple of 4 always.
  -- The accept words are a list here; in the code they are an array of 112 bytes, so every drive there has that many.
  pub frame_length : (d : Drive) (f : List ℕ) (start : ℕ) (W l : List ℕ) (n : ℕ) → length d.port.accept ≡ 112 → (frame_in d f start W (length l)).said ≡ Ok n → (n ≤ 140) × (n % 4 ≡ 0)
  pub next_length : (d : Drive) (a x start : ℕ) (W l : List ℕ) (n : ℕ) → (next_frame d a x start W (length l)).said ≡ Ok n
      → ((n ≡ 0) × Awaits d a x) ⊎ ((24 ≤ n) × (n ≤ 2072) × (n % 4 ≡ 0))
  pub next_awaits : (d : Drive) (a x start : ℕ) (W l : List ℕ) (n : ℕ) → (next_frame d a x start W (length l)).said ≡ Ok n → Awaits d a x
      → (n ≡ 0) × ((next_frame d a x start W (length l)).drive ≡ d)
  -- So a length is below 65,536, from where on the C boundary tells refusals.
  pub frame_below : (d : Drive) (f : List ℕ) (start : ℕ) (W l : List ℕ) (n : ℕ) → length d.port.accept ≡ 112 → (frame_in d f start W (length l)).said ≡ Ok n → n < 65536
  pub next_below : (d : Drive) (a x start : ℕ) (W l : List ℕ) (n : ℕ) → (next_frame d a x start W (length l)).said ≡ Ok n → n < 65536

-- "Each frame is read, and each reply written, exactly as document 01 condenses ..": what a reply is, is the definitions' (`frame_in_buffer`, `next_frame_buffer`), which the contracts cite. "Writing a header's
-- fields gives back the bytes read. A port login that is not refused is rejected exactly when its size is wrong, a parameter rule fails or no place is free, with the stated reason."
pub record Demand2 : Type 0 where
  -- Header round trip: writing the fields that were read gives the bytes back, and reading those that were written gives the fields.
  pub header_bytes_lem : (f : List ℕ) → AllBytes f → 24 ≤ length f → header_bytes (header_of f) ≡ take 24 f
  pub header_fields : (h : Header) (rest : List ℕ) → Fits h → header_of (header_bytes h ++ rest) ≡ h
  -- A port login that is not refused, over the bytes of the lent buffer and both ways: ACC stands there, byte for byte, exactly where the size is right, every word test passes and a place is free once the
  -- sender's login has ended and that of its port name, and the new login is stored at that place, the lowest; LS_RJT with a reason exactly where the reason is the first that applies, and where a word test
  -- fails the sender's login has ended all the same and no other, else the drive is as it was. Later bytes are unchanged, the length is told, and there is no third answer. The accept words are 112 bytes.
  pub port_login : (d : Drive) (f : List ℕ) (start : ℕ) (W l : List ℕ) → LoginIn d f start W l → length d.port.accept ≡ 112 → PortLogin d f start W l
  -- The host that moved (02, 1): after an accepted PLOGI the record of its port name at another address is out, and at its own held; every other login, exchanges too, is as it was; where the name is found
  -- the room test cannot fail; after a 09,29 nothing changed, and after no rejection another's login.
  pub host_moved : (d : Drive) (f : List ℕ) (start : ℕ) (W l : List ℕ) → LoginIn d f start W l → length d.port.accept ≡ 112 → (b : ℕ) → (b ≡ (header_of f).s_id → ⊥) → HostMoved d f start W l b
  -- Port names are compared by their numbers: names of eight bytes whose numbers are equal are equal byte by byte.
  pub name_same : (x y : List ℕ) → AllBytes x → AllBytes y → length x ≡ 8 → length y ≡ 8 → name_of x ≡ name_of y → x ≡ y
  -- A whole READ, read off the lent buffers: the unit's bytes from its first block on, to the smaller of wanted and FCP_DL, each once and in order, each frame at its OFFSET
  -- with its number modulo 65,536 as SEQ_CNT, full but for the last, then FCP_RSP with status 00h and the residual, every byte of each as the table of headers has it, and the place freed.
  -- Whatever windows are cut from the unit, whatever the buffers hold, and whatever calls come between that leave the exchange open; where none does, nothing else of the drive has changed.
  pub whole_read : (d e : Drive) (unit : List ℕ) (a x i j : ℕ) (frames : List (List ℕ)) (last : List ℕ) → well_formed d.unit d.port ≡ true → length unit ≡ 512 * d.unit.capacity
      → Fresh d a x i j → (exchange_of d.port i j).kind ≡ kind_blocks → is_write (exchange_of d.port i j) ≡ false → (reads : Reads unit a x d frames last e)
      → Delivered (read_from unit (exchange_of d.port i j)) d.port.address a (full_of d.port i) (exchange_of d.port i j) frames last × Frees i j reads
  -- The same of made data, INQUIRY, READ CAPACITY and REQUEST SENSE. The identity bytes are a list here; in the code they are an array of 28 bytes.
  pub whole_made : (d e : Drive) (unit : List ℕ) (a x i j : ℕ) (frames : List (List ℕ)) (last : List ℕ) → well_formed d.unit d.port ≡ true → length d.unit.identity ≡ 28
      → Fresh d a x i j → ((exchange_of d.port i j).kind ≡ kind_blocks → ⊥) → (reads : Reads unit a x d frames last e)
      → Delivered (made_bytes d.unit (exchange_of d.port i j).kind) d.port.address a (full_of d.port i) (exchange_of d.port i j) frames last × Frees i j reads
  -- The calls that leave an exchange open do: it stands where it stood, as it was, at a login of the same size, and the drive is well formed and of the same unit.
  pub stays_open : (d : Drive) (a x i j : ℕ) → well_formed d.unit d.port ≡ true → lookup_of d.port a x ≡ Open i j → (c : Call) → LeavesOpen d a x c → Left a x i j d (after d c)
  -- The calls that end it do: where such a call is not refused, the exchange is open nowhere after it.
  pub ends_open : (d : Drive) (a x i j : ℕ) → well_formed d.unit d.port ≡ true → lookup_of d.port a x ≡ Open i j → (c : Call) → Taken d c → EndsOpen d a x c
      → (k m : ℕ) → lookup_of (after d c).port a x ≡ Open k m → ⊥
  -- And there is no third kind: every call but the exchange's own next frame, and its data frame that is taken, leaves it open or ends it.
  pub no_third_call : (d : Drive) (a x i j : ℕ) → well_formed d.unit d.port ≡ true → lookup_of d.port a x ≡ Open i j → (c : Call) → (Serves d a x c → ⊥)
      → LeavesOpen d a x c ⊎ (Taken d c × EndsOpen d a x c)
  -- A command from its FCP_CMND frame, READ(10), WRITE(10), INQUIRY, READ CAPACITY or REQUEST SENSE: one that is not refused and answered with nothing has opened just the exchange that the frame's bytes say,
  -- at a place of the sender's login that was free, and changed nothing else; a REQUEST SENSE has cleared the attention that it reports.
  pub command_opens : {code : ℕ} {wish : List ℕ → Login → Exchange} → Opens code wish → (d : Drive) (f : List ℕ) (start : ℕ) (W l : List ℕ) → AllBytes f → CommandIn code d f start W l → Opened d f (wish f) (frame_in d f start W (length l)).drive
  -- And the frames that follow deliver what that frame asked for, and free the place: of a READ, and of the others.
  pub whole_read_in : (d e : Drive) (unit f : List ℕ) (start : ℕ) (W l : List ℕ) (frames : List (List ℕ)) (last : List ℕ) → length unit ≡ 512 * d.unit.capacity → (known : AllBytes f) (r : CommandIn 0x28 d f start W l)
      → (reads : Reads unit (header_of f).s_id (header_of f).ox_id (frame_in d f start W (length l)).drive frames last e)
      → let o = command_opens read d f start W l known r in
      Delivered (read_from unit (read_of f)) d.port.address (header_of f).s_id (full_of d.port o.i) (read_of f) frames last × Frees o.i o.j reads
  pub whole_made_in : {code : ℕ} {wish : List ℕ → Login → Exchange} (opens : Opens code wish) → (code ≡ 0x28 → ⊥) → (code ≡ 0x2a → ⊥) → (d e : Drive) (unit f : List ℕ) (start : ℕ) (W l : List ℕ) (frames : List (List ℕ)) (last : List ℕ)
      → length d.unit.identity ≡ 28 → (known : AllBytes f) (r : CommandIn code d f start W l) → (reads : Reads unit (header_of f).s_id (header_of f).ox_id (frame_in d f start W (length l)).drive frames last e)
      → let o = command_opens opens d f start W l known r in
      let x = wish f (login_at d.port o.i) in
      Delivered (made_bytes d.unit x.kind) d.port.address (header_of f).s_id (full_of d.port o.i) x frames last × Frees o.i o.j reads
  -- And such a run there is, for every open exchange of a proven login but a WRITE, and so after every such frame.
  pub whole_comes : (d : Drive) (unit : List ℕ) (a x i j : ℕ) → well_formed d.unit d.port ≡ true → length unit ≡ 512 * d.unit.capacity → lookup_of d.port a x ≡ Open i j
      → (login_at d.port i).proven ≡ 1 → is_write (exchange_of d.port i j) ≡ false → Comes unit a x d
  pub whole_comes_in : {code : ℕ} {wish : List ℕ → Login → Exchange} → Opens code wish → (code ≡ 0x2a → ⊥) → (d : Drive) (unit f : List ℕ) (start : ℕ) (W l : List ℕ) → length unit ≡ 512 * d.unit.capacity → AllBytes f → CommandIn code d f start W l
      → Comes unit (header_of f).s_id (header_of f).ox_id (frame_in d f start W (length l)).drive
  -- No call is left out of a run: each frame that is sent shows itself as FCP_DATA, FCP_XFER_RDY or FCP_RSP, and for whom and of what it is.
  pub frames_shown : (unit : List ℕ) (a x : ℕ) (d : Drive) (f : List ℕ) (e : Drive) → x < 65536 → Sends unit a x d f e → (f ≡ [] → ⊥) → Shown d.port.address a x f
  -- Writing (02, 2), local: a call changes no byte of the unit that is not in the range of an open WRITE of its sender and OX_ID, and so a byte that is in no open WRITE's range never changes;
  -- windows are cut from the unit and put back before the next call.
  pub write_local : (w : World) → (c : Act) (b : ℕ) → (Reaches w c b → ⊥) → (length (unit_after w c) ≡ length w.unit) × (get_or (unit_after w c) b 0 ≡ get_or w.unit b 0)
  pub write_outside : (w : World) (cs : List Act) (b : ℕ) → Outside b w cs → get_or (ran w cs).unit b 0 ≡ get_or w.unit b 0
  -- A whole WRITE: after its FCP_RSP the unit holds the data sent, from its first block on to the smaller of wanted and FCP_DL, each byte asked for once and in order, at most 65,536 a time; the residual
  -- is 01's, and the place is free. Whatever windows are lent, whatever sizes and fills its data frames have, and whatever calls come between that leave it open and its bytes of the unit as they were.
  pub whole_write : (w e : World) (a x i j : ℕ) (ready frames : List (List ℕ)) (last : List ℕ) → well_formed w.drive.unit w.drive.port ≡ true → length w.unit ≡ 512 * w.drive.unit.capacity
      → Fresh w.drive a x i j → is_write (exchange_of w.drive.port i j) ≡ true → (exchange_of w.drive.port i j).awaited ≡ 0
      → Writes a x (512 * (exchange_of w.drive.port i j).start) (total (exchange_of w.drive.port i j)) w ready frames last e
      → Stored e.unit (exchange_of w.drive.port i j) ready frames last × (is_closed (exchange_of e.drive.port i j) ≡ true)
  -- The same from the WRITE(10) frame's own bytes: after a GOOD answer without RSP_CODE or residual the blocks that it names hold the data sent, in order.
  pub whole_write_in : (d : Drive) (e : World) (unit f : List ℕ) (start : ℕ) (W l : List ℕ) (ready frames : List (List ℕ)) (last : List ℕ) → length unit ≡ 512 * d.unit.capacity
      → (known : AllBytes f) (r : CommandIn 0x2a d f start W l)
      → Writes (header_of f).s_id (header_of f).ox_id (512 * num 4 f 38) (total (write_of f)) (record { drive = (frame_in d f start W (length l)).drive; unit = unit }) ready frames last e
      → let o = command_opens write d f start W l known r in
      Stored e.unit (write_of f) ready frames last × (is_closed (exchange_of e.drive.port o.i o.j) ≡ true)
      × (flags_in last ≡ 0x00 → take (512 * num 2 f 43) (drop (512 * num 4 f 38) e.unit) ≡ data_sent frames)
  -- And such a run there is, for every open WRITE of a proven login and any bytes, as many as are left.
  pub write_comes : (w : World) (a x i j : ℕ) (bytes : List ℕ) → well_formed w.drive.unit w.drive.port ≡ true → length w.unit ≡ 512 * w.drive.unit.capacity
      → lookup_of w.drive.port a x ≡ Open i j → x < 65536 → (login_at w.drive.port i).proven ≡ 1 → is_write (exchange_of w.drive.port i j) ≡ true
      → AllBytes bytes → length bytes ≡ total (exchange_of w.drive.port i j) - (exchange_of w.drive.port i j).sent
      → WriteComes a x (512 * (exchange_of w.drive.port i j).start) (total (exchange_of w.drive.port i j)) w bytes
  -- The program judges: its judgement of a login record of 116 bytes that starts with 03h is the answer of a drive with no logins, whatever its setup, to a PLOGI of that payload from any valid address
  -- but its own.
  pub judges_is : (t : Setup) → setup_rules t ≡ true → (from ox : ℕ) → bad_source t.address from ≡ false → ox < 65536 → (s : List ℕ) → length s ≡ 116 → get_or s 0 0 ≡ 3 → (start : ℕ) (W : List ℕ) (room : ℕ) → 2136 ≤ room
      → let d = made_from t in
      let h = plogi_header from t.address ox in
      let f = plogi_frame from t.address ox s in
      frame_in d f start W room ≡ answered d h (record { reply = reply_for (judgement_of s); port = (link_of d.port h f).port })
  -- The known numbers marked P, as one table.
  pub p_cases : KnownNumbers
