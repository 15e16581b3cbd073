-- A whole WRITE and what it stores, read from the bytes of its frames and of the unit, as one reads them who knows the documents and not the code (document 02, request 2).
use Rattle.std.specs.Prelude.{◌≡◌, Bool, true, false, List, [], ◌∷◌, ◌++◌, map, ℕ, ◌+◌, ◌-◌, ◌*◌, ◌≤◌, ◌<◌, min, length, take, drop, replicate, Ok}
use Rattle.wire.specs.Bytes.{num, over}
use Rattle.wire.specs.Layout.{AllBytes}
use Rattle.frame.specs.Head.{header_of}
use Rattle.state.specs.declared.Exchange.{Exchange}
use Rattle.state.specs.Standing.{Open}
use Rattle.state.specs.Kinds.{is_write}
use Rattle.state.specs.Tables.{lookup_of}
use Rattle.formed.specs.Formed.{total}
use Rattle.residual.specs.Residual.{residual_of}
use Rattle.reply.specs.Payload.{residual_flag, residual_size}
use Rattle.serve.specs.Next.{exchange_of}
use Rattle.cover.specs.Cover.{cut}
use Rattle.drive.specs.declared.Drive.{Drive}
use Rattle.drive.specs.declared.Event.{Event}
use Rattle.drive.specs.Entry.{frame_in, frame_in_window, next_frame, next_frame_buffer}
use Rattle.demands.specs.Between.{Call, after, Own, LeavesOpen}
use Rattle.demands.specs.Between as calls
use Rattle.demands.specs.Reading.{frame_at, is_response, is_ready, payload_in, flags_in, status_in, resid_in, rest_in}

-- "Over a unit taken as one list of bytes": a drive, and the bytes of its unit
pub record World : Type 0 where
  pub drive : Drive
  pub unit : List ℕ

-- a call whose window is cut from the unit: the block that it starts at, and how many bytes it has
pub data Act : Type 0 where
  frame : (f : List ℕ) (start len room : ℕ) → AllBytes f → Act
  next : (a x start len room : ℕ) → Act
  event : Event → Act

-- the call that it is: "each window cut from it"
abbrev pub call_of : List ℕ → Act → Call
call_of unit (frame f start len room known) = calls.frame f start (cut unit start len) room known
call_of unit (next a x start len room) = calls.next a x start (cut unit start len) room
call_of unit (event e) = calls.event e

-- "and put back before the next call": the window W over the unit, from its block on
abbrev pub back : List ℕ → ℕ → List ℕ → List ℕ
back unit start W = over unit (512 * start) W

-- the unit after a call; only a frame in is lent a window that it may change
abbrev pub unit_after : World → Act → List ℕ
unit_after w (frame f start len room known) = back w.unit start (frame_in_window w.drive f start (cut w.unit start len) room)
unit_after w (next a x start len room) = w.unit
unit_after w (event e) = w.unit

-- drive and unit after it
abbrev pub acted : World → Act → World
acted w c = record { drive = after w.drive (call_of w.unit c); unit = unit_after w c }

abbrev pub ran : World → List Act → World
ran w [] = w
ran w (c ∷ cs) = ran (acted w c) cs

-- byte b of the unit is one that the open WRITE of a and x is to take: those of its blocks up to the smaller of wanted and FCP_DL
pub record InWrite (d : Drive) (a x b : ℕ) : Type 0 where
  pub i : ℕ
  pub j : ℕ
  pub stands : lookup_of d.port a x ≡ Open i j
  pub write : is_write (exchange_of d.port i j) ≡ true
  pub from : 512 * (exchange_of d.port i j).start ≤ b
  pub below : b < 512 * (exchange_of d.port i j).start + total (exchange_of d.port i j)

-- a frame is one of the open WRITE that has byte b in its range: of its sender and its OX_ID
abbrev pub Reaches : World → Act → ℕ → Type 0
Reaches w (frame f start len room known) b = InWrite w.drive (header_of f).s_id (header_of f).ox_id b
Reaches w (next a x start len room) b = ⊥
Reaches w (event e) b = ⊥

-- byte b is in the range of no open WRITE, of whomever, at any time of a history
pub data Outside (b : ℕ) : World → List Act → Type 0 where
  none : {w : World} → Outside b w []
  one : {w : World} {c : Act} {cs : List Act} → ((a x : ℕ) → InWrite w.drive a x b → ⊥) → Outside b (acted w c) cs → Outside b w (c ∷ cs)

-- a call for the next frame of a and x was not refused: g is the frame in the buffer after it, [] where nothing is sent, and e are drive and unit after it
pub record Gives (a x : ℕ) (w : World) (g : List ℕ) (e : World) : Type 0 where
  pub start : ℕ
  pub len : ℕ
  pub buffer : List ℕ
  pub n : ℕ
  pub said : (next_frame w.drive a x start (cut w.unit start len) (length buffer)).said ≡ Ok n
  pub frame_is : g ≡ frame_at (next_frame_buffer w.drive a x start (cut w.unit start len) buffer) n
  pub world : e ≡ acted w (next a x start len (length buffer))

-- a data frame of the WRITE of a and x was taken: it is of a, (01h), of that OX_ID, and answered with nothing
pub record Takes (a x : ℕ) (w : World) (f : List ℕ) (e : World) : Type 0 where
  pub start : ℕ
  pub len : ℕ
  pub room : ℕ
  pub known : AllBytes f
  pub own : Own a 0x01 f
  pub exchange : (header_of f).ox_id ≡ x
  pub said : (frame_in w.drive f start (cut w.unit start len) room).said ≡ Ok 0
  pub world : e ≡ acted w (frame f start len room known)

-- so many bytes of the unit from one on are as they were
abbrev pub Spares : ℕ → ℕ → List ℕ → List ℕ → Type 0
Spares from n unit unit₁ = take n (drop from unit₁) ≡ take n (drop from unit)

-- the calls of the WRITE of a and x one after the other from the world w on: FCP_XFER_RDYs, nothing while data are awaited, its data frames, and FCP_RSP, which is the frame `last` and leaves the world e;
-- between them any calls, of whomever, that leave it open, "if no other write reached them meanwhile": its n bytes of the unit from one on stay as they were
pub data Writes (a x from n : ℕ) : World → List (List ℕ) → List (List ℕ) → List ℕ → World → Type 0 where
  asks : {w w₁ e : World} {g last : List ℕ} {ready frames : List (List ℕ)} → Gives a x w g w₁ → is_ready g ≡ true → Writes a x from n w₁ ready frames last e → Writes a x from n w (g ∷ ready) frames last e
  waits : {w w₁ e : World} {last : List ℕ} {ready frames : List (List ℕ)} → Gives a x w [] w₁ → Writes a x from n w₁ ready frames last e → Writes a x from n w ready frames last e
  takes : {w w₁ e : World} {f last : List ℕ} {ready frames : List (List ℕ)} → Takes a x w f w₁ → Writes a x from n w₁ ready frames last e → Writes a x from n w ready (f ∷ frames) last e
  responds : {w e : World} {g : List ℕ} → Gives a x w g e → is_response g ≡ true → Writes a x from n w [] [] g e
  between : {w e : World} {last : List ℕ} {ready frames : List (List ℕ)} (c : Act) → LeavesOpen w.drive a x (call_of w.unit c) → Spares from n w.unit (unit_after w c)
      → Writes a x from n (acted w c) ready frames last e → Writes a x from n w ready frames last e

-- the data sent: the payloads of the data frames without their fill, joined
abbrev pub data_sent : List (List ℕ) → List ℕ
data_sent [] = []
data_sent (f ∷ fs) = payload_in f ++ data_sent fs

-- "12 bytes: offset, burst, zero": the payload begins at byte 24
pub record Burst : Type 0 where
  pub offset : ℕ
  pub size : ℕ

abbrev pub burst_in : List ℕ → Burst
burst_in g = record { offset = num 4 g 24; size = num 4 g 28 }

-- "FCP_XFER_RDY .. for the bytes left, 65,536 at most": from the offset `at` on each byte up to `all` is asked for once, in order, and at most 65,536 a time
pub data InBursts (all : ℕ) : ℕ → List Burst → Type 0 where
  none : InBursts all all []
  one : {at : ℕ} {b : Burst} {bs : List Burst} → at < all → b.offset ≡ at → b.size ≡ min (all - at) 65536 → InBursts all (at + b.size) bs → InBursts all at (b ∷ bs)

-- the WRITE r is stored whole: `ready` are its FCP_XFER_RDYs, `frames` its data frames, `last` its FCP_RSP, and unit the bytes after it
pub record Stored (unit : List ℕ) (r : Exchange) (ready frames : List (List ℕ)) (last : List ℕ) : Type 0 where
  -- "those in it hold the data sent": from its first block on, to the smaller of wanted and FCP_DL
  pub bytes : take (total r) (drop (512 * r.start) unit) ≡ data_sent frames
  -- and as many were sent
  pub sent : length (data_sent frames) ≡ total r
  -- each byte was asked for once, in order
  pub bursts : InBursts (total r) 0 (map burst_in ready)
  -- status 00h, and "the residual by 01's rule"; no sense and no response code
  pub status : status_in last ≡ 0x00
  pub flags : flags_in last ≡ residual_flag (residual_of r.wanted r.expected)
  pub resid : resid_in last ≡ residual_size (residual_of r.wanted r.expected)
  pub rest : rest_in last ≡ replicate 8 0

-- no call came between
abbrev pub unbroken : {a x from n : ℕ} {w e : World} {ready frames : List (List ℕ)} {last : List ℕ} → Writes a x from n w ready frames last e → Bool
unbroken (asks g shown rest) = unbroken rest
unbroken (waits g rest) = unbroken rest
unbroken (takes t rest) = unbroken rest
unbroken (responds g shown) = true
unbroken (between c leaves spares rest) = false

-- there are windows and data frames with which the WRITE of a and x takes these bytes, to its end and with no call between
pub record WriteComes (a x from n : ℕ) (w : World) (bytes : List ℕ) : Type 0 where
  pub ready : List (List ℕ)
  pub frames : List (List ℕ)
  pub last : List ℕ
  pub end : World
  pub writes : Writes a x from n w ready frames last end
  pub lone : unbroken writes ≡ true
  pub carried : data_sent frames ≡ bytes
