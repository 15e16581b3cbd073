-- A whole exchange and what it delivers, a READ or made data, read from the bytes that stand in the lent buffers, as one reads them who knows document 01 and not the code.
use Rattle.std.specs.Prelude.{◌≡◌, Bool, true, false, cond, ◌&&◌, ◌||◌, List, [], ◌∷◌, ◌++◌, map, ℕ, zero, suc, ◌+◌, ◌-◌, ◌*◌, ◌%◌, ◌<◌, min, eqb, leb, length, take, drop, get_or, replicate, Some, Ok}
use Rattle.tables.specs.Firsts.{NoneOf}
use Rattle.wire.specs.Bytes.{num, bytes, fill_count}
use Rattle.frame.specs.declared.Header.{Header}
use Rattle.frame.specs.Head.{header_of, header_bytes}
use Rattle.state.specs.declared.Exchange.{Exchange}
use Rattle.state.specs.declared.Login.{Login}
use Rattle.state.specs.Standing.{Open}
use Rattle.state.specs.Changes.{login_at, with_login, with_exchange, ended_at, is_closed}
use Rattle.state.specs.Kinds.{kind_blocks, kind_capacity, to_host, from_host, is_write}
use Rattle.state.specs.Tables.{find_login, lookup_of}
use Rattle.formed.specs.Formed.{total, frames_of}
use Rattle.residual.specs.Residual.{residual_of}
use Rattle.reply.specs.Payload.{residual_flag, residual_size}
use Rattle.serve.specs.Next.{exchange_of}
use Rattle.command.specs.Tests.{inquiry_kind, sense_kind}
use Rattle.command.specs.Command.{told_of}
use Rattle.cover.specs.Cover.{cut}
use Rattle.serve.specs.Whole.{Piece, joined, InOrder}
use Rattle.drive.specs.declared.Drive.{Drive}
use Rattle.refusal.specs.Refusal.{frame_order}
use Rattle.drive.specs.Entry.{applies, frame_in, next_frame, next_frame_buffer}
use Rattle.demands.specs.Between.{Call, after, LeavesOpen}

-- "the reply stands at the front of the buffer, its length .. in the answer": the frame in the buffer l after a call that said `Ok n`
abbrev pub frame_at : List ℕ → ℕ → List ℕ
frame_at l n = take n l

-- the table of reply headers, "FCP_DATA, last or not": R_CTL 01h, TYPE 08h
abbrev pub is_data : List ℕ → Bool
is_data f = eqb (header_of f).r_ctl 0x01 && eqb (header_of f).protocol 0x08

-- the table of reply headers, "FCP_RSP": R_CTL 07h, TYPE 08h
abbrev pub is_response : List ℕ → Bool
is_response f = eqb (header_of f).r_ctl 0x07 && eqb (header_of f).protocol 0x08

-- "FCP frames add the fill count to F_CTL": the count is F_CTL's low two bits
abbrev pub fill_in : List ℕ → ℕ
fill_in f = (header_of f).f_ctl % 4

-- "Payloads are filled with zeros to a multiple of 4": the bytes after the 24 of the header, without the fill
abbrev pub payload_in : List ℕ → List ℕ
payload_in f = take (length f - 24 - fill_in f) (drop 24 f)

-- "OFFSET is the byte offset; SEQ_CNT the frame's number": both as the header has them, with the payload
abbrev pub piece_in : List ℕ → Piece
piece_in f = record { offset = (header_of f).offset; count = (header_of f).seq_cnt; payload = payload_in f }

-- "FCP_RSP: bytes 10 flags" of the payload, which begins at byte 24 of the frame
abbrev pub flags_in : List ℕ → ℕ
flags_in f = get_or f 34 0

-- "11 status"
abbrev pub status_in : List ℕ → ℕ
status_in f = get_or f 35 0

-- "12 FCP_RESID", of 4 bytes
abbrev pub resid_in : List ℕ → ℕ
resid_in f = num 4 f 36

-- "16 sense length, 20 response length", and what follows them: bytes 40 on
abbrev pub rest_in : List ℕ → List ℕ
rest_in f = drop 40 f

-- "The port names address and OX_ID for each next frame and lends a window": the drive d was called so for a and x, with a window cut from the unit and a buffer of any contents,
-- and was not refused; f is the frame in the buffer after the call, and e the drive after it
pub record Sends (unit : List ℕ) (a x : ℕ) (d : Drive) (f : List ℕ) (e : Drive) : Type 0 where
  pub start : ℕ
  pub len : ℕ
  pub buffer : List ℕ
  pub n : ℕ
  pub said : (next_frame d a x start (cut unit start len) (length buffer)).said ≡ Ok n
  pub frame : f ≡ frame_at (next_frame_buffer d a x start (cut unit start len) buffer) n
  pub drive : e ≡ (next_frame d a x start (cut unit start len) (length buffer)).drive

-- "nothing while data is awaited" (02, 2): the exchange of a and x is an open WRITE that awaits data
pub record Awaits (d : Drive) (a x : ℕ) : Type 0 where
  pub i : ℕ
  pub j : ℕ
  pub stands : lookup_of d.port a x ≡ Open i j
  pub write : is_write (exchange_of d.port i j) ≡ true
  pub awaited : (exchange_of d.port i j).awaited ≡ 1
  pub short : (exchange_of d.port i j).sent < total (exchange_of d.port i j)

-- such calls one after the other from the drive d on: FCP_DATA frames, all of them, and then "FCP_RSP follows", which is the frame `last` and leaves the drive e;
-- between them any calls, of whomever, that leave the exchange open
pub data Reads (unit : List ℕ) (a x : ℕ) : Drive → List (List ℕ) → List ℕ → Drive → Type 0 where
  carries : {d d₁ e : Drive} {f last : List ℕ} {frames : List (List ℕ)} → Sends unit a x d f d₁ → is_data f ≡ true → Reads unit a x d₁ frames last e → Reads unit a x d (f ∷ frames) last e
  responds : {d e : Drive} {f : List ℕ} → Sends unit a x d f e → is_response f ≡ true → Reads unit a x d [] f e
  between : {d e : Drive} {last : List ℕ} {frames : List (List ℕ)} (c : Call) → LeavesOpen d a x c → Reads unit a x (after d c) frames last e → Reads unit a x d frames last e

-- no call came between
abbrev pub unbroken : {unit : List ℕ} {a x : ℕ} {d e : Drive} {frames : List (List ℕ)} {last : List ℕ} → Reads unit a x d frames last e → Bool
unbroken (carries s shown rest) = unbroken rest
unbroken (responds s shown) = true
unbroken (between c leaves rest) = false

-- "1 reply buffer under 2,136 bytes": the sizes of the buffers that were lent for next frames of this exchange, call by call
abbrev pub rooms_of : {unit : List ℕ} {a x : ℕ} {d e : Drive} {frames : List (List ℕ)} {last : List ℕ} → Reads unit a x d frames last e → List ℕ
rooms_of (carries s shown rest) = length s.buffer ∷ rooms_of rest
rooms_of (responds s shown) = length s.buffer ∷ []
rooms_of (between c leaves rest) = rooms_of rest

-- "the exchange opens silently": the exchange of a and x is open at place j of the login at place i, and nothing of it was sent; "OX_ID(2)" and "FCP_DL 4" are numbers of 2 and 4 bytes
pub record Fresh (d : Drive) (a x i j : ℕ) : Type 0 where
  pub stands : lookup_of d.port a x ≡ Open i j
  pub fresh : (exchange_of d.port i j).sent ≡ 0
  pub ox : x < 65536
  pub expected : (exchange_of d.port i j).expected < 4294967296

-- a command that opens: no refusal applies to the frame f, with the window W and the buffer l lent, it is an FCP_CMND (R_CTL 06h) of this code, the first byte of the CDB, and nothing is answered
pub record CommandIn (operation : ℕ) (d : Drive) (f : List ℕ) (start : ℕ) (W l : List ℕ) : Type 0 where
  pub passed : NoneOf (applies d f start (length W) (length l)) frame_order
  pub command : (header_of f).r_ctl ≡ 0x06
  pub code : get_or f 36 0 ≡ operation
  pub silent : (frame_in d f start W (length l)).said ≡ Ok 0

-- the exchange of a READ(10), from the bytes of its frame: "LUN 8, .. CDB 16, FCP_DL 4" begin at bytes 24, 36 and 52
abbrev pub read_of : List ℕ → Exchange
read_of f =
    record {
      -- READ(10)'s "address": CDB bytes 2-5
      start = num 4 f 38;
      -- its "count": CDB bytes 7-8
      blocks = num 2 f 43;
      -- "Wanted: .. count × 512"
      wanted = 512 * num 2 f 43;
      -- "FCP_DL 4"
      expected = num 4 f 52;
      -- "the exchange opens silently": no byte and no frame is sent yet
      sent = 0;
      count = 0;
      -- "OX_ID(2)" of the header
      ox_id = num 2 f 16;
      -- code 28h, READ(10): blocks, to the host
      kind = kind_blocks;
      direction = to_host;
      awaited = 0;
    }

-- the exchange of a WRITE(10) (02, 2), from the bytes of its frame: as a READ's, from the host
abbrev pub write_of : List ℕ → Exchange
write_of f =
    record {
      start = num 4 f 38;
      blocks = num 2 f 43;
      wanted = 512 * num 2 f 43;
      expected = num 4 f 52;
      sent = 0;
      count = 0;
      ox_id = num 2 f 16;
      kind = kind_blocks;
      direction = from_host;
      awaited = 0;
    }

-- the exchange of a command on made data, from the bytes of its frame, of this kind and with this many bytes wanted
abbrev pub made_of : List ℕ → ℕ → ℕ → Exchange
made_of f kind wanted = record { start = 0; blocks = 0; wanted = wanted; expected = num 4 f 52; sent = 0; count = 0; ox_id = num 2 f 16; kind = kind; direction = to_host; awaited = 0 }

-- the commands that open, by their codes, each with its exchange from the bytes of its frame and the login of its sender; "byte 4" of the CDB is byte 40 of the frame
pub data Opens : ℕ → (List ℕ → Login → Exchange) → Type 0 where
  -- READ(10)
  read : Opens 0x28 (λ f l. read_of f)
  -- WRITE(10)
  write : Opens 0x2a (λ f l. write_of f)
  -- INQUIRY: "36 or byte 4 if smaller (.., 7Fh first for another LUN)"
  inquiry : Opens 0x12 (λ f l. made_of f (inquiry_kind (num 8 f 24)) (min 36 (get_or f 40 0)))
  -- READ CAPACITY: "8 (last address, 512)"
  capacity : Opens 0x25 (λ f l. made_of f kind_capacity 8)
  -- REQUEST SENSE: "18 or byte 4 if smaller (00/00/00, the attention, .. or 05/25/00 for another LUN)"
  sense : Opens 0x03 (λ f l. made_of f (sense_kind (num 8 f 24) l.attention) (min 18 (get_or f 40 0)))

-- "Else the exchange opens silently": the drive e is d with this exchange of the frame f open at a place of the sender's login that was free, and nothing else has changed but that
-- "the attention, cleared as its exchange opens", is cleared where a REQUEST SENSE reports it
pub record Opened (d : Drive) (f : List ℕ) (wish : Login → Exchange) (e : Drive) : Type 0 where
  pub i : ℕ
  pub j : ℕ
  pub seat : find_login d.port (header_of f).s_id ≡ Some i
  pub free : is_closed (exchange_of d.port i j) ≡ true
  pub fresh : Fresh e (header_of f).s_id (header_of f).ox_id i j
  pub is : exchange_of e.port i j ≡ wish (login_at d.port i)
  pub drive : e ≡ record { unit = d.unit; port = with_login d.port i (with_exchange (told_of (login_at d.port i) (wish (login_at d.port i)).kind) j (wish (login_at d.port i))) }

-- the table of reply headers, "FCP_DATA, last or not": 01 08, 880008 or 800008, 01; "addresses swapped, OX_ID echoed, RX_ID FFFFh, the rest 0"; "FCP frames add the fill count to F_CTL"
abbrev pub data_header : (own a x : ℕ) → Bool → (count at fill : ℕ) → Header
data_header own a x last count at fill =
    record {
      r_ctl = 0x01;
      d_id = a;
      reserved = 0;
      s_id = own;
      protocol = 0x08;
      f_ctl = cond last 0x880008 0x800008 + fill;
      seq_id = 0x01;
      df_ctl = 0;
      seq_cnt = count;
      ox_id = x;
      rx_id = 0xffff;
      offset = at;
    }

-- the same of "FCP_RSP": 07 08, 990000, 00
abbrev pub response_header : (own a x fill : ℕ) → Header
response_header own a x fill =
    record {
      r_ctl = 0x07;
      d_id = a;
      reserved = 0;
      s_id = own;
      protocol = 0x08;
      f_ctl = 0x990000 + fill;
      seq_id = 0x00;
      df_ctl = 0;
      seq_cnt = 0;
      ox_id = x;
      rx_id = 0xffff;
      offset = 0;
    }

-- a header, a payload, and "Payloads are filled with zeros to a multiple of 4"
abbrev pub framed : (ℕ → Header) → List ℕ → List ℕ
framed head payload = header_bytes (head (fill_count (length payload))) ++ (payload ++ replicate (fill_count (length payload)) 0)

-- "A frame carries the login's W18 size, 2,048 at most, or what is left. OFFSET is the byte offset; SEQ_CNT the frame's number from 0, going round at 65,536":
-- the FCP_DATA frame of this number where all of them carry these bytes; it is the last where none are left after it
abbrev pub data_frame : (own a x full : ℕ) → List ℕ → ℕ → List ℕ
data_frame own a x full bytes number =
    framed (data_header own a x (leb (length bytes) (number * full + full)) (number % 65536) (number * full)) (take full (drop (number * full) bytes))

-- so many of them, from this number on
abbrev pub data_frames : (own a x full : ℕ) → List ℕ → ℕ → ℕ → List (List ℕ)
data_frames own a x full bytes zero number = []
data_frames own a x full bytes (suc n) number = data_frame own a x full bytes number ∷ data_frames own a x full bytes n (number + 1)

-- "FCP_RSP: bytes 10 flags, 11 status, 12 FCP_RESID, 16 sense length, 20 response length": the payload with status 00h and no more after it
abbrev pub good_payload : (flags resid : ℕ) → List ℕ
good_payload flags resid = replicate 10 0 ++ (flags ∷ 0x00 ∷ bytes 4 resid) ++ replicate 8 0

-- the exchange r of the port a, whose data are these, is delivered whole by the port `own` in these frames and the frame `last`, where full is the bytes of a full frame to its login
pub record Delivered (from : List ℕ) (own a full : ℕ) (r : Exchange) (frames : List (List ℕ)) (last : List ℕ) : Type 0 where
  -- "To send: the smaller of wanted and FCP_DL": just so many of the data, from the first on, each once and in order
  pub bytes : joined (map piece_in frames) ≡ take (total r) from
  -- "OFFSET is the byte offset; SEQ_CNT the frame's number from 0, going round at 65,536"
  pub order : InOrder 0 0 (map piece_in frames)
  -- "A frame carries the login's W18 size, 2,048 at most, or what is left": as few frames as these take
  pub few : length frames ≡ frames_of (total r) full
  -- and every byte of each of them: the table's header, its part of the bytes, full but for the last, and the fill
  pub each : frames ≡ data_frames own a r.ox_id full (take (total r) from) (length frames) 0
  -- status 00h, and "The signed difference of wanted and FCP_DL above 0 sets flag 04h, below 0 flag 08h, FCP_RESID its size"
  pub status : status_in last ≡ 0x00
  pub flags : flags_in last ≡ residual_flag (residual_of r.wanted r.expected)
  pub resid : resid_in last ≡ residual_size (residual_of r.wanted r.expected)
  -- no sense and no response code: both lengths are 0, and the frame ends with them
  pub rest : rest_in last ≡ replicate 8 0
  -- and every byte of that frame
  pub response : last ≡ framed (response_header own a r.ox_id) (good_payload (residual_flag (residual_of r.wanted r.expected)) (residual_size (residual_of r.wanted r.expected)))

-- "FCP_RSP follows and frees the place": the drive with that place free, and all else as it was
abbrev pub freed : Drive → ℕ → ℕ → Drive
freed d i j = record { unit = d.unit; port = with_login d.port i (ended_at (login_at d.port i) j) }

-- the place is free after the run, and where no call came between nothing else of the drive has changed
pub record Frees {unit : List ℕ} {a x : ℕ} {d e : Drive} {frames : List (List ℕ)} {last : List ℕ} (i j : ℕ) (run : Reads unit a x d frames last e) : Type 0 where
  pub closed : is_closed (exchange_of e.port i j) ≡ true
  pub only : unbroken run ≡ true → e ≡ freed d i j

-- a READ's data: the unit's bytes from its first block on
abbrev pub read_from : List ℕ → Exchange → List ℕ
read_from unit r = drop (512 * r.start) unit

-- there are windows with which the exchange of a and x is read to its end, with no call between and a buffer of the least size for each
pub record Comes (unit : List ℕ) (a x : ℕ) (d : Drive) : Type 0 where
  pub frames : List (List ℕ)
  pub last : List ℕ
  pub end : Drive
  pub reads : Reads unit a x d frames last end
  pub lone : unbroken reads ≡ true
  pub rooms : rooms_of reads ≡ replicate (suc (length frames)) 2136

-- "FCP_XFER_RDY (R_CTL 05h, ..)" (02, 2), TYPE 08h
abbrev pub is_ready : List ℕ → Bool
is_ready f = eqb (header_of f).r_ctl 0x05 && eqb (header_of f).protocol 0x08

-- whom a frame is for and of what: from our address to a, of OX_ID x, and FCP_DATA, FCP_XFER_RDY or FCP_RSP
pub record Shown (own a x : ℕ) (f : List ℕ) : Type 0 where
  pub to : (header_of f).d_id ≡ a
  pub from : (header_of f).s_id ≡ own
  pub exchange : (header_of f).ox_id ≡ x
  pub kind : (is_data f || is_ready f || is_response f) ≡ true
