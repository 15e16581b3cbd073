-- Document 01's known numbers that are marked P, at the entries, as one table; and the frames and drives that it takes (document 01, "Known numbers and slips").
use Rattle.std.specs.Prelude.{ℕ, ◌*◌, ◌≡◌, List, [], ◌∷◌, ◌++◌, length, take, drop, get_or, replicate, Ok, Err, Result}
use Rattle.refusal.specs.declared.Refusal.{Refusal}
use Rattle.wire.specs.Bytes.{bytes}
use Rattle.frame.specs.Head.{header_bytes}
use Rattle.refusal.specs.declared.Refusal.TheVariants.{BadSize, BadWindow}
use Rattle.drive.specs.declared.Drive.{Drive}
use Rattle.drive.specs.Drive.{made_from}
use Rattle.drive.specs.Entry.{frame_in, frame_in_buffer, next_frame, next_frame_buffer}
use Rattle.demands.specs.Reading.{Reads, Comes}

-- words 1 to 28 of the port of this address with this W18 size; its port name ends with the address, so that it is its own
abbrev pub words : ℕ → ℕ → List ℕ
words from size =
    replicate 6 0 ++ (0x08 ∷ 0x00 ∷ replicate 8 0) ++ (replicate 7 0x5a ++ (from ∷ replicate 8 0x5a)) ++ replicate 32 0 ++ (0x80 ∷ replicate 5 0) ++ bytes 2 size ++ (0x00 ∷ 0x01 ∷ 0x00 ∷ 0x00 ∷ 0x00 ∷ 0x01 ∷ replicate 34 0)

-- a read-only drive of address EFh and this capacity, as it is made
abbrev pub made : ℕ → Drive
made capacity = made_from record { capacity = capacity; address = 0xef; identity = replicate 28 0x20; accept = words 0xef 2048; writable = 0 }

-- a frame to it
abbrev pub frame : ℕ → ℕ → ℕ → ℕ → List ℕ → List ℕ
frame rctl protocol from ox payload =
    header_bytes record {
      r_ctl = rctl;
      d_id = 0xef;
      reserved = 0;
      s_id = from;
      protocol = protocol;
      f_ctl = 0x290000;
      seq_id = 0;
      df_ctl = 0;
      seq_cnt = 0;
      ox_id = ox;
      rx_id = 0xffff;
      offset = 0;
    } ++ payload

-- a PLOGI with this W18 size: "PLOGI 03h", and the words
abbrev pub plogi : ℕ → ℕ → List ℕ
plogi from size = frame 0x22 0x01 from 1 (0x03 ∷ 0x00 ∷ 0x00 ∷ 0x00 ∷ words from size)

-- a PRLI: "PRLI 20h 20", "B1-3 = 10 00 14 and W1/B0 = 08h", "W1/B2 bit 5 and, in W4, bits 5 and 1"
abbrev pub prli : ℕ → List ℕ
prli from = frame 0x22 0x01 from 2 (0x20 ∷ 0x10 ∷ 0x00 ∷ 0x14 ∷ 0x08 ∷ 0x00 ∷ 0x20 ∷ 0x00 ∷ replicate 11 0 ++ (0x22 ∷ []))

-- an FCP_CMND with this CDB and FCP_DL: LUN 0, no task flag, the read bit set
abbrev pub command : ℕ → ℕ → List ℕ → ℕ → List ℕ
command from ox cdb expected = frame 0x06 0x08 from ox (replicate 11 0 ++ (0x02 ∷ cdb) ++ bytes 4 expected)

-- a TEST UNIT READY: CDB code 00h
abbrev pub ready : ℕ → List ℕ
ready from = command from 3 (replicate 16 0) 0

-- a READ(10) of so many blocks from an address: CDB code 28h
abbrev pub read : ℕ → ℕ → ℕ → ℕ → ℕ → List ℕ
read from ox address count expected = command from ox ((0x28 ∷ 0x00 ∷ bytes 4 address) ++ (0x00 ∷ bytes 2 count) ++ replicate 7 0) expected

-- the drive after these frames, each with a buffer of 2,136 bytes and no window
abbrev pub after : Drive → List (List ℕ) → Drive
after d [] = d
after d (f ∷ fs) = after (frame_in d f 0 [] 2136).drive fs

-- what is said of a frame
abbrev pub said : Drive → List ℕ → Result ℕ Refusal
said d f = (frame_in d f 0 [] 2136).said

-- so many of the buffer's bytes from a place on, after a frame; before it each is 5Ah
abbrev pub sent : Drive → List ℕ → ℕ → ℕ → List ℕ
sent d f from count = take count (drop from (frame_in_buffer d f 0 [] (replicate 2136 0x5a)))

-- the drive after a login with this size, a pairing, and a command that takes the attention
abbrev pub paired : ℕ → ℕ → Drive
paired capacity size = after (made capacity) (plogi 0x01 size ∷ prli 0x01 ∷ ready 0x01 ∷ [])

-- a window of so many bytes A5h
abbrev pub lent : ℕ → List ℕ
lent len = replicate len 0xa5

-- what is said of the next frame out of exchange 0004h to address 01h, with these bytes lent from a block on
abbrev pub next_said : Drive → ℕ → List ℕ → Result ℕ Refusal
next_said d start window = (next_frame d 0x01 0x0004 start window 2136).said

-- so many of the buffer's bytes from a place on, after that call
abbrev pub next_sent : Drive → ℕ → List ℕ → ℕ → ℕ → List ℕ
next_sent d start window from count = take count (drop from (next_frame_buffer d 0x01 0x0004 start window (replicate 2136 0x5a)))

-- the drive after that call
abbrev pub next_after : Drive → ℕ → List ℕ → Drive
next_after d start window = (next_frame d 0x01 0x0004 start window 2136).drive

-- eight logins, at the first eight addresses
abbrev pub eight : Drive
eight = after (made 100) (plogi 0x01 256 ∷ plogi 0x02 256 ∷ plogi 0x04 256 ∷ plogi 0x08 256 ∷ plogi 0x0f 256 ∷ plogi 0x10 256 ∷ plogi 0x17 256 ∷ plogi 0x18 256 ∷ [])

-- the drive after a READ of 65,535 blocks by a login of size 256
abbrev pub long : Drive
long = after (paired 65535 256) (read 0x01 0x0004 0 65535 33553920 ∷ [])

-- SEQ_ID, DF_CTL, SEQ_CNT, OX_ID, RX_ID and OFFSET of the frame of this number, from 0
abbrev pub counted : List (List ℕ) → ℕ → List ℕ
counted frames number = take 12 (drop 12 (get_or frames number []))

-- the drive after a READ of one block of a unit that goes past block 8,388,608
abbrev pub far : ℕ → Drive
far address = after (paired 8388609 2048) (read 0x01 0x0004 address 1 512 ∷ [])

-- "the cases marked P together, as a table"
pub record KnownNumbers : Type 0 where
  -- "frame 20, 24, 2,136, 2,140 bytes: 3, read, read, 3"
  pub frame_20 : said (made 100) (take 20 (frame 0x23 0x01 0x01 1 [])) ≡ Err BadSize
  pub frame_24 : said (made 100) (frame 0x23 0x01 0x01 1 []) ≡ Ok 0
  pub frame_2136 : said (made 100) (frame 0x23 0x01 0x01 1 (replicate 2112 0)) ≡ Ok 0
  pub frame_2140 : said (made 100) (frame 0x23 0x01 0x01 1 (replicate 2116 0)) ≡ Err BadSize
  -- "W18 size 252, 256, 258, 2,112, 2,116: reject, accept, reject, accept, reject"
  pub size_252 : sent (made 100) (plogi 0x01 252) 24 8 ≡ 0x01 ∷ 0x00 ∷ 0x00 ∷ 0x00 ∷ 0x00 ∷ 0x03 ∷ 0x07 ∷ 0x00 ∷ []
  pub size_256 : sent (made 100) (plogi 0x01 256) 24 4 ≡ 0x02 ∷ 0x00 ∷ 0x00 ∷ 0x00 ∷ []
  pub size_258 : sent (made 100) (plogi 0x01 258) 24 8 ≡ 0x01 ∷ 0x00 ∷ 0x00 ∷ 0x00 ∷ 0x00 ∷ 0x03 ∷ 0x07 ∷ 0x00 ∷ []
  pub size_2112 : sent (made 100) (plogi 0x01 2112) 24 4 ≡ 0x02 ∷ 0x00 ∷ 0x00 ∷ 0x00 ∷ []
  pub size_2116 : sent (made 100) (plogi 0x01 2116) 24 8 ≡ 0x01 ∷ 0x00 ∷ 0x00 ∷ 0x00 ∷ 0x00 ∷ 0x03 ∷ 0x07 ∷ 0x00 ∷ []
  -- "ninth login 09,29"
  pub ninth : sent eight (plogi 0x1b 256) 24 8 ≡ 0x01 ∷ 0x00 ∷ 0x00 ∷ 0x00 ∷ 0x00 ∷ 0x09 ∷ 0x29 ∷ 0x00 ∷ []
  -- "capacity 100, address 99 count 1 read; 99 count 2, 100 count 0 refused": the one opens silently and is served, the others get 05/21/00
  pub read_99_1 : said (paired 100 2048) (read 0x01 0x0004 99 1 512) ≡ Ok 0
  pub served_99_1 : next_said (after (paired 100 2048) (read 0x01 0x0004 99 1 512 ∷ [])) 99 (lent 512) ≡ Ok 536
  pub read_99_2 : sent (paired 100 2048) (read 0x01 0x0004 99 2 1024) 48 14 ≡ 0x70 ∷ 0x00 ∷ 0x05 ∷ 0x00 ∷ 0x00 ∷ 0x00 ∷ 0x00 ∷ 0x0a ∷ 0x00 ∷ 0x00 ∷ 0x00 ∷ 0x00 ∷ 0x21 ∷ 0x00 ∷ []
  pub read_100_0 : sent (paired 100 2048) (read 0x01 0x0004 100 0 0) 48 14 ≡ 0x70 ∷ 0x00 ∷ 0x05 ∷ 0x00 ∷ 0x00 ∷ 0x00 ∷ 0x00 ∷ 0x0a ∷ 0x00 ∷ 0x00 ∷ 0x00 ∷ 0x00 ∷ 0x21 ∷ 0x00 ∷ []
  -- "wanted 1,024 with FCP_DL 1,000, 2,048: flag 04h by 24, 08h by 1,024": flags, status and FCP_RESID of the FCP_RSP after the data
  pub over : next_sent (next_after (after (paired 100 2048) (read 0x01 0x0004 0 2 1000 ∷ [])) 0 (lent 1024)) 0 [] 34 6 ≡ 0x04 ∷ 0x00 ∷ 0x00 ∷ 0x00 ∷ 0x00 ∷ 0x18 ∷ []
  pub under : next_sent (next_after (after (paired 100 2048) (read 0x01 0x0004 0 2 2048 ∷ [])) 0 (lent 1024)) 0 [] 34 6 ≡ 0x08 ∷ 0x00 ∷ 0x00 ∷ 0x00 ∷ 0x04 ∷ 0x00 ∷ []
  -- "block 8,388,608 is byte 4,294,967,296": of a window of the block before it (A5h) and of itself (C3h) its own bytes are delivered, at OFFSET 0;
  -- a window of block 0 does not cover it, and a READ of block 0 is delivered the bytes of block 0
  pub byte : ◌≡◌ {A = ℕ} (512 * 8388608) 4294967296
  pub block : next_said (far 8388608) 8388608 (lent 512) ≡ Ok 536
  pub bytes_there : next_sent (far 8388608) 8388607 (lent 512 ++ replicate 512 0xc3) 20 516 ≡ bytes 4 0 ++ replicate 512 0xc3
  pub not_zero : next_said (far 8388608) 0 (lent 512) ≡ Err BadWindow
  pub bytes_zero : next_sent (far 0) 0 (lent 512 ++ replicate 512 0xc3) 20 516 ≡ bytes 4 0 ++ replicate 512 0xa5
  -- "size 256, frame 65,537 has SEQ_CNT 0": over all next frames of a READ, from its FCP_CMND on, frame 65,536 has FFFFh and OFFSET 65,535 × 256, and the one after it 0 and 65,536 × 256;
  -- whatever windows are lent, and whatever comes between that leaves it open; and such frames there are
  pub frame_65536 : (unit : List ℕ) (frames : List (List ℕ)) (last : List ℕ) (e : Drive) → length unit ≡ 512 * 65535 → Reads unit 0x01 0x0004 long frames last e
      → counted frames 65535 ≡ 0x01 ∷ 0x00 ∷ 0xff ∷ 0xff ∷ 0x00 ∷ 0x04 ∷ 0xff ∷ 0xff ∷ 0x00 ∷ 0xff ∷ 0xff ∷ 0x00 ∷ []
  pub frame_65537 : (unit : List ℕ) (frames : List (List ℕ)) (last : List ℕ) (e : Drive) → length unit ≡ 512 * 65535 → Reads unit 0x01 0x0004 long frames last e
      → counted frames 65536 ≡ 0x01 ∷ 0x00 ∷ 0x00 ∷ 0x00 ∷ 0x00 ∷ 0x04 ∷ 0xff ∷ 0xff ∷ 0x01 ∷ 0x00 ∷ 0x00 ∷ 0x00 ∷ []
  pub frames_come : (unit : List ℕ) → length unit ≡ 512 * 65535 → Comes unit 0x01 0x0004 long
