-- Numbers of documents 01 and 02 that next frames meet, computed. Assumes nothing.
use Rattle.std.specs.Prelude.{Ok, Err, Result, ℕ}
use Rattle.refusal.specs.declared.Refusal.{Refusal}
use Prim.Native.Nat.{ℕ}
use mathlib.Core.Path.{◌≡◌, refl}
use mathlib.Core.List.{List, [], ◌∷◌}
use lib.ListN.{replicate, take, drop}
use Rattle.wire.specs.Bytes.{onto}
use Rattle.frame.specs.Head.{header_bytes}
use Rattle.cover.specs.Cover.{cover_of}
use Rattle.refusal.specs.declared.Refusal.TheVariants.{BadWindow}
use Rattle.state.specs.declared.Exchange.{Exchange}
use Rattle.state.specs.declared.Port.{Port}
use Rattle.state.specs.Changes.{empty_exchange, empty_login, has_address, own_of, login_at, exchange_at}
use Rattle.state.specs.Tables.{has_id, find_login, find_exchange, login_of, lookup_of}
use Rattle.formed.proofs.Clauses.{unit_of, port_of, words, name, login, reading, writing}
use Rattle.residual.specs.Residual.{residual_of}
use Rattle.reply.specs.Payload.{status_bytes, ready_bytes}
use Rattle.reply.specs.Reply.{answer_head, data_head, filled, bytes_of}
use Rattle.serve.specs.Next.{has_more, reads_more, place_of, window_place, frame_of, ready_reply, next_reply, source_of, asked_by, open_step, step_of, frame_bytes, next_of, next_buffer}

-- a port of address EFh whose one login, of address 01h and this size, has this exchange alone
abbrev pub with : (size : ℕ) → Exchange → Port
with size e = port_of 0xef (words 1 1) (login 1 1 1 0 0x01 name name size 1 1 (e ∷ replicate 7 empty_exchange)) empty_login

-- what becomes of its next frame, with a window of so many bytes A5h from a block on, on the largest unit
abbrev pub said : (size : ℕ) → Exchange → (start len : ℕ) → Result ℕ Refusal
said size e start len = (next_of (unit_of 4294967295) (with size e) 0x01 0x1234 start (replicate len 0xa5)).said

-- the buffer after it
abbrev pub buffer : (size : ℕ) → Exchange → (start len : ℕ) → List ℕ
buffer size e start len = next_buffer (unit_of 4294967295) (with size e) 0x01 0x1234 start (replicate len 0xa5) (replicate 2136 0)

-- its first 24 bytes
abbrev pub header : (size : ℕ) → Exchange → (start len : ℕ) → List ℕ
header size e start len = take 24 (buffer size e start len)

-- "block 8,388,608 is byte 4,294,967,296": a READ of it is served from a window that starts there, and not from one that starts at block 0; so is a READ of two blocks, once that before it was sent
pub served_64 :
    (said 2048 (reading 8388608 1 512 512 0 0) 8388608 512 ≡ Ok 536)
    × (said 2048 (reading 8388608 1 512 512 0 0) 0 512 ≡ Err BadWindow)
    × (said 512 (reading 8388607 2 1024 1024 512 1) 8388608 512 ≡ Ok 536)
    × (said 512 (reading 8388607 2 1024 1024 512 1) 0 512 ≡ Err BadWindow)
unfolding lookup_of login_of find_login find_exchange has_address has_id login_at exchange_at step_of open_step window_place place_of reads_more has_more cover_of next_reply frame_of source_of own_of asked_by frame_bytes bytes_of filled header_bytes data_head answer_head next_of
served_64 = (refl, refl, refl, refl)

-- "size 256, frame 65,537 has SEQ_CNT 0": 01 08, 800008, 01, SEQ_CNT 0000, OFFSET 01000000h; "FCP_DL 1,001: 3 fill bytes, F_CTL 88000B", 1,028 bytes in all
pub frame_numbers :
    (header 256 (reading 0 65535 33553920 33553920 16777216 0) 32768 512
    ≡ 0x01 ∷ 0x00 ∷ 0x00 ∷ 0x01 ∷ 0x00 ∷ 0x00 ∷ 0x00 ∷ 0xef ∷ 0x08 ∷ 0x80 ∷ 0x00 ∷ 0x08 ∷ 0x01 ∷ 0x00 ∷ 0x00 ∷ 0x00 ∷ 0x12 ∷ 0x34 ∷ 0xff ∷ 0xff ∷ 0x01 ∷ 0x00 ∷ 0x00 ∷ 0x00 ∷ [])
    × (said 2048 (reading 0 2 1024 1001 0 0) 0 1024 ≡ Ok 1028)
    × (header 2048 (reading 0 2 1024 1001 0 0) 0 1024
    ≡ 0x01 ∷ 0x00 ∷ 0x00 ∷ 0x01 ∷ 0x00 ∷ 0x00 ∷ 0x00 ∷ 0xef ∷ 0x08 ∷ 0x88 ∷ 0x00 ∷ 0x0b ∷ 0x01 ∷ 0x00 ∷ 0x00 ∷ 0x00 ∷ 0x12 ∷ 0x34 ∷ 0xff ∷ 0xff ∷ 0x00 ∷ 0x00 ∷ 0x00 ∷ 0x00 ∷ [])
unfolding lookup_of login_of find_login find_exchange has_address has_id login_at exchange_at step_of open_step window_place place_of reads_more has_more cover_of next_reply frame_of source_of own_of asked_by frame_bytes bytes_of filled header_bytes data_head answer_head next_of next_buffer onto
frame_numbers = (refl, refl, refl)

-- the 12 bytes after the header of a next frame of a WRITE, for which no window is lent
abbrev pub asking : Exchange → List ℕ
asking e = take 12 (drop 24 (buffer 2048 e 0 0))

-- "FCP_XFER_RDY (R_CTL 05h, F_CTL 890000, 12 bytes: offset, burst, zero) for the bytes left, 65,536 at most, nothing while data is awaited" (02, 2), and FCP_RSP where all came
pub ready_numbers :
    (said 2048 (writing 0 131072 0 0) 0 0 ≡ Ok 36)
    × (header 2048 (writing 0 131072 0 0) 0 0
    ≡ 0x05 ∷ 0x00 ∷ 0x00 ∷ 0x01 ∷ 0x00 ∷ 0x00 ∷ 0x00 ∷ 0xef ∷ 0x08 ∷ 0x89 ∷ 0x00 ∷ 0x00 ∷ 0x00 ∷ 0x00 ∷ 0x00 ∷ 0x00 ∷ 0x12 ∷ 0x34 ∷ 0xff ∷ 0xff ∷ 0x00 ∷ 0x00 ∷ 0x00 ∷ 0x00 ∷ [])
    × (asking (writing 0 131072 0 0) ≡ 0x00 ∷ 0x00 ∷ 0x00 ∷ 0x00 ∷ 0x00 ∷ 0x01 ∷ 0x00 ∷ 0x00 ∷ 0x00 ∷ 0x00 ∷ 0x00 ∷ 0x00 ∷ [])
    × (said 2048 (writing 1 131072 0 0) 0 0 ≡ Ok 0)
    × (asking (writing 0 100000 65536 0) ≡ 0x00 ∷ 0x01 ∷ 0x00 ∷ 0x00 ∷ 0x00 ∷ 0x00 ∷ 0x86 ∷ 0xa0 ∷ 0x00 ∷ 0x00 ∷ 0x00 ∷ 0x00 ∷ [])
    × (said 2048 (writing 0 131072 131072 0) 0 0 ≡ Ok 48)
    × (said 2048 (writing 0 131072 0 0) 0 65537 ≡ Err BadWindow)
unfolding lookup_of login_of find_login find_exchange has_address has_id login_at exchange_at step_of open_step window_place place_of reads_more has_more ready_reply next_reply source_of own_of asked_by frame_bytes bytes_of filled header_bytes answer_head status_bytes ready_bytes residual_of next_of next_buffer onto
ready_numbers = (refl, refl, refl, refl, refl, refl, refl)
