-- The header of every reply, and the whole of it (document 01, "Header and reply headers").
use Rattle.std.specs.Prelude.{ℕ, ◌+◌, ◌%◌, Bool, true, false, cond, List, [], ◌++◌, ltb, length}
use Rattle.wire.specs.Bytes.{onto, fill_count, fill_of}
use Rattle.frame.specs.declared.Header.{Header}
use Rattle.frame.specs.Head.{header_bytes}
use Rattle.state.specs.declared.Own.{Own}
use Rattle.reply.specs.declared.DataFrame.{DataFrame}
use Rattle.reply.specs.declared.Reply.{Reply}
use Rattle.reply.specs.declared.Reply.TheVariants.{Nothing, Accept, Reject, Logout, AbortAccept, AbortReject, Respond, Data, Ready}
use Rattle.reply.specs.Payload.{payload_of}

-- R_CTL, TYPE, F_CTL, SEQ_ID, SEQ_CNT, OX_ID and OFFSET as given; "addresses swapped, .. RX_ID FFFFh, the rest 0"
abbrev pub swapped : Header → ℕ → ℕ → ℕ → ℕ → ℕ → ℕ → ℕ → Header
swapped h rctl protocol fctl seq count ox offset =
    record {
      r_ctl = rctl;
      d_id = h.s_id;
      reserved = 0;
      s_id = h.d_id;
      protocol = protocol;
      f_ctl = fctl;
      seq_id = seq;
      df_ctl = 0;
      seq_cnt = count;
      ox_id = ox;
      rx_id = 0xffff;
      offset = offset;
    }

-- "OX_ID echoed"
unfoldable pub answer_head : Header → ℕ → ℕ → ℕ → ℕ → Header
answer_head h rctl protocol fctl seq = swapped h rctl protocol fctl seq 0 h.ox_id 0

-- "LOGO by the drive, OX_ID = destination address": 22 01, 290000, 00
unfoldable pub logout_head : Header → Header
logout_head h = swapped h 0x22 0x01 0x290000 0x00 0 (h.s_id % 65536) 0

-- "FCP_DATA, last or not": 01 08, 880008, 800008, 01; OFFSET is the byte offset, SEQ_CNT the frame's number
unfoldable pub data_head : Header → DataFrame → ℕ → Header
data_head h d fill = swapped h 0x01 0x08 (cond d.last 0x880008 0x800008 + fill) 0x01 d.count h.ox_id d.offset

-- the table of reply headers; "FCP frames add the fill count to F_CTL"; "FCP_XFER_RDY (R_CTL 05h, F_CTL 890000, ..)" (02, 2)
abbrev pub head_of : Header → Reply → ℕ → Header
head_of h Nothing fill = answer_head h 0x23 0x01 0x990000 0xff
head_of h (Accept a) fill = answer_head h 0x23 0x01 0x990000 0xff
head_of h (Reject r e) fill = answer_head h 0x23 0x01 0x990000 0xff
head_of h Logout fill = logout_head h
head_of h AbortAccept fill = answer_head h 0x84 0x00 0x990000 h.seq_id
head_of h AbortReject fill = answer_head h 0x85 0x00 0x990000 h.seq_id
head_of h (Respond x) fill = answer_head h 0x07 0x08 (0x990000 + fill) 0x00
head_of h (Data d) fill = data_head h d fill
head_of h (Ready offset burst) fill = answer_head h 0x05 0x08 (0x890000 + fill) 0x00

-- "Payloads are filled with zeros to a multiple of 4"
unfoldable pub filled : List ℕ → List ℕ
filled p = p ++ fill_of (length p)

-- nothing is sent
abbrev pub silent : Reply → Bool
silent Nothing = true
silent (Accept a) = false
silent (Reject r e) = false
silent Logout = false
silent AbortAccept = false
silent AbortReject = false
silent (Respond x) = false
silent (Data d) = false
silent (Ready offset burst) = false

-- every byte of a reply
unfoldable pub bytes_of : Own → Header → Reply → List ℕ → List ℕ
bytes_of o h r source = cond (silent r) [] (header_bytes (head_of h r (fill_count (length (payload_of o h r source)))) ++ filled (payload_of o h r source))

-- "the reply stands at the front of the buffer, its length in the answer, later bytes unchanged"; a buffer under 2,136 bytes is left alone
unfoldable pub sent_of : Own → Header → Reply → List ℕ → ℕ → ℕ
sent_of o h r source room = cond (ltb room 2136) 0 (length (bytes_of o h r source))

unfoldable pub written_of : Own → Header → Reply → List ℕ → List ℕ → List ℕ
written_of o h r source l = cond (ltb (length l) 2136) l (onto (bytes_of o h r source) l)
