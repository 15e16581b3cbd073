-- The payload of every reply, byte by byte (document 01, "Link services" and "Commands").
use Rattle.std.specs.Prelude.{ℕ, ◌+◌, min, List, [], ◌∷◌, ◌++◌, take, replicate}
use Rattle.wire.specs.Bytes.{bytes, part}
use Rattle.frame.specs.declared.Header.{Header}
use Rattle.state.specs.declared.Own.{Own}
use Rattle.reply.specs.declared.Accepted.{Accepted}
use Rattle.reply.specs.declared.Accepted.TheVariants.{Short, Login, Address, Pair, Unpair}
use Rattle.reply.specs.declared.Residual.{Residual}
use Rattle.reply.specs.declared.Residual.TheVariants.{Exact, Over, Under}
use Rattle.reply.specs.declared.Sense.{Sense}
use Rattle.reply.specs.declared.Response.{Response}
use Rattle.reply.specs.declared.Response.TheVariants.{Code, Status, Check}
use Rattle.reply.specs.declared.Reply.{Reply}
use Rattle.reply.specs.declared.Reply.TheVariants.{Nothing, Accept, Reject, Logout, AbortAccept, AbortReject, Respond, Data, Ready}

-- "ACC of 4 bytes"
unfoldable pub short_bytes : List ℕ
short_bytes = 0x02 ∷ 0x00 ∷ 0x00 ∷ 0x00 ∷ []

-- "ACC is 02 00 00 00 and the setup words"
unfoldable pub login_bytes : List ℕ → List ℕ
login_bytes words = short_bytes ++ words

-- "ADISC ACC: 02 00 00 00, own address, own names, own address"; the names are words 5 to 8 of the setup's
unfoldable pub address_bytes : ℕ → List ℕ → List ℕ
address_bytes own words = short_bytes ++ bytes 4 own ++ part 16 words 16 ++ bytes 4 own

-- PRLI: "ACC 02 10 00 14, 08 00 21 00, two zero words, 00 00 00 12"
unfoldable pub pair_bytes : List ℕ
pair_bytes = 0x02 ∷ 0x10 ∷ 0x00 ∷ 0x14 ∷ 0x08 ∷ 0x00 ∷ 0x21 ∷ 0x00 ∷ replicate 8 0 ++ (0x00 ∷ 0x00 ∷ 0x00 ∷ 0x12 ∷ [])

-- PRLO: "ACC 02 10 00 14, 08 00 01 00, three zero words"
unfoldable pub unpair_bytes : List ℕ
unpair_bytes = 0x02 ∷ 0x10 ∷ 0x00 ∷ 0x14 ∷ 0x08 ∷ 0x00 ∷ 0x01 ∷ 0x00 ∷ replicate 12 0

-- each kind of ACC
abbrev pub accepted_bytes : ℕ → List ℕ → Accepted → List ℕ
accepted_bytes own words Short = short_bytes
accepted_bytes own words Login = login_bytes words
accepted_bytes own words Address = address_bytes own words
accepted_bytes own words Pair = pair_bytes
accepted_bytes own words Unpair = unpair_bytes

-- "LS_RJT is 01 00 00 00, then 00, reason, explanation, 00"
unfoldable pub reject_bytes : ℕ → ℕ → List ℕ
reject_bytes reason explanation = 0x01 ∷ 0x00 ∷ 0x00 ∷ 0x00 ∷ 0x00 ∷ reason ∷ explanation ∷ 0x00 ∷ []

-- "A drive LOGO is 05 00 00 00, own address, own port name"; the port name is words 5 and 6 of the setup's
unfoldable pub logout_bytes : ℕ → List ℕ → List ℕ
logout_bytes own words = 0x05 ∷ 0x00 ∷ 0x00 ∷ 0x00 ∷ bytes 4 own ++ part 8 words 16

-- "BA_ACC 00000000, OX_ID, FFFF, 0000, FFFF"
unfoldable pub abort_accept_bytes : ℕ → List ℕ
abort_accept_bytes ox = bytes 4 0 ++ bytes 2 ox ++ bytes 2 0xffff ++ bytes 2 0 ++ bytes 2 0xffff

-- "BA_RJT 00 03 03 00"
unfoldable pub abort_reject_bytes : List ℕ
abort_reject_bytes = 0x00 ∷ 0x03 ∷ 0x03 ∷ 0x00 ∷ []

-- "above 0 sets flag 04h, below 0 flag 08h"
abbrev pub residual_flag : Residual → ℕ
residual_flag Exact = 0x00
residual_flag (Over n) = 0x04
residual_flag (Under n) = 0x08

-- "FCP_RESID its size"
abbrev pub residual_size : Residual → ℕ
residual_size Exact = 0
residual_size (Over n) = n
residual_size (Under n) = n

-- "bytes 10 flags, 11 status, 12 FCP_RESID, 16 sense length, 20 response length"
unfoldable pub status_bytes : ℕ → ℕ → ℕ → ℕ → ℕ → List ℕ
status_bytes flags status resid sense response = replicate 10 0 ++ (flags ∷ status ∷ bytes 4 resid) ++ bytes 4 sense ++ bytes 4 response

-- "then 8 bytes with the code at 3"
unfoldable pub code_bytes : ℕ → List ℕ
code_bytes code = 0x00 ∷ 0x00 ∷ 0x00 ∷ code ∷ replicate 4 0

-- "70, 00, key, 4 zeros, 0A, code and qualifier at 12, 13": the qualifier is 00 in all that the drive tells
abbrev pub sense_with : ℕ → ℕ → Sense
sense_with key code = record { first = 0x70; key = key; code = code; qualifier = 0x00; information = 0 }

-- "18 sense bytes: 70, 00, key, 4 zeros, 0A, code and qualifier at 12, 13"; the first byte and the 4 that are zero stand in the sense
unfoldable pub sense_bytes : Sense → List ℕ
sense_bytes s = s.first ∷ 0x00 ∷ s.key ∷ bytes 4 s.information ++ (0x0a ∷ replicate 4 0) ++ (s.code ∷ s.qualifier ∷ replicate 4 0)

-- "8 bytes with the code at 3 (flag 01h), or 18 sense bytes (flag 02h, status 02h)"; "RSP_CODE and task answers give 0"
abbrev pub response_bytes : Response → List ℕ
response_bytes (Code c) = status_bytes 0x01 0x00 0 0 8 ++ code_bytes c
response_bytes (Status s r) = status_bytes (residual_flag r) s (residual_size r) 0 0
response_bytes (Check s r) = status_bytes (0x02 + residual_flag r) 0x02 (residual_size r) 18 0 ++ sense_bytes s

-- a data frame's bytes: as many as it says, 2,048 at most
abbrev pub data_bytes : ℕ → List ℕ → List ℕ
data_bytes size source = take (min size 2048) source

-- "FCP_XFER_RDY (.., 12 bytes: offset, burst, zero)" (02, 2)
unfoldable pub ready_bytes : ℕ → ℕ → List ℕ
ready_bytes offset burst = bytes 4 offset ++ bytes 4 burst ++ bytes 4 0

-- the payload of a reply to the frame with header h, its data taken from the source
abbrev pub payload_of : Own → Header → Reply → List ℕ → List ℕ
payload_of o h Nothing source = []
payload_of o h (Accept a) source = accepted_bytes o.address o.accept a
payload_of o h (Reject r e) source = reject_bytes r e
payload_of o h Logout source = logout_bytes o.address o.accept
payload_of o h AbortAccept source = abort_accept_bytes h.ox_id
payload_of o h AbortReject source = abort_reject_bytes
payload_of o h (Respond x) source = response_bytes x
payload_of o h (Data d) source = data_bytes d.size source
payload_of o h (Ready offset burst) source = ready_bytes offset burst
