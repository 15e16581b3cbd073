-- Why a request is rejected (document 01, "Link services").
use Rattle.reply.specs.declared.Reply.{Reply}
use Rattle.reply.specs.declared.Reply.TheVariants as reply
use Rattle.link.specs.declared.rejection.Rejection.{Rejection}
use Rattle.link.specs.declared.rejection.Rejection.TheVariants.{OtherCode, WrongSize, NotSender, OtherPage, NotAsker, StillOpen}

-- "other code 0B,00; wrong size 03,00"; LOGO "W1/B1-3 must equal S_ID, else 03,1F"; PRLI, PRLO "else 09,00"; RRQ "W1/B1-3 not S_ID 03,15; that OX_ID open 03,17"
abbrev pub rejected : Rejection → Reply
rejected OtherCode = reply.Reject 0x0b 0x00
rejected WrongSize = reply.Reject 0x03 0x00
rejected NotSender = reply.Reject 0x03 0x1f
rejected OtherPage = reply.Reject 0x09 0x00
rejected NotAsker = reply.Reject 0x03 0x15
rejected StillOpen = reply.Reject 0x03 0x17
