-- A login record as a PLOGI on the wire, and what is sent for its judgement: what ties the program judges to the drive.
use Rattle.std.specs.Prelude.{List, ◌++◌, ℕ}
use Rattle.frame.specs.declared.Header.{Header}
use Rattle.frame.specs.Head.{header_bytes}
use Rattle.params.specs.Words.{reason_of}
use Rattle.reply.specs.declared.Reply.{Reply}
use Rattle.reply.specs.declared.Reply.TheVariants as reply
use Rattle.reply.specs.declared.Accepted.TheVariants as accepted
use Rattle.judging.specs.declared.Judgement.{Judgement}
use Rattle.judging.specs.declared.Judgement.TheVariants as judgement

-- the header of a PLOGI from an address to another: a request (22h, 01h) as an originator sends it, with RX_ID FFFFh
abbrev pub plogi_header : ℕ → ℕ → ℕ → Header
plogi_header from to ox =
    record {
      r_ctl = 0x22;
      d_id = to;
      reserved = 0;
      s_id = from;
      protocol = 0x01;
      f_ctl = 0x290000;
      seq_id = 0;
      df_ctl = 0;
      seq_cnt = 0;
      ox_id = ox;
      rx_id = 0xffff;
      offset = 0;
    }

-- a PLOGI with this payload: the 24 bytes of the header, and the payload
abbrev pub plogi_frame : ℕ → ℕ → ℕ → List ℕ → List ℕ
plogi_frame from to ox s = header_bytes (plogi_header from to ox) ++ s

-- what is sent for a judgement: "ACC", "LS_RJT" with reason and explanation
abbrev pub reply_for : Judgement → Reply
reply_for judgement.Accept = reply.Accept accepted.Login
reply_for (judgement.Reject t) = reply.Reject (reason_of t).reason (reason_of t).explanation
reply_for judgement.NotPlogi = reply.Nothing
reply_for (judgement.Short n) = reply.Nothing
