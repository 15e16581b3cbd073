-- The frame header of document 01: 24 bytes.
use Rattle.std.specs.Prelude.{ℕ, ◌<◌, ◌^◌, List, ◌∷◌, ◌++◌, get_or}
use Rattle.wire.specs.Bytes.{num, bytes}
use Rattle.frame.specs.declared.Header.{Header}

-- "24 bytes: R_CTL, D_ID(3), reserved, S_ID(3), TYPE, F_CTL(3), SEQ_ID, DF_CTL, SEQ_CNT(2), OX_ID(2), RX_ID(2), OFFSET(4). The reserved byte is kept on reading."
unfoldable pub header_of : List ℕ → Header
header_of f =
    record {
      r_ctl = get_or f 0 0;
      d_id = num 3 f 1;
      reserved = get_or f 4 0;
      s_id = num 3 f 5;
      protocol = get_or f 8 0;
      f_ctl = num 3 f 9;
      seq_id = get_or f 12 0;
      df_ctl = get_or f 13 0;
      seq_cnt = num 2 f 14;
      ox_id = num 2 f 16;
      rx_id = num 2 f 18;
      offset = num 4 f 20;
    }

-- the same 24 bytes, written from the fields
unfoldable pub header_bytes : Header → List ℕ
header_bytes h =
    h.r_ctl ∷ bytes 3 h.d_id
    ++ (h.reserved ∷ bytes 3 h.s_id)
    ++ (h.protocol ∷ bytes 3 h.f_ctl)
    ++ (h.seq_id ∷ h.df_ctl ∷ bytes 2 h.seq_cnt)
    ++ bytes 2 h.ox_id
    ++ bytes 2 h.rx_id
    ++ bytes 4 h.offset

-- each field fits the bytes that it has
pub record Fits (h : Header) : Type 0 where
  pub d : h.d_id < 256 ^ 3
  pub s : h.s_id < 256 ^ 3
  pub f : h.f_ctl < 256 ^ 3
  pub n : h.seq_cnt < 256 ^ 2
  pub o : h.ox_id < 256 ^ 2
  pub r : h.rx_id < 256 ^ 2
  pub p : h.offset < 256 ^ 4
