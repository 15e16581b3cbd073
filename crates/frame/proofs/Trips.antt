-- The two round trips of the header, and what a frame that is too short reads as. Assumes nothing.
use mathlib.Core.Path.{◌≡◌, refl}
use mathlib.Core.List.{List, [], ◌∷◌, ◌++◌}
use Prim.Native.Nat.{ℕ, ◌≤◌}
use native.Mathlib.Nat.{mod-eq_of_lt}
use native.Mathlib.Omega.{arith}
use lib.ListN.{length, take, replicate}
use Rattle.wire.specs.Layout.{AllBytes}
use Rattle.wire.proofs.Digits.{encode_decode, num_bytes, num_zeros}
use Rattle.frame.specs.declared.Header.{Header}
use Rattle.frame.specs.Head.{header_of, header_bytes, Fits}

-- a header is 24 bytes
pub length_header : (h : Header) → length (header_bytes h) ≡ 24
unfolding header_bytes
length_header h = refl

-- the widths of the header's fields
widths : List ℕ
widths = 1 ∷ 3 ∷ 1 ∷ 3 ∷ 1 ∷ 3 ∷ 1 ∷ 1 ∷ 2 ∷ 2 ∷ 2 ∷ 4 ∷ []

-- writing the fields that were read gives the 24 bytes back
pub write_read : (f : List ℕ) → AllBytes f → 24 ≤ length f → header_bytes (header_of f) ≡ take 24 f
unfolding header_bytes header_of widths
write_read f b h =
    rw (mod-eq_of_lt (b 0), mod-eq_of_lt (b 4), mod-eq_of_lt (b 8), mod-eq_of_lt (b 12), mod-eq_of_lt (b 13))
    at (encode_decode widths f 0 b (omega arith))

-- reading the bytes that were written, whatever follows them, gives the fields back
pub read_write : (h : Header) (rest : List ℕ) → Fits h → header_of (header_bytes h ++ rest) ≡ h
unfolding header_bytes header_of
read_write h rest k =
    λ i. record {
      r_ctl = h.r_ctl;
      d_id = num_bytes 3 h.d_id k.d i;
      reserved = h.reserved;
      s_id = num_bytes 3 h.s_id k.s i;
      protocol = h.protocol;
      f_ctl = num_bytes 3 h.f_ctl k.f i;
      seq_id = h.seq_id;
      df_ctl = h.df_ctl;
      seq_cnt = num_bytes 2 h.seq_cnt k.n i;
      ox_id = num_bytes 2 h.ox_id k.o i;
      rx_id = num_bytes 2 h.rx_id k.r i;
      offset = num_bytes 4 h.offset k.p i;
    }

-- a frame that is too short reads as the same frame with zeros after it
pub read_short : (f : List ℕ) (k : ℕ) → header_of (f ++ replicate k 0) ≡ header_of f
unfolding header_of
read_short f k =
    λ i. record {
      r_ctl = num_zeros 1 f k 0 i;
      d_id = num_zeros 3 f k 1 i;
      reserved = num_zeros 1 f k 4 i;
      s_id = num_zeros 3 f k 5 i;
      protocol = num_zeros 1 f k 8 i;
      f_ctl = num_zeros 3 f k 9 i;
      seq_id = num_zeros 1 f k 12 i;
      df_ctl = num_zeros 1 f k 13 i;
      seq_cnt = num_zeros 2 f k 14 i;
      ox_id = num_zeros 2 f k 16 i;
      rx_id = num_zeros 2 f k 18 i;
      offset = num_zeros 4 f k 20 i;
    }
