-- A port login that reaches the link services: the bytes of its two answers, and when each of them stands in the lent buffer (document 01, "Header and reply headers" and "Link services"),
-- and what it does to the logins of other addresses (document 02, request 1).
use Rattle.std.specs.Prelude.{◌≡◌, true, false, ◌⊎◌, List, [], ◌∷◌, ◌++◌, ℕ, length, take, drop, get_or, Ok}
use Rattle.tables.specs.Firsts.{NoneOf}
use Rattle.frame.specs.declared.Header.{Header}
use Rattle.frame.specs.Head.{header_of, header_bytes}
use Rattle.params.specs.Words.{params_of}
use Rattle.state.specs.Changes.{empty_login, has_name, with_login}
use Rattle.state.specs.Tables.{login_of}
use Rattle.refusal.specs.Refusal.{frame_order}
use Rattle.link.specs.Link.{new_login}
use Rattle.link.specs.Login.{named_in, host_gone, left_by, Accepts, Rejects}
use Rattle.link.specs.Record.{out, held, kept_from, record_of}
use Rattle.drive.specs.declared.Drive.{Drive}
use Rattle.drive.specs.Entry.{applies, frame_in, frame_in_buffer}

-- a PLOGI that is not refused: none of 1 to 7 applies to the frame f, with the buffer l lent, and it is a link request (R_CTL 22h) of code "PLOGI 03h"
pub record LoginIn (d : Drive) (f : List ℕ) (start : ℕ) (W l : List ℕ) : Type 0 where
  pub passed : NoneOf (applies d f start (length W) (length l)) frame_order
  pub link : (header_of f).r_ctl ≡ 0x22
  pub plogi : get_or f 24 0 ≡ 3

-- "the reply stands at the front of the buffer": l begins with the bytes bs
abbrev pub Begins : List ℕ → List ℕ → Type 0
Begins bs l = take (length bs) l ≡ bs

-- "Replies: addresses swapped, OX_ID echoed, RX_ID FFFFh, the rest 0 but for: .. ACC, LS_RJT | 23 01 | 990000 | FF"; the drive's own address is S_ID
abbrev pub login_header : Drive → List ℕ → Header
login_header d f =
    record {
      r_ctl = 0x23;
      d_id = (header_of f).s_id;
      reserved = 0;
      s_id = d.port.address;
      protocol = 0x01;
      f_ctl = 0x990000;
      seq_id = 0xff;
      df_ctl = 0;
      seq_cnt = 0;
      ox_id = (header_of f).ox_id;
      rx_id = 0xffff;
      offset = 0;
    }

-- "ACC is 02 00 00 00 and the setup words"
abbrev pub acc_bytes : Drive → List ℕ → List ℕ
acc_bytes d f = header_bytes (login_header d f) ++ (0x02 ∷ 0x00 ∷ 0x00 ∷ 0x00 ∷ d.port.accept)

-- "LS_RJT is 01 00 00 00, then 00, reason, explanation, 00"
abbrev pub rjt_bytes : Drive → List ℕ → ℕ → ℕ → List ℕ
rjt_bytes d f r x = header_bytes (login_header d f) ++ (0x01 ∷ 0x00 ∷ 0x00 ∷ 0x00 ∷ 0x00 ∷ r ∷ x ∷ 0x00 ∷ [])

-- what becomes of the PLOGI f at the drive d, where the buffer l is lent; "its length .. in the answer, later bytes unchanged"
pub record PortLogin (d : Drive) (f : List ℕ) (start : ℕ) (W l : List ℕ) : Type 0 where
  -- "Accepted: the lowest free place keeps address, names, W18 size, W19/B1, W20/B1, proven, unpaired, attention 29h", once the sender's login has ended and that of its port name; ACC is sent, of 140 bytes
  pub accepts : (a : Accepts d.port (header_of f) f)
      → Begins (acc_bytes d f) (frame_in_buffer d f start W l)
      × (drop 140 (frame_in_buffer d f start W l) ≡ drop 140 l)
      × (frame_in d f start W (length l) ≡ record { said = Ok 140; drive = record { unit = d.unit; port = with_login (host_gone d.port (header_of f) f) a.place (new_login (header_of f).s_id (params_of f 28)) } })
  -- "(demand 2's exactly-when)": ACC stands in the buffer only so
  pub accepts_only : Begins (acc_bytes d f) (frame_in_buffer d f start W l) → Accepts d.port (header_of f) f
  -- "Of right size, it ends the sender's login and exchanges first, accepted or not": where a word test fails, and no other's; of wrong size, and where no place is free, nothing changes (`left_by`);
  -- LS_RJT with this reason and explanation is sent, of 32 bytes
  pub rejects : (r x : ℕ) → Rejects d.port (header_of f) f r x
      → Begins (rjt_bytes d f r x) (frame_in_buffer d f start W l)
      × (drop 32 (frame_in_buffer d f start W l) ≡ drop 32 l)
      × (frame_in d f start W (length l) ≡ record { said = Ok 32; drive = record { unit = d.unit; port = left_by d.port (header_of f) f } })
  -- and LS_RJT with this reason and explanation only so
  pub rejects_only : (r x : ℕ) → Begins (rjt_bytes d f r x) (frame_in_buffer d f start W l) → Rejects d.port (header_of f) f r x
  -- "accepted or not": always one of the two
  pub no_third : Accepts d.port (header_of f) f ⊎ ((r : ℕ) × (x : ℕ) × Rejects d.port (header_of f) f r x)

-- what becomes of the logins of other addresses, b, by the PLOGI f at the drive d, where the buffer l is lent
pub record HostMoved (d : Drive) (f : List ℕ) (start : ℕ) (W l : List ℕ) (b : ℕ) : Type 0 where
  -- accepted, the sender's record is held, in the parameters sent
  pub moved_in : Accepts d.port (header_of f) f → record_of (frame_in d f start W (length l)).drive.port (header_of f).s_id ≡ held false true (kept_from (params_of f 28))
  -- and where b's login has its port name, it "ends .. and its exchanges": no login of b is left, and b's record is out
  pub moved_out : Accepts d.port (header_of f) f → has_name (named_in f) (login_of d.port b) ≡ true
      → (login_of (frame_in d f start W (length l)).drive.port b ≡ empty_login) × (record_of (frame_in d f start W (length l)).drive.port b ≡ out)
  -- where it has another, it stays as it was, exchanges and attention too
  pub others_stay : Accepts d.port (header_of f) f → has_name (named_in f) (login_of d.port b) ≡ false → login_of (frame_in d f start W (length l)).drive.port b ≡ login_of d.port b
  -- where b's login has its port name, the room test cannot fail: there is no 09,29
  pub moved_room : has_name (named_in f) (login_of d.port b) ≡ true → Rejects d.port (header_of f) f 0x09 0x29 → ⊥
  -- after a 09,29 nothing of the drive changed
  pub full_nothing : Rejects d.port (header_of f) f 0x09 0x29 → (frame_in d f start W (length l)).drive ≡ d
  -- rejected for whatever reason, b's login stays as it was
  pub rejected_alone : (r x : ℕ) → Rejects d.port (header_of f) f r x → login_of (frame_in d f start W (length l)).drive.port b ≡ login_of d.port b
