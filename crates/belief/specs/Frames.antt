-- The frames of the histories of `Histories.antt`, `Marked.antt` and `Written.antt`, as they arrive: of the host, whose address is 01h, and of another port, whose address is 02h.
use Rattle.std.specs.Prelude.{ℕ, ◌≡◌, refl, true, List, [], ◌∷◌, ◌++◌, ltb, length, get_or, replicate}
use Rattle.std.proofs.Math.Decide.{dec_le}
use Rattle.std.proofs.Common.{arith, ltb-true}
use Rattle.std.proofs.Math.ListN.{get_or-eq_default}
use Rattle.tables.specs.Lists.{all}
use Rattle.tables.proofs.Keeping.{all_at}
use Rattle.wire.specs.Bytes.{bytes, name_of}
use Rattle.wire.specs.Layout.{AllBytes}
use Rattle.frame.specs.Head.{header_of, header_bytes}
use Rattle.params.specs.Words.{params_of}
use Rattle.link.specs.Record.{Kept, kept_from}
use Rattle.demands.specs.Numbers as numbers
use Rattle.belief.specs.Host as host
use Rattle.belief.specs.Wire.{FromHost, ForHost, Others, frame, elsewhere}

-- elements that are bytes, by one test
pub bytes_known : (s : List ℕ) → all (λ b. ltb b 256) s ≡ true → AllBytes s
bytes_known s t j =
    elim (dec_le (length s) j) [
      | yes l ↦ (let e = get_or-eq_default s 0 l in omega arith)
      | no l ↦ ltb-true (get_or s j 0) 256 (all_at (λ b. ltb b 256) 0 s j (omega arith) t)
    ]

-- the names and parameters that the host of address 01h sends
abbrev pub sent_kept : Kept
sent_kept = kept_from (params_of (numbers.plogi 0x01 2048) 28)

-- its port name
abbrev pub host_name : ℕ
host_name = name_of sent_kept.port_name

-- what the port lends with each frame
abbrev pub buffer : List ℕ
buffer = replicate 2136 0x5a

-- the host's PLOGI
unfoldable pub logs_in : FromHost 0x01 host_name
unfolding header_of header_bytes
logs_in =
    record {
      request = host.plogi sent_kept;
      bytes = numbers.plogi 0x01 2048;
      start = 0;
      window = [];
      buffer = buffer;
      known = bytes_known (numbers.plogi 0x01 2048) refl;
      makes = (record { form = record { routing = refl; source = refl }; coded = refl; sized = refl }, refl);
      named = refl;
    }

-- its PRLI
unfoldable pub pairs : FromHost 0x01 host_name
unfolding header_of header_bytes
pairs =
    record {
      request = host.prli;
      bytes = numbers.prli 0x01;
      start = 0;
      window = [];
      buffer = buffer;
      known = bytes_known (numbers.prli 0x01) refl;
      makes = record { form = record { routing = refl; source = refl }; coded = refl; sized = refl };
      named = tt;
    }

-- its TEST UNIT READY
unfoldable pub asks : FromHost 0x01 host_name
unfolding header_of header_bytes
asks =
    record {
      request = host.command;
      bytes = numbers.ready 0x01;
      start = 0;
      window = [];
      buffer = buffer;
      known = bytes_known (numbers.ready 0x01) refl;
      makes = record { routing = refl; source = refl };
      named = tt;
    }

-- its PDISC, with the parameters of the login
abbrev pub pdisc : List ℕ
pdisc = numbers.frame 0x22 0x01 0x01 5 (0x50 ∷ 0x00 ∷ 0x00 ∷ 0x00 ∷ numbers.words 0x01 2048)

unfoldable pub verifies : FromHost 0x01 host_name
unfolding header_of header_bytes params_of
verifies =
    record {
      request = host.pdisc sent_kept;
      bytes = pdisc;
      start = 0;
      window = [];
      buffer = buffer;
      known = bytes_known pdisc refl;
      makes = (record { form = record { routing = refl; source = refl }; coded = refl; sized = refl }, refl);
      named = tt;
    }

-- its READ of the first block
unfoldable pub reads : FromHost 0x01 host_name
unfolding header_of header_bytes
reads =
    record {
      request = host.command;
      bytes = numbers.read 0x01 0x0004 0 1 512;
      start = 0;
      window = [];
      buffer = buffer;
      known = bytes_known (numbers.read 0x01 0x0004 0 1 512) refl;
      makes = record { routing = refl; source = refl };
      named = tt;
    }

-- the READ's next frame, from a window that has the block
abbrev pub its_frame : ForHost
its_frame = record { ox = 0x0004; start = 0; window = replicate 512 0xa5; buffer = buffer }

-- its WRITE of the first block: CDB code 2Ah, the write bit set
abbrev pub writing : List ℕ
writing = numbers.frame 0x06 0x08 0x01 0x0005 (replicate 11 0 ++ (0x01 ∷ 0x2a ∷ 0x00 ∷ bytes 4 0) ++ (0x00 ∷ bytes 2 1) ++ replicate 7 0 ++ bytes 4 512)

unfoldable pub writes : FromHost 0x01 host_name
unfolding header_of header_bytes
writes =
    record {
      request = host.command;
      bytes = writing;
      start = 0;
      window = [];
      buffer = buffer;
      known = bytes_known writing refl;
      makes = record { routing = refl; source = refl };
      named = tt;
    }

-- the block that it writes, at offset 0, with a window for it
abbrev pub block : List ℕ
block = numbers.frame 0x01 0x08 0x01 0x0005 (replicate 512 0xa5)

unfoldable pub gives : FromHost 0x01 host_name
unfolding header_of header_bytes
gives =
    record {
      request = host.fcp_data;
      bytes = block;
      start = 0;
      window = replicate 512 0x00;
      buffer = buffer;
      known = bytes_known block refl;
      makes = record { routing = refl; source = refl };
      named = tt;
    }

-- the WRITE's next frame, which takes no window's bytes
abbrev pub its_word : ForHost
its_word = record { ox = 0x0005; start = 0; window = []; buffer = buffer }

-- another port sends a command without a login, and is answered with a LOGO
unfoldable pub stranger_asks : Others 0x01 host_name
unfolding header_of header_bytes
stranger_asks = frame (numbers.ready 0x02) 0 [] buffer (bytes_known (numbers.ready 0x02) refl) (λ e. let z : ◌≡◌ {A = ℕ} 2 1 = e in omega arith) (λ m. let z : ◌≡◌ {A = ℕ} 0x06 0x22 = m.0.form.routing in omega arith)

-- and logs in
unfoldable pub stranger_logs_in : Others 0x01 host_name
unfolding header_of header_bytes params_of name_of
stranger_logs_in =
    frame (numbers.plogi 0x02 2048) 0 [] buffer (bytes_known (numbers.plogi 0x02 2048) refl) (λ e. let z : ◌≡◌ {A = ℕ} 2 1 = e in omega arith)
    (λ m. let z : ◌≡◌ {A = ℕ} 0x5a5a5a5a5a5a5a02 0x5a5a5a5a5a5a5a01 = m.1 in omega arith)

-- the PLOGI of an address with the names of another
abbrev pub login_as : ℕ → ℕ → List ℕ
login_as from named = numbers.frame 0x22 0x01 from 1 (0x03 ∷ 0x00 ∷ 0x00 ∷ 0x00 ∷ numbers.words named 2048)

-- the host's own frame to that port
abbrev pub host_to_stranger : Others 0x01 host_name
host_to_stranger = elsewhere (0x22 ∷ bytes 3 0x02 ++ (0x00 ∷ bytes 3 0x01) ++ replicate 16 0) 0 [] buffer
