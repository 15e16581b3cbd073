-- PLOGI's word tests (document 01, "Link services").
use Rattle.std.specs.Prelude.{ℕ, ◌+◌, ◌-◌, ◌*◌, ◌%◌, Bool, true, false, not, ◌&&◌, ◌||◌, List, [], ◌∷◌, eqb, ltb, get_or, Ok, Err, Result, ⊤}
use Rattle.tables.specs.Lists.{all}
use Rattle.tables.specs.Firsts.{first_of}
use Rattle.wire.specs.Bytes.{num, part}
use Rattle.params.specs.declared.Params.{Params}
use Rattle.params.specs.declared.Fault.{Fault}
use Rattle.params.specs.declared.Fault.TheVariants.{BufferSize, PortName, NodeName, ClassThree, DataSize, ConcurrentSequences, OpenSequences}
use Rattle.params.specs.declared.Reason.{Reason}

-- "W and B are word and byte of the payload": the place of byte b of word w, where word 1 starts at word1
abbrev pub place : ℕ → ℕ → ℕ → ℕ
place word1 w b = word1 + (4 * w + b - 4)

-- the fields that the tests name: "W2/B2-3 low 12 bits", "port name W5-6", "node name W7-8", "W17", "W18/B2-3 low 12 bits", "W19/B1", "W20/B1"
unfoldable pub params_of : List ℕ → ℕ → Params
params_of s word1 =
    record {
      buffer = num 2 s (place word1 2 2) % 4096;
      port_name = part 8 s (place word1 5 0);
      node_name = part 8 s (place word1 7 0);
      class3 = get_or s (place word1 17 0) 0;
      size = num 2 s (place word1 18 2) % 4096;
      concurrent = get_or s (place word1 19 1) 0;
      sequences = get_or s (place word1 20 1) 0;
    }

-- "from 256 to 2,112 and a multiple of 4", else it fails
unfoldable pub size_fails : ℕ → Bool
size_fails n = ltb n 256 || ltb 2112 n || not (eqb (n % 4) 0)

-- the same of a size that is to be from a least to a most
abbrev pub misfits : ℕ → ℕ → ℕ → Bool
misfits n least most = ltb n least || ltb most n || not (eqb (n % 4) 0)

-- "not zero", else it fails: every byte of the name is 0
unfoldable pub zero_name : List ℕ → Bool
zero_name name = all (λ b. eqb b 0) name

-- whether the test of this field fails
abbrev pub fails : Params → Fault → Bool
fails p BufferSize = size_fails p.buffer
fails p PortName = zero_name p.port_name
fails p NodeName = zero_name p.node_name
fails p ClassThree = ltb p.class3 128
fails p DataSize = size_fails p.size
fails p ConcurrentSequences = eqb p.concurrent 0
fails p OpenSequences = eqb p.sequences 0

-- "Tests in word order"
abbrev pub faults : List Fault
faults = BufferSize ∷ PortName ∷ NodeName ∷ ClassThree ∷ DataSize ∷ ConcurrentSequences ∷ OpenSequences ∷ []

-- rejected by the first test that fails, accepted where none does
unfoldable pub verdict_of : Params → Result ⊤ Fault
verdict_of p = first_of (fails p) faults Err (Ok tt)

abbrev pub accepts : Result ⊤ Fault → Bool
accepts (Ok tt) = true
accepts (Err f) = false

-- "which must pass the PLOGI rules below with W20/B1 = 01h"
unfoldable pub setup_passes : Params → Bool
setup_passes p = accepts (verdict_of p) && eqb p.sequences 1

abbrev pub rejection : ℕ → ℕ → Reason
rejection r e = record { reason = r; explanation = e }

-- "else 03,0F", "else 03,0D", "else 03,0E", "else 03,01", "else 03,07", "else 03,09", "else 03,01"
abbrev pub reason_of : Fault → Reason
reason_of BufferSize = rejection 0x03 0x0f
reason_of PortName = rejection 0x03 0x0d
reason_of NodeName = rejection 0x03 0x0e
reason_of ClassThree = rejection 0x03 0x01
reason_of DataSize = rejection 0x03 0x07
reason_of ConcurrentSequences = rejection 0x03 0x09
reason_of OpenSequences = rejection 0x03 0x01
