-- The drive's login record for an address, as a host's belief is compared with it (document 01, "The host's rules").
use Rattle.std.specs.Prelude.{ℕ, Bool, true, false, List, eqb}
use Rattle.tables.specs.Lists.{on_found}
use Rattle.params.specs.declared.Params.{Params}
use Rattle.state.specs.declared.Login.{Login}
use Rattle.state.specs.declared.Port.{Port}
use Rattle.state.specs.Changes.{login_at}
use Rattle.state.specs.Tables.{find_login}

-- "names and parameters sent", as the drive stores them
pub record Kept : Type 0 where
  pub port_name : List ℕ
  pub node_name : List ℕ
  pub size : ℕ
  pub concurrent : ℕ
  pub sequences : ℕ

-- "out, in, paired (in or paired perhaps to verify)"; "to verify means unproven"; "without attention and exchanges"
pub data Record : Type 0 where
  out : Record
  held : (paired proven : Bool) (kept : Kept) → Record

abbrev pub kept_of : Login → Kept
kept_of l = record { port_name = l.port_name; node_name = l.node_name; size = l.size; concurrent = l.concurrent; sequences = l.sequences }

-- what an accepted PLOGI with these parameters keeps
abbrev pub kept_from : Params → Kept
kept_from q = record { port_name = q.port_name; node_name = q.node_name; size = q.size; concurrent = q.concurrent; sequences = q.sequences }

abbrev pub record_at : Login → Record
record_at l = held (eqb l.paired 1) (eqb l.proven 1) (kept_of l)

-- the record for an address
unfoldable pub record_of : Port → ℕ → Record
record_of p a = on_found (find_login p a) (λ i. record_at (login_at p i)) out

-- what a service makes of a record
abbrev pub proved : Record → Record
proved out = out
proved (held p v k) = held p true k

abbrev pub paired : Record → Record
paired out = out
paired (held p v k) = held true v k

abbrev pub unpaired : Record → Record
unpaired out = out
unpaired (held p v k) = held false v k

-- what "loop reset marks every login unproven" makes of a record
abbrev pub doubted : Record → Record
doubted out = out
doubted (held p v k) = held p false k
