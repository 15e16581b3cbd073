-- A drive with another port: after the login of a turn is stored, after a turn, and after an event. Assumes nothing.
use mathlib.Core.List.{List}
use Rattle.state.specs.declared.Change.{Change}
use Rattle.state.specs.declared.Port.{Port}
use Rattle.formed.specs.declared.Key.{Key}
use Rattle.calls.specs.declared.Sight.{Sight}
use Rattle.calls.specs.declared.Turn.{Turn}
use Rattle.calls.specs.Turn.{stored_at}
use Rattle.drive.specs.declared.Drive.{Drive}
use Rattle.boundary.specs.Settled.{settled_of, happened_of}

abbrev pub with_port : Drive → Port → Drive
with_port d p = record { unit = d.unit; port = p }

abbrev pub stored : Drive → Turn → Drive
stored d t = with_port d (stored_at t.at t.login d.port)

abbrev pub settled : Drive → List Key → Turn → Drive
settled d ks t = with_port d (settled_of d.port ks t)

abbrev pub happened : Drive → Sight → Change → Drive
happened d s c = with_port d (happened_of d.port s c)
