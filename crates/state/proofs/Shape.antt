-- What owning a port or a login tells of the lengths of its tables. Assumes nothing.
use Rattle.std.proofs.Common.{◌≡◌, List, length}
use mir.Val.{Val}
use denote.Shadow.{shadow}
use Rattle.state.specs.declared.Login.{Login}
use Rattle.state.specs.declared.Port.{Port}
use Rattle.state.specs.contracts.Login as login
use Rattle.state.specs.contracts.Port as port

pub logins_8 : (p : Port) (vs : List Val) → shadow ((port.the_row).own_val p vs) → length p.logins ≡ 8
logins_8 p vs g = g.1.1.1.1.0.1.0.1

pub places_8 : (l : Login) (vs : List Val) → shadow ((login.the_row).own_val l vs) → length l.places ≡ 8
places_8 l vs g = g.1.1.1.1.1.1.1.1.1.1.1.1.0.1.0.1
