-- The loop of `formed::login_keys`: the key of each login before i is stored. Assumes nothing.
use Rattle.tables.proofs.Loops.{Filled}
use Rattle.state.specs.Changes.{no_login}
use Rattle.formed.specs.Keys.{login_key, keys_of}
use Rattle.formed.proofs.login_keys.Given as goal

abbrev pub invariant-loop-i : goal.invariant-loop-i
invariant-loop-i l = Filled no_login (login_key l.fn.u l.fn.p.address) (keys_of l.fn.u l.fn.p) l.keys l.fn.p.logins 8 l.i
