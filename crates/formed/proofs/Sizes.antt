-- A stored size that passes is at least 256, so a full frame has bytes. Assumes nothing.
use mathlib.Core.Path.{◌≡◌}
use mathlib.Core.Bool.{true, false, not, ◌&&◌, ◌||◌}
use Prim.Native.Nat.{ℕ, ◌%◌, ◌≤◌}
use lib.Dec.{eqb, ltb}
use borrow.Author.Tests.{ltb-false, not-true}
use Rattle.tables.proofs.Bools.{and_left, and_right, or_left}
use Rattle.params.specs.Words.{size_fails, zero_name}
use Rattle.state.specs.declared.Login.{Login}
use Rattle.formed.specs.Formed.{params_fine}

pub size_least : (n : ℕ) → size_fails n ≡ false → 256 ≤ n
unfolding size_fails
size_least n e = ltb-false n 256 (or_left (ltb n 256) (ltb 2112 n) (or_left (ltb n 256 || ltb 2112 n) (not (eqb (n % 4) 0)) e))

pub stored_size : (l : Login) → params_fine l ≡ true → 256 ≤ l.size
unfolding params_fine
stored_size l e =
    let a = not (zero_name l.port_name) in
    let b = not (zero_name l.node_name) in
    let s = not (size_fails l.size) in
    let c = not (eqb l.concurrent 0) in
    let d = not (eqb l.sequences 0) in
    size_least l.size (not-true (size_fails l.size) (and_right (a && b) s (and_left (a && b && s) c (and_left (a && b && s && c) d e))))
