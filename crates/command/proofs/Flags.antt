-- The bytes of task flags that are answered with RSP_CODE 02 are those of document 01: a flag of 01h, 08h, 10h, or two flags. Assumes nothing.
use mathlib.Core.Path.{◌≡◌, refl, sym, ◌∙◌}
use mathlib.Core.Bool.{Bool, true, not, ◌||◌}
use Prim.Native.Nat.{ℕ, ◌+◌, ◌/◌, ◌%◌, ◌<◌}
use lib.Dec.{eqb, leb}
use borrow.Author.Tests.{not-true}
use Rattle.tables.proofs.Bools.{or_left, or_right}
use Rattle.tables.proofs.Below.{agree}
use Rattle.std.specs.Prelude.{Err}
use Rattle.command.specs.declared.CmndFault.TheVariants.{Fields}
use Rattle.command.specs.Cmnd.{code_of, task_for}

-- a flag of a byte, 1 where it is set, and how many are
abbrev pub flag : ℕ → ℕ → ℕ
flag n t = t / n % 2

abbrev pub flags : ℕ → ℕ
flags t = flag 1 t + flag 2 t + flag 4 t + flag 8 t + flag 16 t + flag 32 t + flag 64 t + flag 128 t

-- "a task flag of 01h, 08h, 10h, or two flags"
abbrev pub wrong_task : ℕ → Bool
wrong_task t = eqb (flag 0x01 t) 1 || eqb (flag 0x08 t) 1 || eqb (flag 0x10 t) 1 || leb 2 (flags t)

-- no flag, or one that has a meaning
abbrev pub known_task : ℕ → Bool
known_task t = eqb t 0x00 || eqb t 0x80 || eqb t 0x40 || eqb t 0x20 || eqb t 0x04 || eqb t 0x02

-- every other byte has a meaning
pub tasks_are : (t : ℕ) → t < 256 → wrong_task t ≡ not (known_task t)
tasks_are = agree wrong_task (λ t. not (known_task t)) 256 refl

-- and these are answered with 02
pub wrong_tasks : (t lun from : ℕ) → t < 256 → wrong_task t ≡ true → (task_for t lun from ≡ Err Fields) × (code_of Fields ≡ 0x02)
unfolding task_for
wrong_tasks t lun from h w =
    let none = eqb t 0x00 in
    let a = eqb t 0x80 in
    let b = eqb t 0x40 in
    let c = eqb t 0x20 in
    let d = eqb t 0x04 in
    let e = eqb t 0x02 in
    let n₅ = not-true (known_task t) (sym (tasks_are t h) ∙ w) in
    let n₄ = or_left (none || a || b || c || d) e n₅ in
    let n₃ = or_left (none || a || b || c) d n₄ in
    let n₂ = or_left (none || a || b) c n₃ in
    let n₁ = or_left (none || a) b n₂ in
    (rw (or_left none a n₁, or_right none a n₁, or_right (none || a) b n₂, or_right (none || a || b) c n₃, or_right (none || a || b || c) d n₄, or_right (none || a || b || c || d) e n₅), refl)
