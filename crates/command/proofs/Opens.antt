-- The exchange that a command opens is fine: the tests let only such through, and nothing is sent yet. Assumes nothing.
use Rattle.std.specs.Prelude.{⊤}
use mathlib.Core.Path.{◌≡◌, refl}
use mathlib.Core.Bool.{Bool, true, false, cond, not, ◌&&◌, ◌||◌}
use Prim.Native.Nat.{ℕ, ◌+◌, ◌*◌, ◌%◌, ◌≤◌, ◌<◌, min}
use native.Mathlib.Nat.{mod-eq_of_lt, div-eq_of_lt}
use native.Mathlib.Omega.{arith}
use lib.Dec.{eqb, leb, ltb}
use borrow.Author.Tests.{le-leb, lt-ltb, leb-false, ltb-false, eq-eqb, not-false}
use Rattle.tables.proofs.Bools.{and_both, or_left, or_right}
use Rattle.state.specs.declared.Exchange.{Exchange}
use Rattle.state.specs.declared.Unit.{Unit}
use Rattle.state.specs.Kinds.{kind_free, kind_blocks, kind_inquiry, kind_inquiry_other, kind_capacity, kind_sense_none, kind_sense_reset, kind_sense_cleared, kind_sense_other, to_host, from_host, is_write}
use Rattle.formed.specs.Formed.{total, frames_of, blocks_fit, made_fits, wanted_fits, direction_fits, openable, sent_fits, taken_fits, moved_fits}
use Rattle.formed.proofs.Taking.{burst, taken_whole}
use Rattle.calls.proofs.Decisions.{on_cond}
use Rattle.command.specs.declared.Range.{Range}
use Rattle.command.specs.declared.Operation.{Operation}
use Rattle.command.specs.declared.Operation.TheVariants.{TestUnitReady, RequestSense, Inquiry, ReadCapacity, Read, Write, Unknown}
use Rattle.command.specs.Tests.{protected, beyond, outside, sense_kind, inquiry_kind, fresh, exchange_for}

-- a count of blocks that two bytes can tell
abbrev pub Countable : Operation → Type 0
Countable (Read r) = r.blocks ≤ 65535
Countable (Write r) = r.blocks ≤ 65535
Countable o = ⊤

-- an exchange of this OX_ID of which nothing is sent, and no data are awaited
pub record New (ox : ℕ) (e : Exchange) : Type 0 where
  pub id : e.ox_id ≡ ox
  pub sent : e.sent ≡ 0
  pub count : e.count ≡ 0
  pub awaited : e.awaited ≡ 0

new_fresh : (ox expected direction kind wanted start blocks : ℕ) → New ox (fresh ox expected direction kind wanted start blocks)
new_fresh ox expected direction kind wanted start blocks = record { id = refl; sent = refl; count = refl; awaited = refl }

-- nothing is sent
sent_none : (full : ℕ) (e : Exchange) → 0 < full → e.sent ≡ 0 → e.count ≡ 0 → sent_fits full e ≡ true
unfolding sent_fits
sent_none full e pos s n =
    let m : 0 % full ≡ 0 = mod-eq_of_lt pos in
    let d : frames_of 0 full ≡ 0 = div-eq_of_lt (omega arith) in
    rw (s, n, le-leb 0 (total e) (omega arith), m, d) (either (leb (total e) 0))
  where
    either : (b : Bool) → ((b || true) && true) ≡ true
    either true = refl
    either false = refl

-- nothing is taken: a whole number of bursts, none of them
taken_none : {ox : ℕ} (e : Exchange) → New ox e → taken_fits e ≡ true
taken_none e new = taken_whole e record { within = let s = new.sent in omega arith; awaits = burst new.awaited (let s = new.sent in omega arith); uncounted = new.count }

-- so it fits, whichever way its data go
pub moved_none : {ox : ℕ} (full : ℕ) (e : Exchange) → 0 < full → New ox e → moved_fits full e ≡ true
unfolding moved_fits
moved_none full e pos new =
    on_cond (λ (b : Bool). b ≡ true) (is_write e) (taken_none e new) (and_both (eq-eqb e.awaited 0 new.awaited) (sent_none full e pos new.sent new.count))

module _ (u : Unit) where
  -- an exchange with bytes to send or to take is one an accepted command could open
  Opens : Exchange → Type 0
  Opens e = (total e ≡ 0 → ⊥) → openable u e ≡ true

  module _ (ox expected : ℕ) where
    -- a kind that asks for 1 to `most` bytes
    small_opens : (kind wanted most : ℕ) → wanted ≤ most → wanted_fits u (fresh ox expected to_host kind wanted 0 0) ≡ (leb 1 wanted && leb wanted most) → Opens (fresh ox expected to_host kind wanted 0 0)
    unfolding Opens direction_fits
    small_opens kind wanted most h e n = rw (le-leb 1 expected (omega arith), e, le-leb 1 wanted (omega arith), le-leb wanted most h)

    sense_fits : (b a r : Bool) (w : ℕ) → wanted_fits u (fresh ox expected to_host (cond b kind_sense_other (cond a kind_sense_none (cond r kind_sense_reset kind_sense_cleared))) w 0 0) ≡ (leb 1 w && leb w 18)
    unfolding wanted_fits made_fits
    sense_fits true a r w = refl
    sense_fits false true r w = refl
    sense_fits false false true w = refl
    sense_fits false false false w = refl

    inquiry_fits : (b : Bool) (w : ℕ) → wanted_fits u (fresh ox expected to_host (cond b kind_inquiry kind_inquiry_other) w 0 0) ≡ (leb 1 w && leb w 36)
    unfolding wanted_fits made_fits
    inquiry_fits true w = refl
    inquiry_fits false w = refl

    capacity_opens : Opens (fresh ox expected to_host kind_capacity 8 0 0)
    unfolding Opens wanted_fits made_fits direction_fits
    capacity_opens n = rw (le-leb 1 expected (omega arith))

    -- READ and WRITE
    abbrev blocks_of : ℕ → Range → Exchange
    blocks_of direction r = fresh ox expected direction kind_blocks (512 * r.blocks) r.start r.blocks

    read_goes : (r : Range) → direction_fits u (blocks_of to_host r) ≡ true
    unfolding direction_fits
    read_goes r = refl

    -- test 5 lets a WRITE only onto a unit that may be written
    write_goes : (r : Range) → protected u (Write r) ≡ false → direction_fits u (blocks_of from_host r) ≡ true
    unfolding direction_fits protected
    write_goes r allowed = not-false (eqb u.writable 1) allowed

    -- test 7 lets only blocks of the unit through
    blocks_opens : (direction : ℕ) (r : Range) → r.blocks ≤ 65535 → beyond u r ≡ false → direction_fits u (blocks_of direction r) ≡ true → Opens (blocks_of direction r)
    unfolding Opens wanted_fits blocks_fit beyond
    blocks_opens direction r few within goes n =
        let a = leb u.capacity r.start in
        let b = ltb u.capacity (r.start + r.blocks) in
        let below = leb-false u.capacity r.start (or_left a b within) in
        let inside = ltb-false u.capacity (r.start + r.blocks) (or_right a b within) in
        rw (le-leb 1 expected (omega arith), le-leb 1 r.blocks (omega arith), le-leb r.blocks 65535 few, eq-eqb (512 * r.blocks) (512 * r.blocks) refl, lt-ltb r.start u.capacity below, le-leb (r.start + r.blocks) u.capacity inside, goes)

    nothing_opens : Opens (fresh ox expected to_host kind_free 0 0 0)
    unfolding Opens
    nothing_opens n = absurd (n (omega arith))

  -- whatever the command, where tests 5 and 7 let it through
  pub wants_opens : (o : Operation) (attention ox lun expected : ℕ) → Countable o → protected u o ≡ false → outside u o ≡ false
      → (total (exchange_for o attention ox lun expected) ≡ 0 → ⊥) → openable u (exchange_for o attention ox lun expected) ≡ true
  unfolding Opens sense_kind inquiry_kind
  wants_opens TestUnitReady attention ox lun expected few allowed within = nothing_opens ox expected
  wants_opens (RequestSense most) attention ox lun expected few allowed within =
      small_opens ox expected _ (min 18 most) 18 (omega arith) (sense_fits ox expected (not (eqb lun 0)) (eqb attention 0) (eqb attention 0x29) (min 18 most))
  wants_opens (Inquiry most) attention ox lun expected few allowed within =
      small_opens ox expected _ (min 36 most) 36 (omega arith) (inquiry_fits ox expected (eqb lun 0) (min 36 most))
  wants_opens ReadCapacity attention ox lun expected few allowed within = capacity_opens ox expected
  wants_opens (Read r) attention ox lun expected few allowed within = blocks_opens ox expected to_host r few within (read_goes ox expected r)
  wants_opens (Write r) attention ox lun expected few allowed within = blocks_opens ox expected from_host r few within (write_goes ox expected r allowed)
  wants_opens Unknown attention ox lun expected few allowed within = nothing_opens ox expected

pub exchange_new : (o : Operation) (attention ox lun expected : ℕ) → New ox (exchange_for o attention ox lun expected)
exchange_new TestUnitReady attention ox lun expected = new_fresh ox expected _ _ _ _ _
exchange_new o attention ox lun expected = new_fresh ox expected _ _ _ _ _
