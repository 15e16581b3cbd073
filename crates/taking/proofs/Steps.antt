-- What each of the four things means that a data frame comes to. Assumes nothing.
use Rattle.std.specs.Prelude.{Option, Some, None, Ok, Err, Result}
use Prim.Native.Nat.{ℕ, ◌+◌, ◌-◌, ◌*◌, ◌≤◌, ◌<◌}
use mathlib.Core.Path.{◌≡◌, refl, subst}
use mathlib.Core.Bool.{Bool, true, false, cond, not}
use mathlib.Core.Logic.{◌⊎◌, inl, inr}
use native.Mathlib.Omega.{arith}
use lib.Dec.{eqb, ltb}
use borrow.Author.Tests.{eqb-true, eqb-false, ltb-true, ltb-false, not-true}
use Rattle.tables.specs.Lists.{on_found}
use Rattle.tables.proofs.Bools.{and_left}
use Rattle.tables.proofs.Searches.{found_passes}
use Rattle.cover.specs.Cover.{position_of, cover_of, too_long, lent_place}
use Rattle.cover.proofs.Cuts.{covers}
use Rattle.state.specs.declared.Exchange.{Exchange}
use Rattle.state.specs.declared.Login.{Login}
use Rattle.state.specs.Changes.{empty_exchange, empty_login, is_closed, exchange_at}
use Rattle.state.specs.Kinds.{is_write}
use Rattle.state.specs.Tables.{has_id, find_exchange}
use Rattle.calls.proofs.Decisions.{on_found_lem}
use Rattle.taking.specs.declared.Step.{Step}
use Rattle.taking.specs.declared.Untaken.{Untaken}
use Rattle.taking.specs.declared.Step.TheVariants.{Fault, Take}
use Rattle.taking.specs.declared.Untaken.TheVariants.{NoWrite, Uncovered}
use Rattle.taking.specs.Taking.{burst_end, fault_of, find_write, covered_step, step_of}

-- no place is found, or one is, and no variant is another
no_place : {A : Type 0} {k : ℕ} → None ≡ Some k → A
no_place e = let z : ◌≡◌ {A = ℕ} 0 1 = cc in absurd (omega arith)

some_place : {A : Type 0} {k : ℕ} → Some k ≡ None → A
some_place e = let z : ◌≡◌ {A = ℕ} 0 1 = cc in absurd (omega arith)

-- the exchange of an OX_ID is open and has it
module _ (l : Login) (x j : ℕ) (at : find_exchange l x ≡ Some j) where
  pub found_id : has_id x (exchange_at l j) ≡ true
  unfolding find_exchange exchange_at
  found_id = found_passes empty_exchange (has_id x) l.places at

  pub found_open : is_closed (exchange_at l j) ≡ false
  unfolding has_id
  found_open = let e = exchange_at l j in not-true (is_closed e) (and_left (not (is_closed e)) (eqb e.ox_id x) found_id)

-- a login's open WRITE of an OX_ID stands at place j
pub record WriteAt (l : Login) (x j : ℕ) : Type 0 where
  pub found : find_exchange l x ≡ Some j
  pub write : is_write (exchange_at l j) ≡ true

-- there is none: no exchange of the OX_ID, or one that is no WRITE
pub data NoWriteFor (l : Login) (x : ℕ) : Type 0 where
  none : find_exchange l x ≡ None → NoWriteFor l x
  other : (j : ℕ) → find_exchange l x ≡ Some j → is_write (exchange_at l j) ≡ false → NoWriteFor l x

pub write_at : (l : Login) (x j : ℕ) → find_write l x ≡ Some j → WriteAt l x j
unfolding find_write
write_at l x j = by (find_exchange l x) refl
  where
    inner : (i : ℕ) → find_exchange l x ≡ Some i → (b : Bool) → is_write (exchange_at l i) ≡ b → cond b (Some i) None ≡ Some j → WriteAt l x j
    inner i at true w e = let is : i ≡ j = cc in subst (WriteAt l x) is record { found = at; write = w }
    inner i at false w e = no_place e

    by : (f : Option ℕ) → find_exchange l x ≡ f → on_found f (λ i. cond (is_write (exchange_at l i)) (Some i) None) None ≡ Some j → WriteAt l x j
    by (Some i) at e = inner i at (is_write (exchange_at l i)) refl e
    by None at e = no_place e

pub no_write : (l : Login) (x : ℕ) → find_write l x ≡ None → NoWriteFor l x
unfolding find_write
no_write l x = by (find_exchange l x) refl
  where
    inner : (i : ℕ) → find_exchange l x ≡ Some i → (b : Bool) → is_write (exchange_at l i) ≡ b → cond b (Some i) None ≡ None → NoWriteFor l x
    inner i at true w e = some_place e
    inner i at false w e = other i at w

    by : (f : Option ℕ) → find_exchange l x ≡ f → on_found f (λ i. cond (is_write (exchange_at l i)) (Some i) None) None ≡ None → NoWriteFor l x
    by (Some i) at e = inner i at (is_write (exchange_at l i)) refl e
    by None at e = none at

-- why n bytes at an offset are a fault, and its RSP_CODE, or that they are none
pub data FaultBy (e : Exchange) (offset n : ℕ) : Option ℕ → Type 0 where
  wrong_offset : (offset ≡ e.sent → ⊥) → FaultBy e offset n (Some 0x03)
  past_burst : offset ≡ e.sent → burst_end e < offset + n → FaultBy e offset n (Some 0x01)
  no_fault : offset ≡ e.sent → offset + n ≤ burst_end e → FaultBy e offset n None

pub fault_by : (e : Exchange) (offset n : ℕ) → FaultBy e offset n (fault_of e offset n)
unfolding fault_of
fault_by e offset n = by (eqb offset e.sent) (ltb (burst_end e) (offset + n)) refl refl
  where
    by : (b c : Bool) → eqb offset e.sent ≡ b → ltb (burst_end e) (offset + n) ≡ c → FaultBy e offset n (cond (not b) (Some 0x03) (cond c (Some 0x01) None))
    by true true h k = past_burst (eqb-true offset e.sent h) (ltb-true (burst_end e) (offset + n) k)
    by true false h k = no_fault (eqb-true offset e.sent h) (ltb-false (burst_end e) (offset + n) k)
    by false c h k = wrong_offset (eqb-false offset e.sent h)

-- RSP_CODE is 03 or 01
pub fault_codes : {e : Exchange} {offset n code : ℕ} → FaultBy e offset n (Some code) → (code ≡ 0x03) ⊎ (code ≡ 0x01)
fault_codes (wrong_offset h) = inl refl
fault_codes (past_burst h k) = inr refl

-- what no fault says
pub fault_none : {e : Exchange} {offset n : ℕ} → FaultBy e offset n None → (offset ≡ e.sent) × (offset + n ≤ burst_end e)
fault_none (no_fault h k) = (h, k)

-- a fault: of a WRITE at place j
pub record Faults (l : Login) (x offset n j code : ℕ) : Type 0 where
  pub found : find_exchange l x ≡ Some j
  pub write : is_write (exchange_at l j) ≡ true
  pub why : FaultBy (exchange_at l j) offset n (Some code)

-- not covered: the next bytes of a WRITE, within its burst, and the window is too long or does not hold them
pub record Uncovers (l : Login) (x offset n start len : ℕ) : Type 0 where
  pub j : ℕ
  pub found : find_exchange l x ≡ Some j
  pub write : is_write (exchange_at l j) ≡ true
  pub next : offset ≡ (exchange_at l j).sent
  pub burst : offset + n ≤ burst_end (exchange_at l j)
  pub lent : lent_place (position_of (exchange_at l j).start (exchange_at l j).sent) n start len ≡ None

-- a window that is not too long holds n bytes, from place k on
pub record Lent (at n start len k : ℕ) : Type 0 where
  pub short : len ≤ 65536
  pub after : 512 * start ≤ at
  pub is : k ≡ at - 512 * start
  pub inside : k + n ≤ len

pub lent_at : (at n start len k : ℕ) → lent_place at n start len ≡ Some k → Lent at n start len k
unfolding lent_place
lent_at at n start len k = by (too_long len) refl
  where
    by : (b : Bool) → too_long len ≡ b → cond b None (cover_of at n start len) ≡ Some k → Lent at n start len k
    by true t e = no_place e
    by false t e =
        let c = covers at n start len k e in
        let x = c.after in
        let y = c.before in
        let z = c.is in
        record { short = ltb-false 65536 len t; after = x; is = z; inside = omega (arith, x, y, z) }

-- taken: the next bytes of a WRITE at place j, within its burst, and the window holds them from place k on
pub record Takes (l : Login) (x offset n start len j k : ℕ) : Type 0 where
  pub found : find_exchange l x ≡ Some j
  pub write : is_write (exchange_at l j) ≡ true
  pub next : offset ≡ (exchange_at l j).sent
  pub burst : offset + n ≤ burst_end (exchange_at l j)
  pub lent : lent_place (position_of (exchange_at l j).start (exchange_at l j).sent) n start len ≡ Some k
  pub holds : Lent (position_of (exchange_at l j).start (exchange_at l j).sent) n start len k

module _ (l : Login) (x offset n start len : ℕ) where
  abbrev pub Means : Result Step Untaken → Type 0
  Means (Err NoWrite) = NoWriteFor l x
  Means (Ok (Fault j code)) = Faults l x offset n j code
  Means (Err Uncovered) = Uncovers l x offset n start len
  Means (Ok (Take j k)) = Takes l x offset n start len j k

  covered_means : (j : ℕ) → WriteAt l x j → fault_of (exchange_at l j) offset n ≡ None → Means (covered_step (exchange_at l j) j n start len)
  unfolding covered_step
  covered_means j w z =
      let e = exchange_at l j in
      let t = fault_none (subst (FaultBy e offset n) z (fault_by e offset n)) in
      on_found_lem Means (lent_place (position_of e.start e.sent) n start len) _ _
      (λ k at. record { found = w.found; write = w.write; next = t.0; burst = t.1; lent = at; holds = lent_at (position_of e.start e.sent) n start len k at })
      (λ not. record { j = j; found = w.found; write = w.write; next = t.0; burst = t.1; lent = not })

  -- of a WRITE that stands at place j: by whether there is a fault
  write_means : (j : ℕ) → WriteAt l x j
      → Means (on_found (fault_of (exchange_at l j) offset n) (λ code. Ok (Fault j code)) (covered_step (exchange_at l j) j n start len))
  write_means j w =
      let e = exchange_at l j in
      on_found_lem Means (fault_of e offset n) _ _
      (λ code at. record { found = w.found; write = w.write; why = subst (FaultBy e offset n) at (fault_by e offset n) })
      (λ z. covered_means j w z)

  pub step_means : Means (step_of l x offset n start len)
  unfolding step_of
  step_means = by (find_write l x) refl
    where
      by : (f : Option ℕ) → find_write l x ≡ f
          → Means (on_found f (λ j. on_found (fault_of (exchange_at l j) offset n) (λ code. Ok (Fault j code)) (covered_step (exchange_at l j) j n start len)) (Err NoWrite))
      by (Some j) at = write_means j (write_at l x j at)
      by None at = no_write l x at

  -- each by its name
  pub step_means_as : (s : Result Step Untaken) → step_of l x offset n start len ≡ s → Means s
  step_means_as s e = subst Means e step_means

  pub step_takes : (j k : ℕ) → step_of l x offset n start len ≡ Ok (Take j k) → Takes l x offset n start len j k
  step_takes j k e = step_means_as (Ok (Take j k)) e

  pub step_faults : (j code : ℕ) → step_of l x offset n start len ≡ Ok (Fault j code) → Faults l x offset n j code
  step_faults j code e = step_means_as (Ok (Fault j code)) e

  pub step_no_write : step_of l x offset n start len ≡ (Err NoWrite) → NoWriteFor l x
  step_no_write e = step_means_as (Err NoWrite) e

  pub step_uncovers : step_of l x offset n start len ≡ (Err Uncovered) → Uncovers l x offset n start len
  step_uncovers e = step_means_as (Err Uncovered) e

-- a place with no login has no WRITE
pub empty_step : (x offset n start len : ℕ) → step_of empty_login x offset n start len ≡ (Err NoWrite)
unfolding step_of find_write find_exchange has_id
empty_step x offset n start len = refl
