-- What a frame that no number refuses tells of the seven tests by what arrived. Assumes nothing.
use mathlib.Core.Path.{◌≡◌, refl, ap}
use mathlib.Core.Bool.{Bool, true, false, cond, not, ◌&&◌}
use mathlib.Core.List.{List, [], ◌∷◌}
use Prim.Native.Nat.{ℕ}
use lib.Dec.{eqb}
use lib.ListN.{length, get_or}
use native.Mathlib.Omega.{arith}
use borrow.Author.Tests.{not-false, eqb-true}
use Rattle.tables.specs.Firsts.{NoneOf}
use Rattle.frame.specs.declared.Header.{Header}
use Rattle.refusal.specs.declared.Refusal.{Refusal}
use Rattle.refusal.specs.declared.Refusal.TheVariants.{ShortBuffer, IllFormed, BadSize, NotOurs, BadSource, UnknownForm, Unproven}
use Rattle.state.specs.declared.Port.{Port}
use Rattle.state.specs.declared.Unit.{Unit}
use Rattle.formed.specs.Formed.{well_formed}
use Rattle.arrival.specs.declared.Form.{Form}
use Rattle.arrival.specs.declared.Form.TheVariants.{Link, Done, Abort, Command, Data}
use Rattle.arrival.specs.Arrival.{form_of, short_buffer, bad_size, bad_source, unknown_form, spared, unproven_login, applies_in}

-- the numbers that are told by what arrived, in their order; 11 and 10 come after them
abbrev pub seven_order : List Refusal
seven_order = ShortBuffer ∷ IllFormed ∷ BadSize ∷ NotOurs ∷ BadSource ∷ UnknownForm ∷ Unproven ∷ []

pub record Passes (u : Unit) (p : Port) (h : Header) (f : List ℕ) (room : ℕ) : Type 0 where
  pub long : short_buffer room ≡ false
  pub fine : well_formed u p ≡ true
  pub sized : bad_size (length f) ≡ false
  pub here : eqb h.d_id p.address ≡ true
  pub from : bad_source p.address h.s_id ≡ false
  pub known : unknown_form h (length f) ≡ false
  pub proven : (not (spared h.r_ctl (get_or f 24 0)) && unproven_login p h.s_id) ≡ false

module _ (u : Unit) (p : Port) (h : Header) (f : List ℕ) (room : ℕ) where
  -- none of these numbers applies
  pub passed : NoneOf (applies_in u p h f room) seven_order → Passes u p h f room
  passed n =
      record {
        long = n.0;
        fine = not-false (well_formed u p) n.1.0;
        sized = n.1.1.0;
        here = not-false (eqb h.d_id p.address) n.1.1.1.0;
        from = n.1.1.1.1.0;
        known = n.1.1.1.1.1.0;
        proven = n.1.1.1.1.1.1.0;
      }

  -- and where all this holds none does
  pub passes : Passes u p h f room → NoneOf (applies_in u p h f room) seven_order
  passes x = (x.long, (ap not x.fine, (x.sized, (ap not x.here, (x.from, (x.known, (x.proven, tt)))))))

-- the forms by the four tests of R_CTL in turn
abbrev form_by : Bool → Bool → Bool → Bool → Form
form_by x y z w = cond x Link (cond y Done (cond z Abort (cond w Data Command)))

-- a link request has R_CTL 22h
pub link_form : (rctl : ℕ) → form_of rctl ≡ Link → rctl ≡ 0x22
unfolding form_of
link_form rctl = by (eqb rctl 0x22) (eqb rctl 0x23) (eqb rctl 0x81) (eqb rctl 0x01) refl
  where
    by : (x y z w : Bool) → eqb rctl 0x22 ≡ x → form_by x y z w ≡ Link → rctl ≡ 0x22
    by true y z w e k = eqb-true rctl 0x22 e
    by false true z w e k = let g : ◌≡◌ {A = ℕ} 0 1 = cc in absurd (omega arith)
    by false false true w e k = let g : ◌≡◌ {A = ℕ} 0 1 = cc in absurd (omega arith)
    by false false false true e k = let g : ◌≡◌ {A = ℕ} 0 1 = cc in absurd (omega arith)
    by false false false false e k = let g : ◌≡◌ {A = ℕ} 0 1 = cc in absurd (omega arith)

-- a data frame has R_CTL 01h, and what has it is one
pub data_form : (rctl : ℕ) → form_of rctl ≡ Data → rctl ≡ 0x01
unfolding form_of
data_form rctl = by (eqb rctl 0x22) (eqb rctl 0x23) (eqb rctl 0x81) (eqb rctl 0x01) refl
  where
    by : (x y z w : Bool) → eqb rctl 0x01 ≡ w → form_by x y z w ≡ Data → rctl ≡ 0x01
    by true y z w e k = let g : ◌≡◌ {A = ℕ} 0 1 = cc in absurd (omega arith)
    by false true z w e k = let g : ◌≡◌ {A = ℕ} 0 1 = cc in absurd (omega arith)
    by false false true w e k = let g : ◌≡◌ {A = ℕ} 0 1 = cc in absurd (omega arith)
    by false false false true e k = eqb-true rctl 0x01 e
    by false false false false e k = let g : ◌≡◌ {A = ℕ} 0 1 = cc in absurd (omega arith)

pub is_data_form : (rctl : ℕ) → rctl ≡ 0x01 → form_of rctl ≡ Data
unfolding form_of
is_data_form rctl e = rw e
