-- What a service may make of its sender's login, so that the state stays well formed. Assumes nothing.
use Rattle.std.specs.Prelude.{Some}
use mathlib.Core.Path.{◌≡◌, ◌∙◌}
use mathlib.Core.Bool.{true}
use Prim.Native.Nat.{ℕ}
use Rattle.state.specs.declared.Login.{Login}
use Rattle.state.specs.declared.Port.{Port}
use Rattle.state.specs.declared.Unit.{Unit}
use Rattle.state.specs.Changes.{empty_login, is_used, login_at, with_login}
use Rattle.state.specs.Tables.{find_login}
use Rattle.state.proofs.Places.{found_used}
use Rattle.formed.specs.Formed.{well_formed}
use Rattle.formed.proofs.Parts.{Used, fine_used, used_fine_lem}
use Rattle.formed.proofs.Keeping.{update_kept, end_kept}

-- none, or one of the same address and port name that is fine where the old one was
pub data Keeps (u : Unit) (own : ℕ) (l : Login) : Login → Type 0 where
  gone : Keeps u own l empty_login
  stays : {m : Login} → is_used m ≡ is_used l → m.address ≡ l.address → m.port_name ≡ l.port_name → (Used u own l → Used u own m) → Keeps u own l m

-- such a login may stand where the sender's stood
pub stored_kept : (u : Unit) (p : Port) → well_formed u p ≡ true → (from i : ℕ) (m : Login) → find_login p from ≡ Some i → Keeps u p.address (login_at p i) m → well_formed u (with_login p i m) ≡ true
stored_kept u p w from i m e gone = end_kept u p w i
stored_kept u p w from i m e (stays used address name fine) =
    update_kept u p w i m used address name (λ f. used_fine_lem {l = m} (used ∙ found_used p from i e) (fine (fine_used (found_used p from i e) f)))
