-- A law over plain variables for each way through the dispatch. Assumes nothing.
use Rattle.std.specs.Prelude.{Some, None, Ok, Err, ℕ}
use mathlib.Core.Path.{◌≡◌, refl, sym}
use mathlib.Core.Bool.{false}
use mathlib.Core.List.{List}
use Prim.Native.Nat.{ℕ, ◌+◌}
use lib.Dec.{eqb}
use lib.ListN.{length, get_or}
use borrow.Author.Tests.{eq-eqb, ne_eqb}
use Rattle.tables.specs.Lists.{on_found}
use Rattle.wire.specs.Bytes.{num}
use Rattle.frame.specs.declared.Header.{Header}
use Rattle.params.specs.declared.Service.{Service}
use Rattle.params.specs.declared.Service.TheVariants.{Plogi, Logo, Rrq, Prli, Prlo, Pdisc, Adisc}
use Rattle.params.specs.Services.{code_of, service_with}
use Rattle.params.proofs.Services.{has_code, none_has}
use Rattle.params.specs.Words.{params_of}
use Rattle.state.specs.declared.Port.{Port}
use Rattle.state.specs.Changes.{login_at}
use Rattle.state.specs.Tables.{find_login, find_exchange, sought_in}
use Rattle.reply.specs.declared.Reply.TheVariants as reply
use Rattle.calls.specs.declared.View.{View}
use Rattle.calls.specs.declared.Decision.{Decision}
use Rattle.calls.specs.Turn.{Decided, decided_as, served_at, answers_only, served_in}
use Rattle.link.specs.Link.{size_of, plogi_of, logo_of, service_of, link_of}
use Rattle.link.specs.Turn.{plogi_turn, logo_turn, link_turn}

-- the size of a service is not 0, which stands for another code
sized : (s : Service) → eqb (size_of (code_of s)) 0 ≡ false
unfolding size_of
sized Plogi = refl
sized Logo = refl
sized Rrq = refl
sized Prli = refl
sized Prlo = refl
sized Pdisc = refl
sized Adisc = refl

-- the services on a login
others : (s : Service) → (s ≡ Plogi → ⊥) → (s ≡ Logo → ⊥) → (eqb (code_of s) 3 ≡ false) × (eqb (code_of s) 5 ≡ false)
others Plogi np nl = absurd (np refl)
others Logo np nl = absurd (nl refl)
others Rrq np nl = (refl, refl)
others Prli np nl = (refl, refl)
others Prlo np nl = (refl, refl)
others Pdisc np nl = (refl, refl)
others Adisc np nl = (refl, refl)

module _ (v : View) (h : Header) (f : List ℕ) (d : Decision) where
  pub other_code : service_with (get_or f 24 0) ≡ Err record {} → d ≡ answers_only (reply.Reject 0x0b 0x00) → d ≡ link_turn v h f
  unfolding link_turn size_of
  other_code n e =
      let has = none_has (get_or f 24 0) n in
      rw (has Plogi, has Logo, has Rrq, has Prli, has Prlo, has Pdisc, has Adisc) e

  module _ (s : Service) (is : service_with (get_or f 24 0) ≡ Ok s) where
    code : get_or f 24 0 ≡ code_of s
    code = has_code (get_or f 24 0) s is

    pub wrong_size : (length f ≡ 24 + size_of (code_of s) → ⊥) → d ≡ answers_only (reply.Reject 0x03 0x00) → d ≡ link_turn v h f
    unfolding link_turn
    wrong_size w e = rw (code, sized s, ne_eqb (length f) (24 + size_of (code_of s)) w) e

    module _ (fits : length f ≡ 24 + size_of (code_of s)) where
      pub plogi_way : s ≡ Plogi → d ≡ plogi_turn v.keys h.s_id (params_of f 28) → d ≡ link_turn v h f
      unfolding link_turn
      plogi_way p e = rw (code, sized s, eq-eqb (length f) (24 + size_of (code_of s)) fits, p) e

      pub logo_way : s ≡ Logo → d ≡ logo_turn h.s_id (num 3 f 29) → d ≡ link_turn v h f
      unfolding link_turn
      logo_way p e = rw (code, sized s, eq-eqb (length f) (24 + size_of (code_of s)) fits, p) e

      module _ (np : s ≡ Plogi → ⊥) (nl : s ≡ Logo → ⊥) where
        other_two : link_turn v h f ≡ on_found v.seat (λ i. served_in i (service_of (code_of s) v.login (find_exchange v.login) h.s_id f)) (answers_only reply.Logout)
        unfolding link_turn
        other_two = rw (code, sized s, eq-eqb (length f) (24 + size_of (code_of s)) fits, (others s np nl).0, (others s np nl).1)

        pub no_seat : v.seat ≡ None → d ≡ answers_only reply.Logout → d ≡ link_turn v h f
        no_seat n e = rw (other_two, n) e

        pub at_seat : (i : ℕ) → v.seat ≡ Some i → d ≡ served_in i (service_of (code_of s) v.login (find_exchange v.login) h.s_id f) → d ≡ link_turn v h f
        at_seat i n e = rw (other_two, n) e

-- the same of the whole port
module _ (p : Port) (h : Header) (f : List ℕ) (code size : ℕ) (ec : code ≡ get_or f 24 0) (es : size ≡ size_of code) (d : Decided) (nz : size ≡ 0 → ⊥) (fits : length f ≡ 24 + size) where
  pub is_plogi : code ≡ 3 → d ≡ plogi_of p h.s_id (params_of f 28) → d ≡ link_of p h f
  unfolding link_of
  is_plogi c e = rw (sym ec, sym es, ne_eqb size 0 nz, eq-eqb (length f) (24 + size) fits, eq-eqb code 3 c) e

  module _ (np : code ≡ 3 → ⊥) where
    pub is_logo : code ≡ 5 → d ≡ logo_of p h.s_id (num 3 f 29) → d ≡ link_of p h f
    unfolding link_of
    is_logo c e = rw (sym ec, sym es, ne_eqb size 0 nz, eq-eqb (length f) (24 + size) fits, ne_eqb code 3 np, eq-eqb code 5 c) e

    module _ (nl : code ≡ 5 → ⊥) where
      pub is_service : d ≡ on_found (find_login p h.s_id) (λ i. served_at p i (service_of code (login_at p i) (sought_in p h.s_id) h.s_id f)) (decided_as reply.Logout p) → d ≡ link_of p h f
      unfolding link_of
      is_service e = rw (sym ec, sym es, ne_eqb size 0 nz, eq-eqb (length f) (24 + size) fits, ne_eqb code 3 np, ne_eqb code 5 nl) e
