-- No input allows two replies, by the contracts themselves: each of them is an equation for all that its entry leaves. Assumes nothing.
use mathlib.Core.Path.{◌≡◌, sym, ◌∙◌}
use seplogic.Ra.Ura.{Ura}
use base.Logic.{SProp, ent, sep, via, fst∗, snd∗, id⊢}
use prog.Memory.{Memory}
use prog.Routine.{Routine}
use types.Logic.{Logic}
use contract.Monad.{Fun, fact, fact_i, fact_use}
use Rattle.demands.specs.Replies.{One, OneReply}

module _ {M : Type 1} (𝓤 : Ura M) where
  -- a promise that comes to one fact, to two, and to three
  from_one : {A : Type 0} (E : A → SProp 𝓤) (P : A → Type 0) → ((x : A) → ent 𝓤 (E x) (fact 𝓤 (P x))) → ((x y : A) → P x → P y → x ≡ y) → One 𝓤 E
  from_one E P says same x y = fact_use 𝓤 (P x) (via 𝓤 (E x) (fst∗ 𝓤 (E x) (E y)) (says x)) (λ p. fact_use 𝓤 (P y) (via 𝓤 (E y) (snd∗ 𝓤 (E x) (E y)) (says y)) (λ q. fact_i 𝓤 (x ≡ y) _ (same x y p q)))

  both : (φ ψ : Type 0) → ent 𝓤 (sep 𝓤 (fact 𝓤 φ) (fact 𝓤 ψ)) (fact 𝓤 (φ × ψ))
  both φ ψ = fact_use 𝓤 φ (fst∗ 𝓤 (fact 𝓤 φ) (fact 𝓤 ψ)) (λ p. fact_use 𝓤 ψ (snd∗ 𝓤 (fact 𝓤 φ) (fact 𝓤 ψ)) (λ q. fact_i 𝓤 (φ × ψ) _ (p, q)))

  three : (φ ψ χ : Type 0) → ent 𝓤 (sep 𝓤 (fact 𝓤 φ) (sep 𝓤 (fact 𝓤 ψ) (fact 𝓤 χ))) (fact 𝓤 (φ × ψ × χ))
  three φ ψ χ =
      let rest = sep 𝓤 (fact 𝓤 ψ) (fact 𝓤 χ) in
      fact_use 𝓤 φ (fst∗ 𝓤 (fact 𝓤 φ) rest) (λ p. fact_use 𝓤 (ψ × χ) (via 𝓤 rest (snd∗ 𝓤 (fact 𝓤 φ) rest) (both ψ χ)) (λ q. fact_i 𝓤 (φ × ψ × χ) _ (p, q.0, q.1)))

pub one_reply : {M : Type 1} {𝓤 : Ura M} (𝓛 : Logic 𝓤) (mem : Memory → SProp 𝓤) (run : Routine → Fun 𝓤) → OneReply 𝓛 mem run
one_reply {𝓤 = 𝓤} 𝓛 mem run =
    record {
      making = λ s. from_one 𝓤 _ _ (λ x. id⊢ 𝓤 _) (λ x y p q. p ∙ sym q);
      frame = λ κs d f start W l. from_one 𝓤 _ _ (λ x. three 𝓤 _ _ _) (λ x y p q i. ((p.0 ∙ sym q.0) i, (p.2 ∙ sym q.2) i, (p.1 ∙ sym q.1) i));
      next = λ κs d a x start W l. from_one 𝓤 _ _ (λ x. id⊢ 𝓤 _) (λ x y p q i. ((p.0 ∙ sym q.0) i, (p.1 ∙ sym q.1) i));
      happens = λ d e. from_one 𝓤 _ _ (λ x. id⊢ 𝓤 _) (λ x y p q. p ∙ sym q);
      c_make = λ κs d s. from_one 𝓤 _ _ (λ x. id⊢ 𝓤 _) (λ x y p q i. ((p.0 ∙ sym q.0) i, (p.1 ∙ sym q.1) i));
      c_frame = λ κs d f start W l. from_one 𝓤 _ _ (λ x. id⊢ 𝓤 _) (λ x y p q i. ((p.0.0 ∙ sym q.0.0) i, (p.0.1 ∙ sym q.0.1) i, (p.2 ∙ sym q.2) i, (p.1 ∙ sym q.1) i));
      c_next = λ κs d a x start W l. from_one 𝓤 _ _ (λ x. id⊢ 𝓤 _) (λ x y p q i. ((p.0.0 ∙ sym q.0.0) i, ((p.0.1 ∙ sym q.0.1) i, (p.1 ∙ sym q.1) i)));
      c_loop_reset = λ κs d. from_one 𝓤 _ _ (λ x. id⊢ 𝓤 _) (λ x y p q i. ((p.0 ∙ sym q.0) i, (p.1 ∙ sym q.1) i));
      c_time_over = λ κs d. from_one 𝓤 _ _ (λ x. id⊢ 𝓤 _) (λ x y p q i. ((p.0 ∙ sym q.0) i, (p.1 ∙ sym q.1) i));
      c_power_on = λ κs d. from_one 𝓤 _ _ (λ x. id⊢ 𝓤 _) (λ x y p q i. ((p.0 ∙ sym q.0) i, (p.1 ∙ sym q.1) i));
      judges = λ κs login. from_one 𝓤 _ _ (λ x. id⊢ 𝓤 _) (λ x y p q. p ∙ sym q);
      lines = λ number j. from_one 𝓤 _ _ (λ x. id⊢ 𝓤 _) (λ x y p q. p ∙ sym q);
      tells = λ κs s letter body. from_one 𝓤 _ _ (λ x. both 𝓤 _ _) (λ x y p q i. ((p.0 ∙ sym q.0) i, (p.1 ∙ sym q.1) i));
      ends = λ κs name number e. from_one 𝓤 _ _ (λ x. id⊢ 𝓤 _) (λ x y p q. p ∙ sym q);
    }
