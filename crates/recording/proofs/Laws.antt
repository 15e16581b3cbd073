-- Lists laid over others and parts of them, and what is told, over plain values. Assumes nothing.
use Prim.Native.Nat.{ℕ, ◌+◌, ◌-◌, ◌≤◌, min}
use mathlib.Core.Path.{◌≡◌, sym, ap, ◌∙◌}
use mathlib.Core.Bool.{Bool}
use mathlib.Core.List.{List, [], ◌++◌}
use native.Mathlib.Decide.{dec_le}
use native.Mathlib.Omega.{arith}
use lib.ListN.{length, take, drop, length-append, length-replicate, drop_of_length-le}
use lib.Seq.{take_all, take_at, length-take-le}
use borrow.Rule.Slice.PartMut.{mid_of}
use Rattle.std.specs.Prelude.{Ok, Err, Result}
use Rattle.refusal.specs.declared.Refusal.{Refusal}
use Rattle.refusal.specs.Refusal.{number_of}
use Rattle.wire.proofs.Parts.{rest_is}
use Rattle.drive.specs.declared.Answer.{Answer}
use Rattle.std.proofs.lemmas.List.{take-replicate}
use Rattle.recording.specs.declared.Session.{Session}
use Rattle.recording.specs.declared.Told.{Told}
use Rattle.recording.specs.Answers.{all_fill, answer, answer_of}
use Rattle.recording.specs.Calls.{told_answer, fill}

-- a number of elements past the end counts as all of them
module _ (l : List ℕ) (n k : ℕ) (e : k ≡ min n (length l)) where
  pub take_least : take k l ≡ take n l
  take_least =
      elim (dec_le n (length l)) [
        | yes h ↦ (let f : k ≡ n = omega arith in rw f)
        | no h ↦ (let f : length l ≤ k = omega arith in
            let g : length l ≤ n = omega arith in
            rw (take_all k l f, take_all n l g))
      ]

  pub drop_least : drop k l ≡ drop n l
  drop_least =
      elim (dec_le n (length l)) [
        | yes h ↦ (let f : k ≡ n = omega arith in rw f)
        | no h ↦ (let f : length l ≤ k = omega arith in
            let g : length l ≤ n = omega arith in
            rw (drop_of_length-le l f, drop_of_length-le l g))
      ]

-- the line of a reply
pub line_sent : (l : List ℕ) {said : Result ℕ Refusal} {n k : ℕ} {b : Bool} {r : List ℕ} → said ≡ Ok n → k ≡ min n (length l) → b ≡ all_fill (mid_of k (length l - k) l)
    → r ≡ answer 0 (take k l) b → r ≡ answer_of said l
line_sent l {said} {n} {k} {b} {r} e m f h = rw (e, sym (take_least l n k m), sym (drop_least l n k m), sym (rest_is k l), sym f) h

-- the line of a refusal
pub line_refused : (l : List ℕ) {said : Result ℕ Refusal} {x : Refusal} {m : ℕ} {b : Bool} {r : List ℕ} → said ≡ Err x → m ≡ number_of x → b ≡ all_fill l
    → r ≡ answer m [] b → r ≡ answer_of said l
line_refused l {said} {x} {m} {b} {r} e f g h = rw (e, sym f, sym g) h

-- three texts, each put at the end of a line where it fits
pub put_three : (N : ℕ) (a b d : List ℕ) {o₀ o₁ o₂ o₃ : List ℕ} → o₀ ≡ [] → (length o₀ + length a ≤ N → o₁ ≡ o₀ ++ a) → (length o₁ + length b ≤ N → o₂ ≡ o₁ ++ b) → (length o₂ + length d ≤ N → o₃ ≡ o₂ ++ d)
    → length a + length b + length d ≤ N → o₃ ≡ (a ++ b) ++ d
put_three N a b d z f g h fits =
    let p₁ = f (rw z (omega arith)) ∙ ap (λ x. x ++ a) z in
    let p₂ = g (rw p₁ (omega arith)) ∙ ap (λ x. x ++ b) p₁ in
    h (rw p₂ (simp length-append (omega arith))) ∙ ap (λ x. x ++ d) p₂

-- the first bytes of a buffer of the fill
lent_is : (room : ℕ) (space : List ℕ) → room ≤ 4096 → space ≡ fill 4096 → take room space ≡ fill room
unfolding fill
lent_is room space h e = rw e (take-replicate room 4096 0x5a h)

length_fill : (room : ℕ) → length (fill room) ≡ room
unfolding fill
length_fill room = length-replicate room 0x5a

-- the room that is lent is there
pub lent_long : (room : ℕ) (space : List ℕ) → room ≤ 4096 → 4096 ≡ length space → length (take room space) ≡ room
lent_long room space h e = length-take-le room space (omega arith)

-- what goes by the bytes that are lent goes by the room
pub by_room : (g : ℕ → List ℕ) (room : ℕ) (space y : List ℕ) → room ≤ 4096 → 4096 ≡ length space → y ≡ g (length (take room space)) → y ≡ g room
by_room g room space y h e t = t ∙ ap g (lent_long room space h e)

-- the buffer, once y has come back for its first bytes, still has as many
pub lent_fits : (room : ℕ) (space y : List ℕ) → room ≤ 4096 → 4096 ≡ length space → length y ≡ length (take room space) → room ≤ length (y ++ drop room space)
lent_fits room space y h e same =
    let n : length (take room space) ≡ room = length-take-le room space (omega arith) in
    simp length-append (omega arith)

-- a call that is lent the first bytes of such a buffer, and leaves y in them: g is its answer by their number, and h what it leaves of them
pub told_lent : (s : Session) (g : ℕ → Answer) (h : List ℕ → List ℕ) (room : ℕ) (space y : List ℕ) (a : Answer) (r : Told) → room ≤ 4096 → space ≡ fill 4096
    → a ≡ g (length (take room space)) → y ≡ h (take room space) → length y ≡ length (take room space)
    → r ≡ told_answer s a (take room (y ++ drop room space)) → r ≡ told_answer s (g room) (h (fill room))
told_lent s g h room space y a r fits e ea ey same t =
    let l : take room space ≡ fill room = lent_is room space fits e in
    let n : length (take room space) ≡ room = ap length l ∙ length_fill room in
    let back : take room (y ++ drop room space) ≡ y = take_at y (drop room space) room (same ∙ n) in
    t ∙ ap (λ b. told_answer s b (take room (y ++ drop room space))) (ea ∙ ap g n) ∙ ap (told_answer s (g room)) (back ∙ ey ∙ ap h l)
