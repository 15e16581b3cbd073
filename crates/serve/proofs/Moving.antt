-- A call that is refused, or for which nothing is sent, changes nothing, and a next frame moves its own exchange alone. Assumes nothing.
use Rattle.std.specs.Prelude.{Ok}
use mathlib.Core.Path.{◌≡◌, refl, ap, ◌∙◌}
use mathlib.Core.Bool.{Bool, true, false, cond}
use mathlib.Core.List.{List, [], ◌++◌}
use Prim.Native.Nat.{ℕ}
use native.Mathlib.Omega.{arith}
use lib.Dec.{eqb}
use lib.ListN.{length, length-append}
use lib.Seq.{set-get_or}
use borrow.Author.Tests.{eqb-true, not-false}
use Rattle.tables.proofs.Bools.{apart}
use Rattle.wire.specs.Bytes.{onto}
use Rattle.wire.proofs.Fronts.{onto_nil}
use Rattle.frame.specs.declared.Header.{Header}
use Rattle.frame.specs.Head.{header_bytes}
use Rattle.frame.proofs.Trips.{length_header}
use Rattle.state.specs.declared.Exchange.{Exchange}
use Rattle.state.specs.declared.Login.{Login}
use Rattle.state.specs.declared.Port.{Port}
use Rattle.state.specs.declared.Unit.{Unit}
use Rattle.state.specs.Standing.{Open}
use Rattle.state.specs.Changes.{empty_exchange, empty_login, login_at, exchange_at, with_login, with_places, with_exchange}
use Rattle.state.specs.Tables.{lookup_of}
use Rattle.state.proofs.Places.{exchange_stored, login_stored, login_other, exchange_other}
use Rattle.reply.specs.Reply.{silent, bytes_of}
use Rattle.serve.specs.Next.{next_reply, next_exchange, exchange_of, full_of, Step, Refused, Frame, step_of, frame_bytes, moved_on, next_at, next_of, buffer_at, next_buffer}
use Rattle.serve.specs.Whole.{is_sent, MovedOnly}
use Rattle.serve.proofs.Steps.{passed}
use Rattle.serve.proofs.Asking.{silent_stays}

same_fields : (l : Login) (j : ℕ) (f : Exchange) → with_places (with_exchange l j f) l.places ≡ l
unfolding with_exchange
same_fields l j f = refl

-- the port in which the exchange at places i and j has moved on
moved : (p : Port) (a x i j : ℕ) → lookup_of p a x ≡ Open i j → MovedOnly p a x (moved_on p i j)
unfolding moved_on with_login
moved p a x i j o =
    let l = login_at p i in
    let f = next_exchange (full_of p i) (exchange_of p i j) in
    let m = with_exchange l j f in
    record {
      i = i;
      j = j;
      stands = o;
      exchange = exchange_stored p a x i j o f;
      exchanges = λ n h. ap (λ k. exchange_at k n) (login_stored p a x i j o m) ∙ exchange_other l j n f h;
      fields = ap (λ k. with_places k l.places) (login_stored p a x i j o m) ∙ same_fields l j f;
      logins = λ n h. login_other p i n m h;
      address = refl;
      accept = refl;
    }

-- a frame that is sent has a header, so where there is none nothing is sent
no_bytes : (b : Bool) (h : Header) (l : List ℕ) → eqb (length (cond b [] (header_bytes h ++ l))) 0 ≡ true → b ≡ true
no_bytes true h l e = refl
no_bytes false h l e =
    let n : length (header_bytes h ++ l) ≡ 0 = eqb-true (length (header_bytes h ++ l)) 0 e in
    let t = length-append (header_bytes h) l in
    let s = length_header h in
    absurd (omega arith)

-- where the exchange is as it was, so is the port
module _ (p : Port) (i j : ℕ) (still : next_exchange (full_of p i) (exchange_of p i j) ≡ exchange_of p i j) where
  same_login : with_exchange (login_at p i) j (next_exchange (full_of p i) (exchange_of p i j)) ≡ login_at p i
  unfolding with_exchange exchange_at
  same_login = ap (with_exchange (login_at p i) j) still ∙ ap (with_places (login_at p i)) (set-get_or (login_at p i).places j empty_exchange)

  same_port : moved_on p i j ≡ p
  unfolding moved_on with_login login_at
  same_port = ap (with_login p i) same_login ∙ rw (set-get_or p.logins i empty_login)

module _ (u : Unit) (p : Port) (a x : ℕ) (W : List ℕ) (i j k : ℕ) where
  -- a frame of no bytes is none
  silent_frame : is_sent (next_at (Frame i j k) u p a x W).said ≡ false → silent (next_reply (full_of p i) (exchange_of p i j)) ≡ true
  unfolding frame_bytes bytes_of
  silent_frame h = no_bytes _ _ _ (not-false (eqb (length (frame_bytes u p a x i j k W)) 0) h)

  silent_bytes : silent (next_reply (full_of p i) (exchange_of p i j)) ≡ true → frame_bytes u p a x i j k W ≡ []
  unfolding frame_bytes bytes_of
  silent_bytes s = rw s

module _ (u : Unit) (p : Port) (a x start : ℕ) (W : List ℕ) where
  stays_at : (s : Step) → is_sent (next_at s u p a x W).said ≡ false → (next_at s u p a x W).port ≡ p
  stays_at (Refused y) h = refl
  stays_at (Frame i j k) h = same_port p i j (silent_stays (full_of p i) (exchange_of p i j) (silent_frame u p a x W i j k h))

  -- "returns its number and the state unchanged"
  pub next_stays : is_sent (next_of u p a x start W).said ≡ false → (next_of u p a x start W).port ≡ p
  unfolding next_of
  next_stays h = stays_at (step_of p a x start (length W)) h

  untouched_at : (s : Step) (R : List ℕ) → is_sent (next_at s u p a x W).said ≡ false → buffer_at s u p a x W R ≡ R
  untouched_at (Refused y) R h = refl
  untouched_at (Frame i j k) R h = ap (λ (b : List ℕ). onto b R) (silent_bytes u p a x W i j k (silent_frame u p a x W i j k h)) ∙ onto_nil R

  -- "and changes no lent byte"
  pub next_untouched : (R : List ℕ) → is_sent (next_of u p a x start W).said ≡ false → next_buffer u p a x start W R ≡ R
  unfolding next_of next_buffer
  next_untouched R h = untouched_at (step_of p a x start (length W)) R h

  -- where nothing is sent, the call says 0 bytes and leaves the port
  pub silent_next : (i j k : ℕ) → step_of p a x start (length W) ≡ Frame i j k → silent (next_reply (full_of p i) (exchange_of p i j)) ≡ true
      → next_of u p a x start W ≡ record { said = Ok 0; port = p }
  unfolding next_of
  silent_next i j k e s = rw (e, silent_bytes u p a x W i j k s, same_port p i j (silent_stays (full_of p i) (exchange_of p i j) s))

  moves_at : (s : Step) → step_of p a x start (length W) ≡ s → is_sent (next_at s u p a x W).said ≡ true → MovedOnly p a x (next_at s u p a x W).port
  moves_at (Refused y) e h = apart h refl
  moves_at (Frame i j k) e h = moved p a x i j (passed p a x start (length W) i j k e).stands

  -- where a frame is given, its exchange moves on and nothing else changes
  pub next_only : is_sent (next_of u p a x start W).said ≡ true → MovedOnly p a x (next_of u p a x start W).port
  unfolding next_of
  next_only h = moves_at (step_of p a x start (length W)) refl h
