-- What the theorems of this crate speak of: what a next frame changes, and all the frames of an exchange one after the other.
use Rattle.std.specs.Prelude.{ℕ, ◌+◌, ◌-◌, ◌*◌, ◌%◌, ◌≡◌, Bool, true, false, cond, not, List, [], ◌∷◌, ◌++◌, eqb, length, take, drop, Ok, Err, Result}
use Rattle.refusal.specs.declared.Refusal.{Refusal}
use Rattle.cover.specs.Cover.{cut}
use Rattle.state.specs.declared.Exchange.{Exchange}
use Rattle.state.specs.declared.Port.{Port}
use Rattle.state.specs.declared.Unit.{Unit}
use Rattle.state.specs.Standing.{Open}
use Rattle.state.specs.Changes.{own_of, login_at, with_places, with_login, ended_at, is_closed}
use Rattle.state.specs.Kinds.{kind_blocks}
use Rattle.state.specs.Tables.{lookup_of}
use Rattle.formed.specs.Formed.{total, frames_of, well_formed}
use Rattle.residual.specs.Residual.{residual_of}
use Rattle.reply.specs.declared.DataFrame.{DataFrame}
use Rattle.reply.specs.declared.Response.{Response}
use Rattle.reply.specs.declared.Response.TheVariants.{Status}
use Rattle.reply.specs.declared.Reply.TheVariants.{Respond, Data}
use Rattle.reply.specs.Payload.{payload_of}
use Rattle.serve.specs.Made.{made_bytes}
use Rattle.serve.specs.Next.{next_reply, next_exchange, source_of, asked_by, exchange_of, full_of, Frame, step_of, next_of}

-- a frame was given: the call was not refused, and there was something to send
abbrev pub is_sent : Result ℕ Refusal → Bool
is_sent (Ok n) = not (eqb n 0)
is_sent (Err y) = false

-- q is the port p after a next frame of the exchange of a and x: this exchange has moved on, and its login's other exchanges and fields, the other logins and the setup are as they were
pub record MovedOnly (p : Port) (a x : ℕ) (q : Port) : Type 0 where
  pub i : ℕ
  pub j : ℕ
  pub stands : lookup_of p a x ≡ Open i j
  pub exchange : exchange_of q i j ≡ next_exchange (full_of p i) (exchange_of p i j)
  pub exchanges : (m : ℕ) → (m ≡ j → ⊥) → exchange_of q i m ≡ exchange_of p i m
  pub fields : with_places (login_at q i) (login_at p i).places ≡ login_at p i
  pub logins : (m : ℕ) → (m ≡ i → ⊥) → login_at q m ≡ login_at p m
  pub address : q.address ≡ p.address
  pub accept : q.accept ≡ p.accept

-- the exchange of a and x stands in the port q where it stood in p, at place j of the login at place i, and is as it was, to a login of the same size; our address is the same too
pub record StaysOpen (a x i j : ℕ) (p q : Port) : Type 0 where
  pub before : lookup_of p a x ≡ Open i j
  pub after : lookup_of q a x ≡ Open i j
  pub exchange : exchange_of q i j ≡ exchange_of p i j
  pub size : (login_at q i).size ≡ (login_at p i).size
  pub own : q.address ≡ p.address

-- a data frame: its OFFSET, its SEQ_CNT, and its payload before the fill
pub record Piece : Type 0 where
  pub offset : ℕ
  pub count : ℕ
  pub payload : List ℕ

-- the payload of the next frame of the exchange at places i and j
abbrev pub payload_at : Unit → Port → ℕ → ℕ → ℕ → ℕ → ℕ → List ℕ → List ℕ
payload_at u p a x i j k W = payload_of (own_of p) (asked_by p.address a x) (next_reply (full_of p i) (exchange_of p i j)) (source_of u (exchange_of p i j) k W)

-- next frames of the exchange of a and x one after the other from the port p on, none refused, each with some window cut from the unit: data frames, and FCP_RSP, which leaves the port q;
-- between them anything may happen that leaves the exchange open and the port well formed
pub data Run (u : Unit) (unit : List ℕ) (a x : ℕ) : Port → List Piece → Response → Port → Type 0 where
  piece : {p q : Port} {pieces : List Piece} {r : Response} (start len i j k : ℕ) (d : DataFrame)
      → step_of p a x start (length (cut unit start len)) ≡ Frame i j k → next_reply (full_of p i) (exchange_of p i j) ≡ Data d
      → Run u unit a x (next_of u p a x start (cut unit start len)).port pieces r q
      → Run u unit a x p (record { offset = d.offset; count = d.count; payload = payload_at u p a x i j k (cut unit start len) } ∷ pieces) r q
  ends : {p : Port} {r : Response} (start len i j k : ℕ)
      → step_of p a x start (length (cut unit start len)) ≡ Frame i j k → next_reply (full_of p i) (exchange_of p i j) ≡ Respond r
      → Run u unit a x p [] r (next_of u p a x start (cut unit start len)).port
  aside : {p p₁ q : Port} {pieces : List Piece} {r : Response} (i j : ℕ) → StaysOpen a x i j p p₁ → well_formed u p₁ ≡ true → Run u unit a x p₁ pieces r q → Run u unit a x p pieces r q

-- nothing happened between the frames
abbrev pub alone : {u : Unit} {unit : List ℕ} {a x : ℕ} {p q : Port} {pieces : List Piece} {r : Response} → Run u unit a x p pieces r q → Bool
alone (piece start len i j k d step reply rest) = alone rest
alone (ends start len i j k step reply) = true
alone (aside i j stays formed rest) = false

-- "FCP_RSP follows and frees the place": the place is free after such a run from the port p to the port q; and where nothing happened between its frames, nothing else has changed
pub record Freed {u : Unit} {unit : List ℕ} {a x : ℕ} {p q : Port} {pieces : List Piece} {r : Response} (i j : ℕ) (run : Run u unit a x p pieces r q) : Type 0 where
  pub closed : is_closed (exchange_of q i j) ≡ true
  pub only : alone run ≡ true → q ≡ with_login p i (ended_at (login_at p i) j)

-- the payloads, joined
abbrev pub joined : List Piece → List ℕ
joined [] = []
joined (f ∷ fs) = f.payload ++ joined fs

-- "OFFSET is the byte offset; SEQ_CNT the frame's number from 0, going round at 65,536": after so many bytes and frames
pub data InOrder : ℕ → ℕ → List Piece → Type 0 where
  none : {sent number : ℕ} → InOrder sent number []
  one : {sent number : ℕ} {f : Piece} {fs : List Piece} → f.offset ≡ sent → f.count ≡ number % 65536
      → InOrder (sent + length f.payload) (number + 1) fs → InOrder sent number (f ∷ fs)

-- all that an exchange may send: the unit's bytes from its first block on for READ, else the made data
abbrev pub data_of : Unit → List ℕ → Exchange → List ℕ
data_of u unit e = cond (eqb e.kind kind_blocks) (drop (512 * e.start) unit) (made_bytes u e.kind)

-- these are the frames that are left of an exchange: the bytes not yet sent, each once and in order, in as few frames as they take, and its response
pub record Rest (u : Unit) (unit : List ℕ) (full : ℕ) (e : Exchange) (pieces : List Piece) (r : Response) : Type 0 where
  pub bytes : joined pieces ≡ take (total e - e.sent) (drop e.sent (data_of u unit e))
  pub order : InOrder e.sent (frames_of e.sent full) pieces
  pub frames : frames_of e.sent full + length pieces ≡ frames_of (total e) full
  pub response : r ≡ Status 0x00 (residual_of e.wanted e.expected)

-- these are all frames of an exchange whose data are these: the first of them, to its total
pub record AllFrames (from : List ℕ) (full : ℕ) (e : Exchange) (pieces : List Piece) (r : Response) : Type 0 where
  pub bytes : joined pieces ≡ take (total e) from
  pub order : InOrder 0 0 pieces
  pub frames : length pieces ≡ frames_of (total e) full
  pub response : r ≡ Status 0x00 (residual_of e.wanted e.expected)

-- there are windows with which the exchange of a and x is served to its end, with nothing between its frames
pub record Ends (u : Unit) (unit : List ℕ) (a x : ℕ) (p : Port) : Type 0 where
  pub pieces : List Piece
  pub response : Response
  pub after : Port
  pub run : Run u unit a x p pieces response after
  pub lone : alone run ≡ true
