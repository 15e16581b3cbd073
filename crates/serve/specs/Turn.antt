-- What a next frame does, told by what changes. `Next.antt` says what it makes of the whole port; that this is the same, at a port that is well formed, is `next_turn_lem`.
use Rattle.std.specs.Prelude.{ℕ, cond, not, List, eqb, length, Some, Ok}
use Rattle.tables.specs.Lists.{on_found}
use Rattle.frame.specs.declared.Header.{Header}
use Rattle.refusal.specs.declared.Refusal.TheVariants.{NoExchange, Unproven, BadWindow}
use Rattle.state.specs.declared.Exchange.{Exchange}
use Rattle.state.specs.declared.Login.{Login}
use Rattle.state.specs.declared.Port.{Port}
use Rattle.state.specs.declared.Change.TheVariants.{Keep}
use Rattle.state.specs.Changes.{exchange_at, with_exchange}
use Rattle.state.specs.Tables.{find_exchange}
use Rattle.formed.specs.Formed.{full_frame}
use Rattle.reply.specs.declared.Reply.{Reply}
use Rattle.reply.specs.Reply.{sent_of, written_of}
use Rattle.calls.specs.declared.View.{View}
use Rattle.calls.specs.declared.Turn.{Turn}
use Rattle.calls.specs.Turn.{refused_turn, port_after}
use Rattle.serve.specs.Next.{window_place, next_reply, next_exchange, source_of, asked_by, Next}

-- the bytes of a full frame to the login that is seen, and its exchange at a place
abbrev pub full_in : View → ℕ
full_in v = full_frame v.login.size

abbrev pub exchange_in : View → ℕ → Exchange
exchange_in v j = exchange_at v.login j

-- the header and the reply of the next frame of the exchange at place j
abbrev pub asked_in : View → ℕ → ℕ → Header
asked_in v a x = asked_by v.own.address a x

abbrev pub reply_in : View → ℕ → Reply
reply_in v j = next_reply (full_in v) (exchange_in v j)

-- the login after it
abbrev pub login_on : View → ℕ → Login
login_on v j = with_exchange v.login j (next_exchange (full_in v) (exchange_in v j))

-- the frame of the exchange at place j of the login at place i, its data from place k on
abbrev pub frame_turn : View → ℕ → ℕ → ℕ → ℕ → ℕ → List ℕ → ℕ → Turn
frame_turn v a x i j k W room =
    record { said = Ok (sent_of v.own (asked_in v a x) (reply_in v j) (source_of v.unit (exchange_in v j) k W) room); change = Keep; at = Some i; login = login_on v j }

-- by the refusals in their order, "9, 7, 10"
abbrev pub on_open : {A : Type 0} → View → ℕ → ℕ → ℕ → (ℕ → ℕ → ℕ → A) → A → A → A → A
on_open v x start len frame none unproven uncovered =
    on_found v.seat
    (λ i. on_found (find_exchange v.login x)
    (λ j. cond (not (eqb v.login.proven 1)) unproven (on_found (window_place (full_in v) (exchange_in v j) start len) (λ k. frame i j k) uncovered)) none) none

unfoldable pub next_turn : View → ℕ → ℕ → ℕ → List ℕ → ℕ → Turn
next_turn v a x start W room =
    on_open v x start (length W) (λ i j k. frame_turn v a x i j k W room) (refused_turn NoExchange) (refused_turn Unproven) (refused_turn BadWindow)

unfoldable pub next_turn_buffer : View → ℕ → ℕ → ℕ → List ℕ → List ℕ → List ℕ
next_turn_buffer v a x start W l =
    on_open v x start (length W) (λ i j k. written_of v.own (asked_in v a x) (reply_in v j) (source_of v.unit (exchange_in v j) k W) l) l l l

-- what is said by a turn, and the port after it
abbrev pub next_by : Port → Turn → Next
next_by p t = record { said = t.said; port = port_after p t }
