-- Frames told by what changes: what each comes to, seen by the port that calls, and the drive after that. `Drive.antt` and `Entry.antt` say what each entry answers; that these are the same is `frame_turn_lem`, `next_out_turn_lem`.
use Rattle.std.specs.Prelude.{ℕ, Bool, false, cond, not, List, [], eqb, length, Option, Err, Ok, Result}
use Rattle.tables.specs.Lists.{on_found}
use Rattle.frame.specs.declared.Header.{Header}
use Rattle.refusal.specs.declared.Refusal.{Refusal}
use Rattle.refusal.specs.declared.Refusal.TheVariants.{IllFormed}
use Rattle.reply.specs.declared.Reply.TheVariants as reply
use Rattle.reply.specs.Reply.{sent_of, written_of}
use Rattle.calls.specs.declared.View.{View}
use Rattle.calls.specs.declared.Decision.{Decision}
use Rattle.calls.specs.declared.Turn.{Turn}
use Rattle.calls.specs.Turn.{answers_only, refused_turn, sent_turn, port_after}
use Rattle.link.specs.Turn.{link_turn, abts_turn}
use Rattle.command.specs.Turn.{command_turn}
use Rattle.serve.specs.Turn.{next_turn, next_turn_buffer}
use Rattle.taking.specs.Taking.{is_data, taking_turn, taking_buffer, taking_window}
use Rattle.arrival.specs.declared.Form.{Form}
use Rattle.arrival.specs.declared.Form.TheVariants.{Link, Done, Abort, Command, Data}
use Rattle.arrival.specs.Arrival.{form_of, judged_by}
use Rattle.drive.specs.declared.Drive.{Drive}
use Rattle.drive.specs.declared.Answer.{Answer}

-- 7: "login unproven", by the flag of the login at a seat; that of the port that sees it
unfoldable pub unproven_at : Option ℕ → ℕ → Bool
unproven_at seat proven = on_found seat (λ _. not (eqb proven 1)) false

abbrev pub unproven_in : View → Bool
unproven_in v = unproven_at v.seat v.login.proven

-- refused by what arrived or not, once 1 is told
unfoldable pub arrived_in : View → Header → List ℕ → Result Form Refusal
arrived_in v h f = judged_by v.fine (unproven_in v) v.own.address h f

abbrev pub on_judged : {A : Type 0} → Result Form Refusal → (Refusal → A) → (Form → A) → A
on_judged (Err x) g k = g x
on_judged (Ok t) g k = k t

-- the reply to a frame of a form, and what changes; by the forms of `decided_of`, but for a data frame, which has a turn of its own
abbrev pub decision_as : View → Header → Form → List ℕ → Decision
decision_as v h Link f = link_turn v h f
decision_as v h Done f = answers_only reply.Nothing
decision_as v h Abort f = abts_turn v h
decision_as v h Command f = command_turn v h f
decision_as v h Data f = answers_only reply.Nothing

unfoldable pub decision_of : View → Header → List ℕ → Decision
decision_of v h f = decision_as v h (form_of h.r_ctl) f

-- what a frame comes to that is no data frame; a buffer under 2,136 bytes is left alone
unfoldable pub passed_turn : View → Header → List ℕ → ℕ → Turn
passed_turn v h f room = sent_turn (sent_of v.own h (decision_of v h f).reply [] room) (decision_of v h f)

unfoldable pub passed_buffer : View → Header → List ℕ → List ℕ → List ℕ
passed_buffer v h f l = written_of v.own h (decision_of v h f).reply [] l

-- what a frame that arrived well comes to, with a window of len bytes from block start on
unfoldable pub arrived_turn : View → Header → List ℕ → ℕ → ℕ → ℕ → Turn
arrived_turn v h f start len room = cond (is_data h) (taking_turn v h (length f) start len room) (passed_turn v h f room)

unfoldable pub arrived_buffer : View → Header → List ℕ → ℕ → ℕ → List ℕ → List ℕ
arrived_buffer v h f start len l = cond (is_data h) (taking_buffer v h (length f) start len l) (passed_buffer v h f l)

-- and the window after it: only a data frame's bytes go there
unfoldable pub arrived_window : View → Header → List ℕ → ℕ → List ℕ → List ℕ
arrived_window v h f start W = cond (is_data h) (taking_window v h f start W) W

-- what a next frame comes to, seen by the port at the address a, once 1 is told
unfoldable pub next_out_turn : View → ℕ → ℕ → ℕ → List ℕ → ℕ → Turn
next_out_turn v a x start W room = cond v.fine (next_turn v a x start W room) (refused_turn IllFormed)

unfoldable pub next_out_buffer : View → ℕ → ℕ → ℕ → List ℕ → List ℕ → List ℕ
next_out_buffer v a x start W l = cond v.fine (next_turn_buffer v a x start W l) l

-- the drive after a turn
abbrev pub answer_to : Drive → Turn → Answer
answer_to d t = record { said = t.said; drive = record { unit = d.unit; port = port_after d.port t } }
