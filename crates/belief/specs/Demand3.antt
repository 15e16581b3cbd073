-- Demand 3: histories, and the three things that it says of them.
-- Assumes nothing.
use Rattle.std.specs.Prelude.{◌≡◌, Bool, true, false, List, [], ◌∷◌}
use Rattle.link.specs.Record.{Record, doubted}
use Rattle.belief.specs.Host.{Belief, unsure, sure, Answer, none, acc, rjt, dlogo, other, think, May, MayOut, hears, received}
use Rattle.belief.specs.Side.{Side}

-- The loop's choice: the request is lost; it arrives and its answer is lost; both arrive.
pub data Fate : Type 0 where
  lost mute heard : Fate

pub data Event (D : Side) : Type 0 where
  send : D.Sent → Fate → Event D
  -- a next frame for this host is called for, or else is called; what that leaves for the host the loop delivers (true) or loses (false)
  next : D.Call → Bool → Event D
  pass : D.Else → Bool → Event D
  -- a frame of another port reaches the host, whatever it sounds like
  foreign : Answer → Event D
  reset : Event D
  lapse : D.Lapse → Event D
  -- the host grows unsure of itself
  forget : Event D

pub record World (D : Side) : Type 0 where
  pub drive : D.State
  pub belief : Belief

-- what the host gets to see of an answer, and of a frame that it did not ask for
abbrev pub sees : Fate → Answer → Answer
sees lost a = none
sees mute a = none
sees heard a = a

abbrev pub arrives : Bool → Answer → Answer
arrives true a = a
arrives false a = none

-- the drive's next state
abbrev pub lands : (D : Side) → Fate → D.State → D.Sent → D.State
lands D lost s f = s
lands D mute s f = D.take s f
lands D heard s f = D.take s f

abbrev pub step : (D : Side) → World D → Event D → World D
step D w (send f x) = record { drive = lands D x w.drive f; belief = hears (D.asks f) (sees x (D.answer w.drive f)) w.belief }
step D w (next c b) = record { drive = D.call w.drive c; belief = received (arrives b (D.speaks w.drive c)) w.belief }
step D w (pass x b) = record { drive = D.pass w.drive x; belief = received (arrives b (D.says w.drive x)) w.belief }
-- "all from other ports, change nothing"
step D w (foreign a) = w
step D w reset = record { drive = D.reset w.drive; belief = think doubted w.belief }
step D w (lapse x) = record { drive = D.lapse w.drive x; belief = w.belief }
step D w forget = record { drive = w.drive; belief = unsure }

abbrev pub run : (D : Side) → World D → List (Event D) → World D
run D w [] = w
run D w (e ∷ h) = run D (step D w e) h

-- the host keeps its rules
abbrev pub Follows : (D : Side) → World D → Event D → Type 0
Follows D w (send f x) = May w.belief (D.asks f)
Follows D w (next c b) = Unit {0}
Follows D w (pass x b) = D.Aside w.drive x
Follows D w (foreign a) = Unit {0}
Follows D w reset = Unit {0}
Follows D w (lapse x) = Unit {0}
Follows D w forget = Unit {0}

abbrev pub Keeps : (D : Side) → World D → List (Event D) → Type 0
Keeps D w [] = Unit {0}
Keeps D w (e ∷ h) = Follows D w e × Keeps D (step D w e) h

-- "such a loss of memory": the event is one, by what the drive's state is when it comes
abbrev pub loss : (D : Side) → World D → Event D → Bool
loss D w (send f x) = false
loss D w (next c b) = false
loss D w (pass x b) = false
loss D w (foreign a) = false
loss D w reset = false
loss D w (lapse x) = D.loses w.drive x
loss D w forget = false

-- no loss of memory in the whole history
abbrev pub Free : (D : Side) → World D → List (Event D) → Type 0
Free D w [] = Unit {0}
Free D w (e ∷ h) = (loss D w e ≡ false) × Free D (step D w e) h

-- no event that may be one: the drive neither "powers on" nor "its verification time runs out"; such a history is free (`free_without_lapse`)
abbrev pub NoLapse : (D : Side) → List (Event D) → Type 0
NoLapse D [] = Unit {0}
NoLapse D (send f x ∷ h) = NoLapse D h
NoLapse D (next c b ∷ h) = NoLapse D h
NoLapse D (pass x b ∷ h) = NoLapse D h
NoLapse D (foreign a ∷ h) = NoLapse D h
NoLapse D (reset ∷ h) = NoLapse D h
NoLapse D (lapse x ∷ h) = ⊥
NoLapse D (forget ∷ h) = NoLapse D h

-- the host is unsure, or its belief equals the drive's record
abbrev pub Agrees : Belief → Record → Type 0
Agrees unsure r = Unit {0}
Agrees (sure x) r = x ≡ r

abbrev pub Fine : (D : Side) → World D → Type 0
Fine D w = Agrees w.belief (D.login w.drive)

abbrev pub some : Answer → Bool
some none = false
some acc = true
some rjt = true
some dlogo = true
some other = true

-- what the host gets from the drive by an event
abbrev pub gets : (D : Side) → World D → Event D → Answer
gets D w (send f x) = sees x (D.answer w.drive f)
gets D w (next c b) = arrives b (D.speaks w.drive c)
gets D w (pass x b) = arrives b (D.says w.drive x)
gets D w (foreign a) = none
gets D w reset = none
gets D w (lapse x) = none
gets D w forget = none

-- "once a frame from the drive reaches it"
abbrev pub reaches_host : (D : Side) → World D → Event D → Bool
reaches_host D w e = some (gets D w e)

-- unsure at first, with any well-formed drive
abbrev pub start : (D : Side) → D.State → World D
start D s = record { drive = s; belief = unsure }

-- A history h₁, then an event e, then h₂, in all of which the host keeps its rules.
pub record History (D : Side) (s : D.State) (h₁ : List (Event D)) (e : Event D) (h₂ : List (Event D)) : Type 0 where
  pub formed : D.Wf s
  pub first : Keeps D (start D s) h₁
  pub then : Follows D (run D (start D s) h₁) e
  pub last : Keeps D (step D (run D (start D s) h₁) e) h₂

pub record Demand3 (D : Side) : Type 0 where
  -- from the moment that the host becomes sure (by e) until a loss of memory
  pub sure_until : (s : D.State) (h₁ : List (Event D)) (e : Event D) (h₂ : List (Event D)) (x : Record) → History D s h₁ e h₂ →
      (run D (start D s) h₁).belief ≡ unsure → (step D (run D (start D s) h₁) e).belief ≡ sure x →
      Free D (step D (run D (start D s) h₁) e) h₂ → Fine D (run D (step D (run D (start D s) h₁) e) h₂)
  -- after any losses of memory, from the moment that a frame from the drive reaches the host (by e) until the next
  pub right_again : (s : D.State) (h₁ : List (Event D)) (e : Event D) (h₂ : List (Event D)) → History D s h₁ e h₂ →
      reaches_host D (run D (start D s) h₁) e ≡ true →
      Free D (step D (run D (start D s) h₁) e) h₂ → Fine D (run D (step D (run D (start D s) h₁) e) h₂)
  -- an answered PLOGI or LOGO: sure, and right
  pub ends_doubt : (s : D.State) (h₁ : List (Event D)) (f : D.Sent) → History D s h₁ (send f heard) [] →
      MayOut (D.asks f) → reaches_host D (run D (start D s) h₁) (send f heard) ≡ true →
      (step D (run D (start D s) h₁) (send f heard)).belief ≡ sure (D.login (step D (run D (start D s) h₁) (send f heard)).drive)
