-- The refusals: their numbers, and the order in which each entry tests them (document 01, "Numbers returned for refused calls"; document 02, request 2).
use Rattle.std.specs.Prelude.{ℕ, List, [], ◌∷◌}
use Rattle.refusal.specs.declared.Refusal.{Refusal}
use Rattle.refusal.specs.declared.Refusal.TheVariants.{ShortBuffer, IllFormed, BadSize, NotOurs, BadSource, UnknownForm, Unproven, BadSetup, NoExchange, BadWindow, NoWrite}

-- the table, line by line
abbrev pub number_of : Refusal → ℕ
number_of ShortBuffer = 1
number_of IllFormed = 2
number_of BadSize = 3
number_of NotOurs = 4
number_of BadSource = 5
number_of UnknownForm = 6
number_of Unproven = 7
number_of BadSetup = 8
number_of NoExchange = 9
number_of BadWindow = 10
number_of NoWrite = 11

-- "Frame in: 1 to 7 in order." "11, data frame for no open write, after 7; then 10 for its window" (02, 2).
abbrev pub frame_order : List Refusal
frame_order = ShortBuffer ∷ IllFormed ∷ BadSize ∷ NotOurs ∷ BadSource ∷ UnknownForm ∷ Unproven ∷ NoWrite ∷ BadWindow ∷ []

-- "Next frame out: 1, 2, 9, 7, 10."
abbrev pub next_order : List Refusal
next_order = ShortBuffer ∷ IllFormed ∷ NoExchange ∷ Unproven ∷ BadWindow ∷ []

-- "Event: 2."
abbrev pub event_order : List Refusal
event_order = IllFormed ∷ []

-- "Making a drive: 8."
abbrev pub make_order : List Refusal
make_order = BadSetup ∷ []
