-- When each refusal of a next frame applies (document 01, "Numbers returned for refused calls").
use Rattle.std.specs.Prelude.{ℕ, Bool, true, false, not, ◌&&◌, ◌||◌, List, [], ◌∷◌, eqb}
use Rattle.cover.specs.Cover.{holds, too_long}
use Rattle.refusal.specs.declared.Refusal.{Refusal}
use Rattle.refusal.specs.declared.Refusal.TheVariants.{ShortBuffer, IllFormed, BadSize, NotOurs, BadSource, UnknownForm, Unproven, BadSetup, NoExchange, BadWindow, NoWrite}
use Rattle.state.specs.declared.Port.{Port}
use Rattle.state.specs.Standing.{Standing}
use Rattle.state.specs.Standing as standing
use Rattle.state.specs.Changes.{login_at}
use Rattle.state.specs.Tables.{lookup_of}
use Rattle.formed.specs.Formed.{next_bytes}
use Rattle.serve.specs.Next.{reads_more, position, exchange_of, full_of}

-- 9: "no such open exchange"
abbrev pub no_exchange : Standing → Bool
no_exchange standing.NoLogin = true
no_exchange (standing.NoExchange i) = true
no_exchange (standing.Open i j) = false

-- 7: "login unproven", the exchange's
abbrev pub unproven_there : Port → Standing → Bool
unproven_there p standing.NoLogin = false
unproven_there p (standing.NoExchange i) = false
unproven_there p (standing.Open i j) = not (eqb (login_at p i).proven 1)

-- a window of len bytes from block start on is "holding that frame's bytes": those of the next frame of the exchange at places i and j
abbrev pub covers : Port → ℕ → ℕ → ℕ → ℕ → Bool
covers p start len i j = holds (position (exchange_of p i j)) (next_bytes (full_of p i) (exchange_of p i j)) start len

-- 10: "window too long or not covering"; "made data and FCP_RSP need no cover", nor FCP_XFER_RDY
abbrev pub bad_window : Port → ℕ → ℕ → Standing → Bool
bad_window p start len standing.NoLogin = false
bad_window p start len (standing.NoExchange i) = false
bad_window p start len (standing.Open i j) = too_long len || reads_more (exchange_of p i j) && not (covers p start len i j)

-- "When", of 9, 7 and 10, for a next frame of address a and OX_ID x with a window of len bytes from block start on; 1 and 2 are the entry's, and the others are not given to a next frame
abbrev pub applies_next : Port → ℕ → ℕ → ℕ → ℕ → Refusal → Bool
applies_next p a x start len ShortBuffer = false
applies_next p a x start len IllFormed = false
applies_next p a x start len BadSize = false
applies_next p a x start len NotOurs = false
applies_next p a x start len BadSource = false
applies_next p a x start len UnknownForm = false
applies_next p a x start len Unproven = unproven_there p (lookup_of p a x)
applies_next p a x start len BadSetup = false
applies_next p a x start len NoExchange = no_exchange (lookup_of p a x)
applies_next p a x start len BadWindow = bad_window p start len (lookup_of p a x)
applies_next p a x start len NoWrite = false

-- "Next frame out: .. 9, 7, 10"
abbrev pub served_order : List Refusal
served_order = NoExchange ∷ Unproven ∷ BadWindow ∷ []
