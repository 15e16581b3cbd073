-- The refusals of a frame in by what arrived, in their order (document 01, "Numbers returned for refused calls"; document 02, request 2).
use Rattle.std.specs.Prelude.{ℕ, ◌-◌, ◌%◌, Bool, false, cond, not, ◌&&◌, ◌||◌, List, [], ◌∷◌, eqb, leb, ltb, length, get_or, Err, Ok, Result}
use Rattle.tables.specs.Lists.{on_found}
use Rattle.tables.specs.Firsts.{first_of}
use Rattle.frame.specs.declared.Header.{Header}
use Rattle.address.specs.Address.{valid_address}
use Rattle.state.specs.declared.Port.{Port}
use Rattle.state.specs.declared.Unit.{Unit}
use Rattle.state.specs.Changes.{login_at}
use Rattle.state.specs.Tables.{find_login}
use Rattle.formed.specs.Formed.{well_formed}
use Rattle.refusal.specs.declared.Refusal.{Refusal}
use Rattle.refusal.specs.declared.Refusal.TheVariants.{ShortBuffer, IllFormed, BadSize, NotOurs, BadSource, UnknownForm, Unproven, BadSetup, NoExchange, BadWindow, NoWrite}
use Rattle.arrival.specs.declared.Form.{Form}
use Rattle.arrival.specs.declared.Form.TheVariants.{Link, Done, Abort, Command, Data}

-- 1: "reply buffer under 2,136 bytes"
abbrev pub short_buffer : ℕ → Bool
short_buffer room = ltb room 2136

-- 3: "frame not 24 to 2,136 bytes, or not a multiple of 4"
unfoldable pub bad_size : ℕ → Bool
bad_size size = ltb size 24 || ltb 2136 size || not (eqb (size % 4) 0)

-- 5: "S_ID not a valid address, or ours"
unfoldable pub bad_source : ℕ → ℕ → Bool
bad_source own from = not (valid_address from) || eqb from own

-- "(22h, 01h), (23h, 01h), (81h, 00h), (06h, 08h)"; "The form rule admits (01h, 08h)" (02, 2)
unfoldable pub known_pair : ℕ → ℕ → Bool
known_pair rctl protocol = cond (eqb rctl 0x22) (eqb protocol 0x01) (cond (eqb rctl 0x23) (eqb protocol 0x01) (cond (eqb rctl 0x81) (eqb protocol 0x00) (cond (eqb rctl 0x06) (eqb protocol 0x08) (eqb rctl 0x01 && eqb protocol 0x08))))

-- "SEQ_CNT or the low two bits of F_CTL not 0"; of a data frame (02, 2) "any SEQ_CNT and a fill count within its payload"
unfoldable pub bad_sequence : Header → ℕ → Bool
bad_sequence h size = cond (eqb h.r_ctl 0x01) (ltb (size - 24) (h.f_ctl % 4)) (not (eqb h.seq_cnt 0) || not (eqb (h.f_ctl % 4) 0))

-- 6: "R_CTL, TYPE not one of ..; or DF_CTL, SEQ_CNT or the low two bits of F_CTL not 0; or a 22h frame without payload"
unfoldable pub unknown_form : Header → ℕ → Bool
unknown_form h size =
    not (known_pair h.r_ctl h.protocol) || not (eqb h.df_ctl 0) || bad_sequence h size || eqb h.r_ctl 0x22 && leb size 24

-- "Refusal 7 spares only PLOGI, PDISC, ADISC, LOGO"
unfoldable pub spared : ℕ → ℕ → Bool
spared rctl code = eqb rctl 0x22 && (eqb code 0x03 || eqb code 0x05 || eqb code 0x50 || eqb code 0x52)

-- 7: "login unproven", the sender's
unfoldable pub unproven_login : Port → ℕ → Bool
unproven_login p from = on_found (find_login p from) (λ i. not (eqb (login_at p i).proven 1)) false

-- what a frame that passes is: 22h, 23h, 81h, 01h, 06h
unfoldable pub form_of : ℕ → Form
form_of rctl = cond (eqb rctl 0x22) Link (cond (eqb rctl 0x23) Done (cond (eqb rctl 0x81) Abort (cond (eqb rctl 0x01) Data Command)))

-- "When", of each number, for a frame f with header h at a drive of this address, where it is told whether the buffer is short, whether the state is well formed and whether the sender's login is unproven; 8 and 9 are not given to a frame in, and 11 and 10 only to a data frame, by what it comes to (`taking/specs/Taking.antt`)
abbrev pub applies_to : Bool → Bool → Bool → ℕ → Header → List ℕ → Refusal → Bool
applies_to short fine unproven own h f ShortBuffer = short
applies_to short fine unproven own h f IllFormed = not fine
applies_to short fine unproven own h f BadSize = bad_size (length f)
applies_to short fine unproven own h f NotOurs = not (eqb h.d_id own)
applies_to short fine unproven own h f BadSource = bad_source own h.s_id
applies_to short fine unproven own h f UnknownForm = unknown_form h (length f)
applies_to short fine unproven own h f Unproven = not (spared h.r_ctl (get_or f 24 0)) && unproven
applies_to short fine unproven own h f BadSetup = false
applies_to short fine unproven own h f NoExchange = false
applies_to short fine unproven own h f BadWindow = false
applies_to short fine unproven own h f NoWrite = false

-- "Frame in: 1 to 7 in order", once there is room; 11 and 10 come after these
unfoldable pub judged_by : Bool → Bool → ℕ → Header → List ℕ → Result Form Refusal
judged_by fine unproven own h f = first_of (applies_to false fine unproven own h f) (IllFormed ∷ BadSize ∷ NotOurs ∷ BadSource ∷ UnknownForm ∷ Unproven ∷ []) Err (Ok (form_of h.r_ctl))

-- the same for a buffer of so many bytes, at a unit and a port
abbrev pub applies_in : Unit → Port → Header → List ℕ → ℕ → Refusal → Bool
applies_in u p h f room x = applies_to (short_buffer room) (well_formed u p) (unproven_login p h.s_id) p.address h f x
