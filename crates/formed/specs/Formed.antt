-- When a state is well formed (document 01, "Setup" and "Well formed"; document 02, requests 1 and 2).
use Rattle.std.specs.Prelude.{ℕ, ◌+◌, ◌-◌, ◌*◌, ◌/◌, ◌%◌, min, Bool, cond, not, ◌&&◌, ◌||◌, eqb, leb, ltb}
use Rattle.tables.specs.Lists.{all, pairs}
use Rattle.wire.specs.Bytes.{name_of}
use Rattle.address.specs.Address.{valid_address}
use Rattle.params.specs.Words.{params_of, size_fails, zero_name, setup_passes}
use Rattle.state.specs.declared.Exchange.{Exchange}
use Rattle.state.specs.declared.Login.{Login}
use Rattle.state.specs.declared.Own.{Own}
use Rattle.state.specs.declared.Port.{Port}
use Rattle.state.specs.declared.Setup.{Setup}
use Rattle.state.specs.declared.Unit.{Unit}
use Rattle.state.specs.Changes.{is_used, is_closed, own_of}
use Rattle.state.specs.Kinds.{kind_blocks, kind_inquiry_other, kind_capacity, kind_sense_other, to_host, is_write}
use Rattle.state.specs.Tables.{is_free}

-- "Capacity 1 to 4,294,967,295 blocks of 512 bytes; own address; 28 identity bytes; words 1 to 28 of the login accept, which must pass the PLOGI rules below with W20/B1 = 01h"; whether "setup allows" writing (02, 2) is 0 or 1
unfoldable pub setup_rules : Setup → Bool
setup_rules s = leb 1 s.capacity && leb s.capacity 4294967295 && valid_address s.address && setup_passes (params_of s.accept 0) && leb s.writable 1

-- the setup that a unit and a port have
unfoldable pub setup_of : Unit → Own → Setup
setup_of u o = record { capacity = u.capacity; address = o.address; identity = u.identity; accept = o.accept; writable = u.writable }

-- "A frame carries the login's W18 size, 2,048 at most": the bytes of a full data frame
abbrev pub full_frame : ℕ → ℕ
full_frame size = min size 2048

-- "To send: the smaller of wanted and FCP_DL"; of a WRITE, to take
abbrev pub total : Exchange → ℕ
total e = min e.wanted e.expected

-- "A frame carries the login's W18 size, 2,048 at most, or what is left"
abbrev pub next_bytes : ℕ → Exchange → ℕ
next_bytes full e = min full (total e - e.sent)

-- READ(10) and WRITE(10): 1 to 65,535 blocks, all of them on the unit, and 512 bytes wanted for each
unfoldable pub blocks_fit : Unit → Exchange → Bool
blocks_fit u e =
    leb 1 e.blocks && leb e.blocks 65535 && eqb e.wanted (512 * e.blocks) && ltb e.start u.capacity && leb (e.start + e.blocks) u.capacity

-- "Wanted: .. 18 or byte 4 if smaller ..; 36 or byte 4 if smaller ..; 8": what a command of the exchange's kind wants of made data, and there is no other kind
abbrev pub made_wants : Exchange → Bool
made_wants e =
    cond (leb e.kind kind_inquiry_other) (leb 1 e.wanted && leb e.wanted 36)
    (cond (eqb e.kind kind_capacity) (eqb e.wanted 8)
    (leb e.kind kind_sense_other && leb 1 e.wanted && leb e.wanted 18))

-- "each exchange is one an accepted command could open": only READ(10) and WRITE(10) name blocks, so start and blocks of every other are 0
unfoldable pub made_fits : Exchange → Bool
made_fits e = eqb e.start 0 && eqb e.blocks 0 && made_wants e

-- a READ or WRITE, or an exchange of made data
unfoldable pub wanted_fits : Unit → Exchange → Bool
wanted_fits u e = cond (eqb e.kind kind_blocks) (blocks_fit u e) (made_fits e)

-- "WRITE(10) on units whose setup allows it" (02, 2): data come from the host only of blocks, and where the unit may be written
unfoldable pub direction_fits : Unit → Exchange → Bool
direction_fits u e = eqb e.direction to_host || is_write e && eqb e.kind kind_blocks && eqb u.writable 1

-- "each exchange is one an accepted command could open"
abbrev pub openable : Unit → Exchange → Bool
openable u e = leb 1 e.expected && wanted_fits u e && direction_fits u e

-- the data frames of a full frame's bytes that carry what was sent
abbrev pub frames_of : ℕ → ℕ → ℕ
frames_of sent full = (sent + (full - 1)) / full

-- "with bytes sent at most its total and, short of it, a whole number of full frames"; and the count is that of the data frames sent
unfoldable pub sent_fits : ℕ → Exchange → Bool
sent_fits full e =
    leb e.sent (total e) && (leb (total e) e.sent || eqb (e.sent % full) 0) && eqb e.count (frames_of e.sent full % 65536)

-- a WRITE (02, 2): the host sent at most the total; data are awaited only short of it, and where none are all came or a whole number of bursts of 65,536; the drive sent no data frame
unfoldable pub taken_fits : Exchange → Bool
taken_fits e =
    leb e.sent (total e) && leb e.awaited 1 && cond (eqb e.awaited 1) (ltb e.sent (total e)) (leb (total e) e.sent || eqb (e.sent % 65536) 0) && eqb e.count 0

-- "the full-frame rule binds reads only" (02, 2), of which no data are awaited
unfoldable pub moved_fits : ℕ → Exchange → Bool
moved_fits full e = cond (is_write e) (taken_fits e) (eqb e.awaited 0 && sent_fits full e)

-- "exchanges only at paired logins": a place is free, or its login is paired and its exchange fits
unfoldable pub exchange_fine : Unit → ℕ → ℕ → Exchange → Bool
exchange_fine u full paired e = is_closed e || eqb paired 1 && openable u e && moved_fits full e

-- "OX_IDs distinct within a login"
unfoldable pub apart_id : Exchange → Exchange → Bool
apart_id e f = is_closed e || is_closed f || not (eqb e.ox_id f.ox_id)

-- "stored parameters pass the PLOGI rules"
unfoldable pub params_fine : Login → Bool
params_fine l =
    not (zero_name l.port_name) && not (zero_name l.node_name) && not (size_fails l.size) && not (eqb l.concurrent 0) && not (eqb l.sequences 0)

-- flags are 0 or 1, and the attention is none, 29h or 2Fh
unfoldable pub flags_fine : Login → Bool
flags_fine l = leb l.proven 1 && leb l.paired 1 && (eqb l.attention 0 || eqb l.attention 0x29 || eqb l.attention 0x2f)

-- "login addresses valid, .. not ours"
unfoldable pub address_fine : ℕ → Login → Bool
address_fine own l = valid_address l.address && not (eqb l.address own)

-- a login that is used
unfoldable pub used_fine : Unit → ℕ → Login → Bool
used_fine u own l =
    flags_fine l && address_fine own l && params_fine l && all (exchange_fine u (full_frame l.size) l.paired) l.places && pairs apart_id l.places

-- a place for a login: free with no open exchange, or a login that is fine
unfoldable pub login_fine : Unit → ℕ → Login → Bool
login_fine u own l = cond (is_used l) (used_fine u own l) (eqb l.used 0 && all is_closed l.places)

-- "login addresses .. distinct"; "Login port names are then distinct" (02, 1), among places in use
unfoldable pub apart_login : Login → Login → Bool
apart_login l m = is_free l || is_free m || (not (eqb l.address m.address) && not (eqb (name_of l.port_name) (name_of m.port_name)))

-- "Well formed: setup rules hold; ..": the unit and a port
unfoldable pub well_formed : Unit → Port → Bool
well_formed u p =
    setup_rules (setup_of u (own_of p)) && all (login_fine u p.address) p.logins && pairs apart_login p.logins
