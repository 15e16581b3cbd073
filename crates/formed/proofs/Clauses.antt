-- For each clause of "Well formed" (document 01) a state that breaks it and no other, beside states that keep it; every line is computed.
-- Two break what another clause asks too: W20/B1 = 0 of a setup, and a READ from the capacity on. Assumes nothing.
use Prim.Native.Nat.{ℕ}
use mathlib.Core.Path.{◌≡◌, refl}
use mathlib.Core.Bool.{Bool, true, false}
use mathlib.Core.List.{List, [], ◌∷◌, ◌++◌}
use lib.ListN.{replicate}
use Rattle.wire.specs.Bytes.{name_of}
use Rattle.address.specs.Address.{valid_address}
use Rattle.params.specs.Words.{params_of, size_fails, zero_name, verdict_of, setup_passes}
use Rattle.state.specs.declared.Exchange.{Exchange}
use Rattle.state.specs.declared.Login.{Login}
use Rattle.state.specs.declared.Port.{Port}
use Rattle.state.specs.declared.Unit.{Unit}
use Rattle.state.specs.Changes.{empty_exchange, empty_login, own_of}
use Rattle.formed.specs.Formed.{setup_rules, setup_of, blocks_fit, made_fits, wanted_fits, direction_fits, sent_fits, taken_fits, moved_fits, exchange_fine, apart_id, params_fine, flags_fine, address_fine, used_fine, login_fine, apart_login, well_formed}

-- a unit of this capacity, and whether it may be written
abbrev pub unit_with : (capacity writable : ℕ) → Unit
unit_with capacity writable = record { capacity = capacity; identity = replicate 28 0x20; writable = writable }

-- one that may not
abbrev pub unit_of : ℕ → Unit
unit_of capacity = unit_with capacity 0

abbrev pub name : List ℕ
name = replicate 8 0x20

-- a port name that ends with this byte
abbrev pub named : ℕ → List ℕ
named last = replicate 7 0x20 ++ (last ∷ [])

abbrev pub zeros : List ℕ
zeros = replicate 8 0

-- words 1 to 28 of a login accept with these W19/B1 and W20/B1: size 2,048 in W2 and W18, both names, class 3
abbrev pub words : (concurrent sequences : ℕ) → List ℕ
words concurrent sequences =
    replicate 6 0 ++ (0x08 ∷ replicate 9 0) ++ named 0xef ++ name ++ replicate 32 0
    ++ (0x80 ∷ 0 ∷ 0 ∷ 0 ∷ 0 ∷ 0 ∷ 0x08 ∷ 0 ∷ 0 ∷ concurrent ∷ 0 ∷ 0 ∷ 0 ∷ sequences ∷ replicate 34 0)

-- a port of this address and accept, with these logins at its first places and none at the others
abbrev pub port_of : (own : ℕ) (accept : List ℕ) (l m : Login) → Port
port_of own accept l m = record { address = own; accept = accept; logins = l ∷ m ∷ replicate 6 empty_login }

abbrev pub login : (used proven paired attention address : ℕ) (port node : List ℕ) (size concurrent sequences : ℕ) (places : List Exchange) → Login
login used proven paired attention address port node size concurrent sequences places =
    record {
      used = used;
      proven = proven;
      paired = paired;
      attention = attention;
      concurrent = concurrent;
      sequences = sequences;
      size = size;
      address = address;
      port_name = port;
      node_name = node;
      places = places;
    }

abbrev pub directed : (direction awaited kind id start blocks wanted expected sent count : ℕ) → Exchange
directed direction awaited kind id start blocks wanted expected sent count =
    record {
      kind = kind;
      ox_id = id;
      count = count;
      blocks = blocks;
      start = start;
      wanted = wanted;
      expected = expected;
      sent = sent;
      direction = direction;
      awaited = awaited;
    }

-- whose data go to the host
abbrev pub exchange : (kind id start blocks wanted expected sent count : ℕ) → Exchange
exchange kind id start blocks wanted expected sent count = directed 0 0 kind id start blocks wanted expected sent count

-- a READ, of OX_ID 1234h
abbrev pub reading : (start blocks wanted expected sent count : ℕ) → Exchange
reading start blocks wanted expected sent count = exchange 1 0x1234 start blocks wanted expected sent count

-- a WRITE of 256 blocks from block 10 on, two bursts in all
abbrev pub writing : (awaited expected sent count : ℕ) → Exchange
writing awaited expected sent count = directed 1 awaited 1 0x1234 10 256 131072 expected sent count

-- an exchange of another kind, of OX_ID 1235h
abbrev pub other : (kind wanted expected sent count : ℕ) → Exchange
other kind wanted expected sent count = exchange kind 0x1235 0 0 wanted expected sent count

-- the same with a start and blocks, of which nothing was sent
abbrev pub placed : (kind start blocks wanted : ℕ) → Exchange
placed kind start blocks wanted = exchange kind 0x1235 start blocks wanted 36 0 0

-- two exchanges at the first places of a login, and none at the others
abbrev pub two : Exchange → Exchange → List Exchange
two e f = e ∷ f ∷ replicate 6 empty_exchange

-- a READ of four blocks from block 10 on, of which two frames of 256 bytes were sent
abbrev pub halfway : Exchange
halfway = reading 10 4 2048 2048 512 2

-- an INQUIRY of which nothing was sent
abbrev pub asked : Exchange
asked = other 2 36 36 0 0

abbrev pub busy : List Exchange
busy = two halfway asked

abbrev pub idle : List Exchange
idle = replicate 8 empty_exchange

-- the login of address 01h with these flags, attention and exchanges
abbrev pub flagged : (used proven paired attention : ℕ) → List Exchange → Login
flagged used proven paired attention es = login used proven paired attention 0x01 name name 256 1 1 es

-- with these parameters and exchanges
abbrev pub stored : (port node : List ℕ) (size concurrent sequences : ℕ) → List Exchange → Login
stored port node size concurrent sequences es = login 1 1 1 0 0x01 port node size concurrent sequences es

-- the same login of another address, with both exchanges, and a port name that ends with this byte
abbrev pub at : (address last : ℕ) → Login
at address last = login 1 1 1 0 address (named last) name 256 1 1 busy

-- its place once it is free, without exchanges
abbrev pub freed : Login → Login
freed l = login 0 0 0 0 l.address l.port_name l.node_name 256 1 1 idle

-- a free place with numbers left over in every field, all of which a login would fail for
abbrev pub stale : Login
stale = login 0 2 2 1 0xef zeros zeros 252 0 0 (replicate 8 (exchange 0 0x1234 200 0 7 0 9 3))

-- whether a unit of 100 blocks and a port of address EFh are well formed with these two logins
abbrev pub both : Login → Login → Bool
both l m = well_formed (unit_of 100) (port_of 0xef (words 1 1) l m)

-- with one login
abbrev pub one : Login → Bool
one l = both l empty_login

-- with one login that has these two exchanges
abbrev pub opened : Exchange → Exchange → Bool
opened e f = one (flagged 1 1 1 0 (two e f))

-- with one login that has these exchanges, and another capacity, own address, W19/B1 and W20/B1 of the accept
abbrev pub setup : (capacity own concurrent sequences : ℕ) → List Exchange → Bool
setup capacity own concurrent sequences es = well_formed (unit_of capacity) (port_of own (words concurrent sequences) (flagged 1 1 1 0 es) empty_login)

-- a large unit, with a READ of these
abbrev pub large : (blocks wanted sent count : ℕ) → Bool
large blocks wanted sent count = setup 4294967295 0xef 1 1 (two (reading 0 blocks wanted wanted sent count) asked)

-- a unit of 1,000 blocks that may be written or not, with this exchange
abbrev pub onto : (writable : ℕ) → Exchange → Bool
onto writable e = well_formed (unit_with 1000 writable) (port_of 0xef (words 1 1) (flagged 1 1 1 0 (two e asked)) empty_login)

-- one that may
abbrev pub written : Exchange → Bool
written e = onto 1 e

-- "setup rules hold"
pub setup_clauses :
    (setup 100 0xef 1 1 busy ≡ true)  -- the well-formed state
    × (setup 0 0xef 1 1 idle ≡ false)  -- "Capacity 1 to 4,294,967,295 blocks": 0; idle, as no READ fits then
    × (setup 1 0xef 1 1 idle ≡ true)  -- the least
    × (setup 4294967295 0xef 1 1 busy ≡ true)  -- the most
    × (setup 4294967296 0xef 1 1 busy ≡ false)  -- "Capacity 1 to 4,294,967,295 blocks": one more
    × (setup 100 0x03 1 1 busy ≡ false)  -- "own address": "a low byte among FC-AL's 127 loop addresses"
    × (setup 100 0x00 1 1 busy ≡ false)  -- "00h excepted"
    × (setup 100 0x0100ef 1 1 busy ≡ false)  -- "upper bytes 0000h"
    × (setup 100 0xef 0 1 busy ≡ false)  -- "words 1 to 28 of the login accept, which must pass the PLOGI rules": "W19/B1 not 0"
    × (setup 100 0xef 255 1 busy ≡ true)  -- W19/B1 may be any other
    × (setup 100 0xef 1 0 busy ≡ false)  -- "W20/B1 not 0"
    × (setup 100 0xef 1 2 busy ≡ false)  -- "with W20/B1 = 01h"
    × (onto 0 halfway ≡ true)  -- "units whose setup allows it" (02, 2): it does not
    × (onto 1 halfway ≡ true)  -- it does
    × (onto 2 halfway ≡ false)  -- there is no third
unfolding well_formed setup_rules setup_of own_of valid_address setup_passes params_of verdict_of size_fails zero_name login_fine used_fine flags_fine address_fine params_fine exchange_fine wanted_fits blocks_fit made_fits direction_fits sent_fits taken_fits moved_fits apart_id apart_login name_of
setup_clauses = (refl, refl, refl, refl, refl, refl, refl, refl, refl, refl, refl, refl, refl, refl, refl)

-- the flags and the attention of a login, and its address
pub login_clauses :
    (one (flagged 1 1 1 0 idle) ≡ true)  -- the same login with no exchanges
    × (one (flagged 0 1 1 0 idle) ≡ true)  -- a free place
    × (one (flagged 2 1 1 0 idle) ≡ false)  -- flags are 0 or 1: used is 2
    × (one (flagged 1 0 1 0 busy) ≡ true)  -- unproven
    × (one (flagged 1 2 1 0 busy) ≡ false)  -- proven is 2
    × (one (flagged 1 1 0 0 idle) ≡ true)  -- unpaired
    × (one (flagged 1 1 2 0 idle) ≡ false)  -- paired is 2; idle, as exchanges stand at paired logins only
    × (one (flagged 1 1 1 0x29 busy) ≡ true)  -- "attention 29h"
    × (one (flagged 1 1 1 0x2f busy) ≡ true)  -- "2Fh"
    × (one (flagged 1 1 1 1 busy) ≡ false)  -- the attention is none, 29h or 2Fh
    × (one (at 0x02 0x02) ≡ true)  -- another address
    × (one (at 0x03 0x02) ≡ false)  -- "login addresses valid"
    × (one (at 0x00 0x02) ≡ false)  -- "00h excepted"
    × (one (at 0x010001 0x02) ≡ false)  -- "upper bytes 0000h"
    × (one (at 0xef 0x02) ≡ false)  -- "not ours"
    × (both (at 0x01 0x01) (at 0x02 0x02) ≡ true)  -- two logins with the same OX_IDs
    × (both (at 0x01 0x01) (at 0x01 0x02) ≡ false)  -- "distinct", whatever their port names
    × (both (at 0x01 0x01) (at 0x02 0x01) ≡ false)  -- "Login port names are then distinct" (02, 1), whatever their addresses; the node names may be the same
    × (both (at 0x01 0x01) (freed (at 0x02 0x01)) ≡ true)  -- a free place may keep an old port name
    × (both (freed (at 0x02 0x01)) (at 0x01 0x01) ≡ true)  -- before the login too
    × (both (stored (named 0x01) (named 0x02) 256 1 1 busy) (at 0x02 0x02) ≡ true)  -- nor is a node name compared with a port name
    × (both stale stale ≡ true)  -- of free places nothing is asked
    × (both stale (at 0x01 0x01) ≡ true)  -- nor of them beside a login
    × (one (flagged 0 1 1 0 busy) ≡ false)  -- but that they hold no open exchange
unfolding well_formed setup_rules setup_of own_of valid_address setup_passes params_of verdict_of size_fails zero_name login_fine used_fine flags_fine address_fine params_fine exchange_fine wanted_fits blocks_fit made_fits direction_fits sent_fits taken_fits moved_fits apart_id apart_login name_of
login_clauses = (refl, refl, refl, refl, refl, refl, refl, refl, refl, refl, refl, refl, refl, refl, refl, refl, refl, refl, refl, refl, refl, refl, refl, refl)

-- "stored parameters pass the PLOGI rules"; idle where another size would break what is asked of the bytes sent
pub parameter_clauses :
    (one (stored name name 256 1 1 busy) ≡ true)  -- the well-formed state
    × (one (stored zeros name 256 1 1 busy) ≡ false)  -- "port name W5-6 not zero"
    × (one (stored name zeros 256 1 1 busy) ≡ false)  -- "node name W7-8 not zero"
    × (one (stored name name 252 1 1 idle) ≡ false)  -- "from 256 to 2,112"
    × (one (stored name name 256 1 1 idle) ≡ true)  -- the least
    × (one (stored name name 258 1 1 idle) ≡ false)  -- "and a multiple of 4"
    × (one (stored name name 260 1 1 idle) ≡ true)  -- the next
    × (one (stored name name 2112 1 1 idle) ≡ true)  -- the most
    × (one (stored name name 2116 1 1 idle) ≡ false)  -- "from 256 to 2,112"
    × (one (stored name name 4352 1 1 idle) ≡ false)  -- 256 in its "low 12 bits": what is stored has no others
    × (one (stored name name 256 0 1 busy) ≡ false)  -- "W19/B1 not 0"
    × (one (stored name name 256 1 0 busy) ≡ false)  -- "W20/B1 not 0"
    × (one (stored name name 256 255 255 busy) ≡ true)  -- W20/B1 = 01h is asked of the setup alone
unfolding well_formed setup_rules setup_of own_of valid_address setup_passes params_of verdict_of size_fails zero_name login_fine used_fine flags_fine address_fine params_fine exchange_fine wanted_fits blocks_fit made_fits direction_fits sent_fits taken_fits moved_fits apart_id apart_login name_of
parameter_clauses = (refl, refl, refl, refl, refl, refl, refl, refl, refl, refl, refl, refl, refl)

-- where exchanges stand, and "each exchange is one an accepted command could open"
pub exchange_clauses :
    (opened halfway asked ≡ true)  -- the well-formed state
    × (one (flagged 1 1 0 0 busy) ≡ false)  -- "exchanges only at paired logins"
    × (opened halfway (exchange 2 0x1234 0 0 36 36 0 0) ≡ false)  -- "OX_IDs distinct within a login"
    × (opened halfway (exchange 0 0x1234 0 0 36 36 0 0) ≡ true)  -- an OX_ID left over in a free place is none
    × (opened halfway (other 8 8 8 0 0) ≡ true)  -- the last kind
    × (opened halfway (other 9 8 8 0 0) ≡ false)  -- there is no such kind
    × (opened halfway (other 2 36 0 0 0) ≡ false)  -- it has "bytes to send", so FCP_DL is not 0
    × (opened halfway (other 2 36 1 0 0) ≡ true)  -- the least
    × (opened (reading 10 1 512 2048 512 2) asked ≡ true)  -- one block
    × (opened (reading 10 0 0 2048 0 0) asked ≡ false)  -- READ: "count × 512" of no blocks is nothing to send
    × (opened (reading 10 4 2047 2048 512 2) asked ≡ false)  -- "count × 512", one less
    × (opened (reading 10 4 2560 2048 512 2) asked ≡ false)  -- "count × 512", a block more
    × (opened (reading 100 1 512 2048 512 2) asked ≡ false)  -- "address not below capacity", and so plus any count above it
    × (opened (reading 99 1 512 2048 512 2) asked ≡ true)  -- the last block
    × (opened (reading 97 4 2048 2048 512 2) asked ≡ false)  -- "address plus count above it"
    × (opened (reading 96 4 2048 2048 512 2) asked ≡ true)  -- ends exactly at the capacity
    × (large 65535 33553920 0 0 ≡ true)  -- the most blocks
    × (large 65536 33554432 0 0 ≡ false)  -- the count of READ(10) has 16 bits
    × (opened halfway (other 2 0 36 0 0) ≡ false)  -- INQUIRY: "36 or byte 4 if smaller", and not nothing
    × (opened halfway (other 2 37 36 0 0) ≡ false)  -- one more
    × (opened halfway (other 3 1 36 0 0) ≡ true)  -- of another unit, the least
    × (opened halfway (other 3 0 36 0 0) ≡ false)  -- of another unit, nothing
    × (opened halfway (other 3 37 36 0 0) ≡ false)  -- and one more
    × (opened halfway (other 4 8 36 0 0) ≡ true)  -- READ CAPACITY
    × (opened halfway (other 4 7 36 0 0) ≡ false)  -- "8", one less
    × (opened halfway (other 4 9 36 0 0) ≡ false)  -- one more
    × (opened halfway (other 5 18 36 0 0) ≡ true)  -- REQUEST SENSE with 00/00/00, the most
    × (opened halfway (other 5 19 36 0 0) ≡ false)  -- "18 or byte 4 if smaller", one more
    × (opened halfway (other 5 0 36 0 0) ≡ false)  -- and not nothing
    × (opened halfway (other 8 1 36 0 0) ≡ true)  -- with 05/25/00, the least
    × (opened halfway (other 8 19 36 0 0) ≡ false)  -- with 05/25/00, one more than 18
    × (opened halfway (other 8 0 36 0 0) ≡ false)  -- and not nothing
unfolding well_formed setup_rules setup_of own_of valid_address setup_passes params_of verdict_of size_fails zero_name login_fine used_fine flags_fine address_fine params_fine exchange_fine wanted_fits blocks_fit made_fits direction_fits sent_fits taken_fits moved_fits apart_id apart_login name_of
exchange_clauses = (refl, refl, refl, refl, refl, refl, refl, refl, refl, refl, refl, refl, refl, refl, refl, refl, refl, refl, refl, refl, refl, refl, refl, refl, refl, refl, refl, refl, refl, refl, refl, refl)

-- "each exchange is one an accepted command could open": only READ(10) and WRITE(10) name blocks, and every other kind has start and blocks 0
pub made_clauses :
    (opened halfway (placed 2 0 0 36) ≡ true)  -- INQUIRY
    × (opened halfway (placed 2 1 0 36) ≡ false)  -- a start
    × (opened halfway (placed 2 0 1 36) ≡ false)  -- a block
    × (opened halfway (placed 3 0 0 36) ≡ true)  -- INQUIRY for another LUN
    × (opened halfway (placed 3 1 0 36) ≡ false)  -- a start
    × (opened halfway (placed 3 0 1 36) ≡ false)  -- a block
    × (opened halfway (placed 4 0 0 8) ≡ true)  -- READ CAPACITY
    × (opened halfway (placed 4 1 0 8) ≡ false)  -- a start
    × (opened halfway (placed 4 0 1 8) ≡ false)  -- a block
    × (opened halfway (placed 5 0 0 18) ≡ true)  -- REQUEST SENSE with 00/00/00
    × (opened halfway (placed 5 1 0 18) ≡ false)  -- a start
    × (opened halfway (placed 5 0 1 18) ≡ false)  -- a block
    × (opened halfway (placed 6 0 0 18) ≡ true)  -- with 06/29/00
    × (opened halfway (placed 6 1 0 18) ≡ false)  -- a start
    × (opened halfway (placed 6 0 1 18) ≡ false)  -- a block
    × (opened halfway (placed 7 0 0 18) ≡ true)  -- with 06/2F/00
    × (opened halfway (placed 7 1 0 18) ≡ false)  -- a start
    × (opened halfway (placed 7 0 1 18) ≡ false)  -- a block
    × (opened halfway (placed 8 0 0 18) ≡ true)  -- with 05/25/00
    × (opened halfway (placed 8 1 0 18) ≡ false)  -- a start
    × (opened halfway (placed 8 0 1 18) ≡ false)  -- a block
unfolding well_formed setup_rules setup_of own_of valid_address setup_passes params_of verdict_of size_fails zero_name login_fine used_fine flags_fine address_fine params_fine exchange_fine wanted_fits blocks_fit made_fits direction_fits sent_fits taken_fits moved_fits apart_id apart_login name_of
made_clauses = (refl, refl, refl, refl, refl, refl, refl, refl, refl, refl, refl, refl, refl, refl, refl, refl, refl, refl, refl, refl, refl)

-- "with bytes sent at most its total and, short of it, a whole number of full frames", and the count of the data frames sent
pub sent_clauses :
    (opened (reading 10 4 2048 2048 2048 8) asked ≡ true)  -- all sent
    × (opened (reading 10 4 2048 2048 2304 9) asked ≡ false)  -- "bytes sent at most its total"
    × (opened (reading 10 4 2048 1000 1000 4) asked ≡ true)  -- all that FCP_DL lets be sent
    × (opened (reading 10 4 2048 1000 1024 4) asked ≡ false)  -- the total is "the smaller of wanted and FCP_DL"
    × (opened (reading 10 4 2048 2048 500 2) asked ≡ false)  -- "short of it, a whole number of full frames"
    × (opened halfway (other 2 36 36 36 1) ≡ true)  -- all sent, in a frame that is not full
    × (opened halfway (other 2 36 36 35 1) ≡ false)  -- and short of it
    × (opened (reading 10 4 2048 2048 512 1) asked ≡ false)  -- "SEQ_CNT the frame's number from 0": two were sent, one less
    × (opened (reading 10 4 2048 2048 512 3) asked ≡ false)  -- one more
    × (one (stored name name 2112 1 1 (two (reading 10 9 4608 4608 4096 2) asked)) ≡ true)  -- "the login's W18 size, 2,048 at most"
    × (one (stored name name 2112 1 1 (two (reading 10 9 4608 4608 2112 2) asked)) ≡ false)  -- one of 2,112 is no full frame
    × (large 65535 33553920 16777216 0 ≡ true)  -- "going round at 65,536": 65,536 frames sent
    × (large 65535 33553920 33553920 65534 ≡ true)  -- and 131,070
    × (large 65535 33553920 33553920 65535 ≡ false)  -- one more
unfolding well_formed setup_rules setup_of own_of valid_address setup_passes params_of verdict_of size_fails zero_name login_fine used_fine flags_fine address_fine params_fine exchange_fine wanted_fits blocks_fit made_fits direction_fits sent_fits taken_fits moved_fits apart_id apart_login name_of
sent_clauses = (refl, refl, refl, refl, refl, refl, refl, refl, refl, refl, refl, refl, refl, refl)

-- "The exchange record gains a direction" (02, 2): what came of a WRITE, and where one may stand
pub write_clauses :
    (written (writing 0 131072 0 0) ≡ true)  -- a WRITE for which nothing was done yet
    × (written (writing 1 131072 0 0) ≡ true)  -- its data are awaited
    × (written (writing 1 131072 1000 0) ≡ true)  -- "the full-frame rule binds reads only": short of the total any number of bytes came
    × (written (writing 1 131072 131071 0) ≡ true)  -- all but one
    × (written (writing 1 131072 131072 0) ≡ false)  -- all came, and more are awaited
    × (written (writing 0 131072 65536 0) ≡ true)  -- a whole burst came, and the next was not asked for yet
    × (written (writing 0 131072 65535 0) ≡ false)  -- none are awaited, one byte short of it
    × (written (writing 0 131072 131072 0) ≡ true)  -- all came
    × (written (writing 0 131072 131071 0) ≡ false)  -- none are awaited, one byte short of all
    × (written (writing 0 100000 100000 0) ≡ true)  -- all that FCP_DL lets come
    × (written (writing 1 100000 100000 0) ≡ false)  -- the total is "the smaller of wanted and FCP_DL"
    × (written (writing 0 131072 196608 0) ≡ false)  -- "bytes sent at most its total": a burst more
    × (written (writing 2 131072 0 0) ≡ false)  -- awaited is 0 or 1
    × (written (writing 0 131072 0 1) ≡ false)  -- the drive sends no data frame of a WRITE
    × (written (writing 0 131072 131072 2) ≡ false)  -- nor is the count that of the frames that came
    × (onto 0 (writing 0 131072 0 0) ≡ false)  -- "WRITE(10) on units whose setup allows it"
    × (written (directed 2 0 1 0x1234 10 4 2048 2048 512 2) ≡ false)  -- there is no third direction
    × (written (directed 1 0 2 0x1234 0 0 36 36 0 0) ≡ false)  -- of INQUIRY no data come from the host
    × (written (directed 1 0 4 0x1234 0 0 8 8 0 0) ≡ false)  -- nor of READ CAPACITY
    × (written (directed 1 0 8 0x1234 0 0 18 18 0 0) ≡ false)  -- nor of REQUEST SENSE
    × (written (directed 1 0 1 0x1234 999 1 512 512 0 0) ≡ true)  -- the last block
    × (written (directed 1 0 1 0x1234 999 2 1024 1024 0 0) ≡ false)  -- "address plus count above it" of a WRITE
    × (written (directed 0 0 1 0x1234 10 4 2048 2048 512 2) ≡ true)  -- a READ
    × (written (directed 0 1 1 0x1234 10 4 2048 2048 512 2) ≡ false)  -- no data are awaited of it
    × (written (directed 0 1 2 0x1234 0 0 36 36 0 0) ≡ false)  -- nor of INQUIRY
unfolding well_formed setup_rules setup_of own_of valid_address setup_passes params_of verdict_of size_fails zero_name login_fine used_fine flags_fine address_fine params_fine exchange_fine wanted_fits blocks_fit made_fits direction_fits sent_fits taken_fits moved_fits apart_id apart_login name_of
write_clauses = (refl, refl, refl, refl, refl, refl, refl, refl, refl, refl, refl, refl, refl, refl, refl, refl, refl, refl, refl, refl, refl, refl, refl, refl, refl)
