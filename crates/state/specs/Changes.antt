-- How the tables of a port change: each change says what is new, and all else stays.
use Rattle.std.specs.Prelude.{ℕ, ◌+◌, ◌%◌, Bool, cond, not, ◌&&◌, ◌||◌, List, [], map, replicate, ◌==◌, slice_index_or, slice_set}
use Rattle.tables.specs.Lists.{all}
use Rattle.wire.specs.Bytes.{name_of}
use Rattle.state.specs.declared.Exchange.{Exchange}
use Rattle.state.specs.declared.Login.{Login}
use Rattle.state.specs.declared.Own.{Own}
use Rattle.state.specs.declared.Port.{Port}
use Rattle.state.specs.declared.Change.{Change}
use Rattle.state.specs.declared.Change.TheVariants.{Keep, EndAll, EndLogin, EndHost, Unprove, EndUnproven, EndExchangesOf, Reset, Clear}

-- a free place for an exchange
abbrev pub empty_exchange : Exchange
empty_exchange =
    record {
      kind = 0;
      ox_id = 0;
      count = 0;
      blocks = 0;
      start = 0;
      wanted = 0;
      expected = 0;
      sent = 0;
      direction = 0;
      awaited = 0;
    }

-- a free place for a login with these names and exchanges
abbrev pub blank : List ℕ → List Exchange → Login
blank name es =
    record {
      used = 0;
      proven = 0;
      paired = 0;
      attention = 0;
      concurrent = 0;
      sequences = 0;
      size = 0;
      address = 0;
      port_name = name;
      node_name = name;
      places = es;
    }

-- what reading past the end of a list of logins gives
abbrev pub no_login : Login
no_login = blank [] []

-- "A freed place": a free place for a login
abbrev pub empty_login : Login
empty_login = blank (replicate 8 0) (replicate 8 empty_exchange)

-- what a reply and the rules take from a port: its address and accept words
unfoldable pub own_of : Port → Own
own_of p = record { address = p.address; accept = p.accept }

-- the login at a place, an empty one past the end
unfoldable pub login_at : Port → ℕ → Login
login_at p i = slice_index_or p.logins i empty_login

-- the exchange at a place of a login, an empty one past the end
unfoldable pub exchange_at : Login → ℕ → Exchange
exchange_at l j = slice_index_or l.places j empty_exchange

-- the port with another table of logins
abbrev pub with_logins : Port → List Login → Port
with_logins p ls = record { address = p.address; accept = p.accept; logins = ls }

-- the port with another login at a place
unfoldable pub with_login : Port → ℕ → Login → Port
with_login p i l = with_logins p (slice_set p.logins i l)

-- the login with other flags, attention and exchanges
abbrev pub with_state : Login → ℕ → ℕ → ℕ → List Exchange → Login
with_state l proven paired attention es =
    record {
      used = l.used;
      proven = proven;
      paired = paired;
      attention = attention;
      concurrent = l.concurrent;
      sequences = l.sequences;
      size = l.size;
      address = l.address;
      port_name = l.port_name;
      node_name = l.node_name;
      places = es;
    }

abbrev pub with_proven : Login → ℕ → Login
with_proven l b = with_state l b l.paired l.attention l.places

abbrev pub with_paired : Login → ℕ → Login
with_paired l b = with_state l l.proven b l.attention l.places

abbrev pub with_attention : Login → ℕ → Login
with_attention l a = with_state l l.proven l.paired a l.places

abbrev pub with_places : Login → List Exchange → Login
with_places l es = with_state l l.proven l.paired l.attention es

-- the login with another exchange at a place
unfoldable pub with_exchange : Login → ℕ → Exchange → Login
with_exchange l j e = with_places l (slice_set l.places j e)

-- the exchange at a place ends
abbrev pub ended_at : Login → ℕ → Login
ended_at l j = with_exchange l j empty_exchange

-- all exchanges of a login end
unfoldable pub without_exchanges : Login → Login
without_exchanges l = with_places l (replicate 8 empty_exchange)

-- a data frame of n bytes more was sent; "SEQ_CNT as a wrapping 16-bit count"
abbrev pub advanced : Exchange → ℕ → Exchange
advanced e n =
    record {
      kind = e.kind;
      ox_id = e.ox_id;
      count = (e.count + 1) % 65536;
      blocks = e.blocks;
      start = e.start;
      wanted = e.wanted;
      expected = e.expected;
      sent = (e.sent + n) % 4294967296;
      direction = e.direction;
      awaited = e.awaited;
    }

-- FCP_XFER_RDY was sent (02, 2): data are awaited
abbrev pub asked : Exchange → Exchange
asked e =
    record {
      kind = e.kind;
      ox_id = e.ox_id;
      count = e.count;
      blocks = e.blocks;
      start = e.start;
      wanted = e.wanted;
      expected = e.expected;
      sent = e.sent;
      direction = e.direction;
      awaited = 1;
    }

-- a data frame of n bytes more was taken (02, 2); after it data are awaited, or not
abbrev pub taken : Exchange → ℕ → ℕ → Exchange
taken e n awaited =
    record {
      kind = e.kind;
      ox_id = e.ox_id;
      count = e.count;
      blocks = e.blocks;
      start = e.start;
      wanted = e.wanted;
      expected = e.expected;
      sent = (e.sent + n) % 4294967296;
      direction = e.direction;
      awaited = awaited;
    }

abbrev pub is_used : Login → Bool
is_used l = l.used == 1

-- a place for an exchange is free
abbrev pub is_closed : Exchange → Bool
is_closed e = e.kind == 0

-- a login is used and has this address
unfoldable pub has_address : ℕ → Login → Bool
has_address a l = is_used l && l.address == a

-- a login is used and has this port name, by its number ("port name" is W5-6 alone)
unfoldable pub has_name : ℕ → Login → Bool
has_name n l = is_used l && name_of l.port_name == n

-- a login is of a host with this address or this port name
abbrev pub is_host : ℕ → ℕ → Login → Bool
is_host a n l = has_address a l || has_name n l

-- "power on ends all": a login ends, and a free place stays as it is
unfoldable pub freed_of : Login → Login
freed_of l = cond (is_used l) empty_login l

-- the login of an address ends, with its exchanges
unfoldable pub ended_of : ℕ → Login → Login
ended_of a l = cond (has_address a l) empty_login l

-- PLOGI "ends the sender's login and exchanges"; "with a port name logged in at another address, ends that login and its exchanges" (02, 1)
unfoldable pub host_ended : ℕ → ℕ → Login → Login
host_ended a n l = cond (is_host a n l) empty_login l

-- "loop reset marks every login unproven"
unfoldable pub unproven : Login → Login
unproven l = cond (is_used l) (with_proven l 0) l

-- "verification time over ends the unproven ones"
unfoldable pub verified : Login → Login
verified l = cond (is_used l) (cond (l.proven == 1) l empty_login) l

-- the exchanges of the login of an address end
unfoldable pub aborted_of : ℕ → Login → Login
aborted_of a l = cond (has_address a l) (without_exchanges l) l

-- "20h target reset ends all exchanges and gives every login attention 29h"
unfoldable pub reset_of : Login → Login
reset_of l = cond (is_used l) (with_attention (without_exchanges l) 0x29) l

-- "after 04h each other login that lost one gets 2Fh unless 29h stands": the login is one of these
unfoldable pub loses_to : ℕ → Login → Bool
loses_to from l = not (l.address == from) && not (all is_closed l.places) && not (l.attention == 0x29)

-- "04h clear task set ends all", sent by this address
unfoldable pub cleared_by : ℕ → Login → Login
cleared_by from l = cond (is_used l) (cond (loses_to from l) (with_attention (without_exchanges l) 0x2f) (without_exchanges l)) l

-- what a change makes of one login
abbrev pub changed_of : Change → Login → Login
changed_of Keep l = l
changed_of EndAll l = freed_of l
changed_of (EndLogin a) l = ended_of a l
changed_of (EndHost a n) l = host_ended a n l
changed_of Unprove l = unproven l
changed_of EndUnproven l = verified l
changed_of (EndExchangesOf a) l = aborted_of a l
changed_of Reset l = reset_of l
changed_of (Clear from) l = cleared_by from l

-- and of every login of a port
unfoldable pub changed_all : Change → Port → Port
changed_all c p = with_logins p (map (changed_of c) p.logins)
