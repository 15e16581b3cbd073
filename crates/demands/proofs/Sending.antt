-- A data frame as a host sends it: its bytes, how one reads them, and that the drive takes it. Assumes nothing.
use Rattle.std.specs.Prelude.{Some, Ok}
use mathlib.Core.Path.{◌≡◌, refl, sym, ap, ◌∙◌}
use mathlib.Core.Bool.{true, false, not, ◌&&◌}
use mathlib.Core.List.{List, [], ◌∷◌, ◌++◌}
use Prim.Native.Nat.{ℕ, zero, suc, ◌+◌, ◌-◌, ◌*◌, ◌/◌, ◌%◌, ◌≤◌, ◌<◌}
use native.Mathlib.Omega.{arith}
use lib.Dec.{eqb, leb}
use lib.ListN.{length, take, drop, get_or, replicate, length-append, length-take, length-replicate}
use lib.Seq.{take-append_seam, drop_at}
use borrow.Author.Tests.{eqb-true, eq-eqb, le-ltb, not-true}
use Rattle.tables.proofs.Bools.{and_left, and_right}
use Rattle.tables.proofs.Keeping.{all_at}
use Rattle.wire.specs.Bytes.{bytes, fill_count}
use Rattle.wire.specs.Layout.{AllBytes}
use Rattle.frame.specs.declared.Header.{Header}
use Rattle.frame.specs.Head.{header_of, header_bytes}
use Rattle.frame.proofs.Trips.{length_header, read_write}
use Rattle.address.specs.Address.{valid_address}
use Rattle.params.specs.Words.{params_of, setup_passes}
use Rattle.cover.specs.Cover.{position_of, cut, lent_place}
use Rattle.cover.proofs.Cuts.{cut_covers}
use Rattle.state.specs.declared.Exchange.{Exchange}
use Rattle.state.specs.declared.Login.{Login}
use Rattle.state.specs.declared.Port.{Port}
use Rattle.state.specs.declared.Unit.{Unit}
use Rattle.state.specs.Standing.{Open}
use Rattle.state.specs.Changes.{empty_login, is_used, has_address, own_of, login_at}
use Rattle.state.specs.Kinds.{is_write}
use Rattle.state.specs.Tables.{login_of, lookup_of}
use Rattle.state.proofs.Places.{open_place, open_exchange, open_used, found_has, login_inside}
use Rattle.formed.specs.Formed.{setup_rules, setup_of, address_fine, login_fine, well_formed}
use Rattle.formed.proofs.Parts.{fine_used, formed_parts}
use Rattle.serve.specs.Next.{exchange_of}
use Rattle.taking.specs.declared.Step.TheVariants.{Take}
use Rattle.taking.specs.Taking.{is_data, data_size, burst_end, step_of, no_write, uncovered}
use Rattle.arrival.specs.Arrival.{bad_size, bad_source, known_pair, bad_sequence, unknown_form, spared, unproven_login}
use Rattle.drive.specs.declared.Drive.{Drive}
use Rattle.drive.specs.Entry.{data_step}
use Rattle.drive.proofs.Ways.{PassesIn}
use Rattle.demands.specs.Reading.{payload_in, framed}
use Rattle.demands.proofs.Judges.{small_address}
use Rattle.demands.proofs.Storing.{step_take, Stores, stores_taken}

-- lists of bytes
all_none : AllBytes []
all_none j = omega arith

all_cons : (n : ℕ) (s : List ℕ) → n < 256 → AllBytes s → AllBytes (n ∷ s)
all_cons n s h k zero = h
all_cons n s h k (suc j) = k j

all_append : (s t : List ℕ) → AllBytes s → AllBytes t → AllBytes (s ++ t)
all_append [] t h k = k
all_append (n ∷ s) t h k = all_cons n (s ++ t) (h 0) (all_append s t (λ j. h (suc j)) k)

all_zeros : (n : ℕ) → AllBytes (replicate n 0)
all_zeros zero = all_none
all_zeros (suc n) = all_cons 0 (replicate n 0) (omega arith) (all_zeros n)

all_bytes : (k n : ℕ) → AllBytes (bytes k n)
all_bytes zero n = all_none
all_bytes (suc k) n = all_append (bytes k (n / 256)) (n % 256 ∷ []) (all_bytes k (n / 256)) (all_cons (n % 256) [] (omega arith) all_none)

pub all_take : (m : ℕ) (s : List ℕ) → AllBytes s → AllBytes (take m s)
all_take zero s h = all_none
all_take (suc m) [] h = all_none
all_take (suc m) (n ∷ s) h = all_cons n (take m s) (h 0) (all_take m s (λ j. h (suc j)))

pub all_drop : (m : ℕ) (s : List ℕ) → AllBytes s → AllBytes (drop m s)
all_drop zero s h = h
all_drop (suc m) [] h = all_none
all_drop (suc m) (n ∷ s) h = all_drop m s (λ j. h (suc j))

-- "FCP_DATA frames" of the host: 01 08, to us, of this OX_ID and OFFSET, the fill count in the low two bits of F_CTL
abbrev pub host_header : (own a x at fill : ℕ) → Header
host_header own a x at fill =
    record {
      r_ctl = 0x01;
      d_id = own;
      reserved = 0;
      s_id = a;
      protocol = 0x08;
      f_ctl = fill;
      seq_id = 0;
      df_ctl = 0;
      seq_cnt = 0;
      ox_id = x;
      rx_id = 0xffff;
      offset = at;
    }

module _ (own a x at : ℕ) (P : List ℕ) where
  pub host_frame : List ℕ
  host_frame = framed (host_header own a x at) P

  abbrev fill : ℕ
  fill = fill_count (length P)

  abbrev filling : List ℕ
  filling = P ++ replicate fill 0

  few_fill : fill < 4
  few_fill = omega arith

  filled_long : length filling ≡ length P + fill
  filled_long = let l = length-append P (replicate fill 0) in let z = length-replicate {A = ℕ} fill 0 in omega arith

  pub host_long : length host_frame ≡ 24 + length P + fill
  unfolding host_frame
  host_long = let l = length-append (header_bytes (host_header own a x at fill)) filling in let h = length_header (host_header own a x at fill) in let z = filled_long in omega arith

  pub host_known : AllBytes P → AllBytes host_frame
  unfolding host_frame header_bytes
  host_known h =
      let d = all_append (bytes 3 own) (0 ∷ bytes 3 a) (all_bytes 3 own) (all_cons 0 (bytes 3 a) (omega arith) (all_bytes 3 a)) in
      let f = all_append (bytes 3 own ++ (0 ∷ bytes 3 a)) (8 ∷ bytes 3 fill) d (all_cons 8 (bytes 3 fill) (omega arith) (all_bytes 3 fill)) in
      let n = all_append (0 ∷ 0 ∷ bytes 2 0) (bytes 2 x) (all_cons 0 (0 ∷ bytes 2 0) (omega arith) (all_cons 0 (bytes 2 0) (omega arith) (all_bytes 2 0))) (all_bytes 2 x) in
      let r = all_append (bytes 2 0xffff) (bytes 4 at) (all_bytes 2 0xffff) (all_bytes 4 at) in
      let front = bytes 3 own ++ (0 ∷ bytes 3 a) ++ (8 ∷ bytes 3 fill) in
      let back = (0 ∷ 0 ∷ bytes 2 0) ++ bytes 2 x ++ (bytes 2 0xffff ++ bytes 4 at) in
      let all = all_append front back f (all_append ((0 ∷ 0 ∷ bytes 2 0) ++ bytes 2 x) (bytes 2 0xffff ++ bytes 4 at) n r) in
      all_append (header_bytes (host_header own a x at fill)) filling (all_cons 1 (front ++ back) (omega arith) all) (all_append P (replicate fill 0) h (all_zeros fill))

  module _ (own_small : own < 256) (sender_small : a < 256) (id_small : x < 65536) (at_small : at < 4294967296) where
    pub host_header_lem : header_of host_frame ≡ host_header own a x at fill
    unfolding host_frame
    host_header_lem = let f = few_fill in read_write (host_header own a x at fill) filling record { d = omega arith; s = omega arith; f = omega arith; n = omega arith; o = omega arith; r = omega arith; p = omega arith }

    pub host_size : data_size (header_of host_frame) (length host_frame) ≡ length P
    host_size = let l = host_long in let f = few_fill in ap (λ (h : Header). data_size h (length host_frame)) host_header_lem ∙ (omega arith)

    pub host_payload : payload_in host_frame ≡ P
    unfolding host_frame
    host_payload =
        ap (λ (n : ℕ). take n (drop 24 host_frame)) host_size ∙ ap (take (length P)) (drop_at (header_bytes (host_header own a x at fill)) filling 24 (length_header (host_header own a x at fill)))
        ∙ take-append_seam P (replicate fill 0)

-- what a well-formed port tells of the addresses of an open exchange: ours and the login's
module _ (u : Unit) (p : Port) (a x i j : ℕ) (w : well_formed u p ≡ true) (o : lookup_of p a x ≡ Open i j) where
  own_valid : valid_address p.address ≡ true
  unfolding setup_rules setup_of own_of
  own_valid =
      let c = leb 1 u.capacity in
      let d = leb u.capacity 4294967295 in
      let v = valid_address p.address in
      let s = setup_passes (params_of p.accept 0) in
      and_right (c && d) v (and_left (c && d && v) s (and_left (c && d && v && s) (leb u.writable 1) (formed_parts w).setup))

  login_fine_lem : address_fine p.address (login_at p i) ≡ true
  unfolding login_at
  login_fine_lem = (fine_used (open_used p a x i j o) (all_at (login_fine u p.address) empty_login p.logins i (login_inside p a x i j o) (formed_parts w).logins)).address

  login_address : (login_at p i).address ≡ a
  unfolding has_address
  login_address = eqb-true (login_at p i).address a (and_right (is_used (login_at p i)) (eqb (login_at p i).address a) (found_has p a i (open_place p a x i j o)))

  sender_valid : valid_address a ≡ true
  unfolding address_fine
  sender_valid = let l = login_at p i in ap valid_address (sym login_address) ∙ and_left (valid_address l.address) (not (eqb l.address p.address)) login_fine_lem

  sender_other : eqb a p.address ≡ false
  unfolding address_fine
  sender_other = let l = login_at p i in ap (λ (n : ℕ). eqb n p.address) (sym login_address) ∙ not-true (eqb l.address p.address) (and_right (valid_address l.address) (not (eqb l.address p.address)) login_fine_lem)

  sender_fine : bad_source p.address a ≡ false
  unfolding bad_source
  sender_fine = rw (sender_valid, sender_other)

-- bytes P of the WRITE that stands open at places i and j, which may be sent at once: at a proven login, no more than a frame holds, and within the burst
pub record Sendable (d : Drive) (unit : List ℕ) (a x i j : ℕ) (P : List ℕ) : Type 0 where
  pub formed : well_formed d.unit d.port ≡ true
  pub stands : lookup_of d.port a x ≡ Open i j
  pub proven : (login_at d.port i).proven ≡ 1
  pub write : is_write (exchange_of d.port i j) ≡ true
  pub id_small : x < 65536
  pub few : length P ≤ 2048
  pub within : (exchange_of d.port i j).sent + length P ≤ burst_end (exchange_of d.port i j)
  pub at_small : (exchange_of d.port i j).sent < 4294967296
  pub inside : position_of (exchange_of d.port i j).start (exchange_of d.port i j).sent + length P ≤ length unit

-- they are sent in one frame, with a window of the blocks that they are in
module _ {d : Drive} {unit : List ℕ} {a x i j : ℕ} {P : List ℕ} (may : Sendable d unit a x i j P) where
  abbrev p : Port
  p = d.port

  abbrev e : Exchange
  e = exchange_of p i j

  pub sent_frame : List ℕ
  sent_frame = host_frame p.address a x e.sent P

  pub sent_start : ℕ
  sent_start = e.start + e.sent / 512

  pub sent_len : ℕ
  sent_len = length P + 512

  abbrev W : List ℕ
  W = cut unit sent_start sent_len

  abbrev head : Header
  head = host_header p.address a x e.sent (fill_count (length P))

  own_small : p.address < 256
  own_small = small_address p.address (own_valid d.unit p a x i j may.formed may.stands)

  sender_small : a < 256
  sender_small = small_address a (sender_valid d.unit p a x i j may.formed may.stands)

  header_is : header_of sent_frame ≡ head
  unfolding sent_frame
  header_is = host_header_lem p.address a x e.sent P own_small sender_small may.id_small may.at_small

  size_is : data_size (header_of sent_frame) (length sent_frame) ≡ length P
  unfolding sent_frame
  size_is = host_size p.address a x e.sent P own_small sender_small may.id_small may.at_small

  pub payload_is : payload_in sent_frame ≡ P
  unfolding sent_frame
  payload_is = host_payload p.address a x e.sent P own_small sender_small may.id_small may.at_small

  pub sent_known : AllBytes P → AllBytes sent_frame
  unfolding sent_frame
  sent_known h = host_known p.address a x e.sent P h

  pub sent_from : (header_of sent_frame).s_id ≡ a
  sent_from = ap (λ (h : Header). h.s_id) header_is

  pub sent_form : (header_of sent_frame).r_ctl ≡ 0x01
  sent_form = ap (λ (h : Header). h.r_ctl) header_is

  pub sent_id : (header_of sent_frame).ox_id ≡ x
  sent_id = ap (λ (h : Header). h.ox_id) header_is

  pub sent_stands : lookup_of p (header_of sent_frame).s_id (header_of sent_frame).ox_id ≡ Open i j
  sent_stands = (λ n. lookup_of p (sent_from n) (sent_id n)) ∙ may.stands

  lent_short : length W ≤ 65536
  unfolding sent_len
  lent_short = let l = length-take sent_len (drop (512 * sent_start) unit) in let few = may.few in omega arith

  place_is : lent_place (position_of e.start e.sent) (length P) sent_start (length W) ≡ Some (e.sent % 512)
  unfolding lent_place sent_start sent_len
  place_is = rw (le-ltb 65536 (length W) lent_short) (cut_covers unit e.start e.sent (length P) (length P + 512) (omega arith) may.inside)

  login_is : login_of p a ≡ login_at p i
  unfolding login_of
  login_is = rw (open_place p a x i j may.stands)

  step_is : data_step d sent_frame sent_start (length W) ≡ Ok (Take j (e.sent % 512))
  step_is =
      (λ n. step_of (login_of p (header_is n).s_id) (header_is n).ox_id (header_is n).offset (size_is n) sent_start (length W))
      ∙ ap (λ (m : Login). step_of m x e.sent (length P) sent_start (length W)) login_is
      ∙ step_take (login_at p i) x e.sent (length P) sent_start (length W) j (e.sent % 512) (open_exchange p a x i j may.stands) may.write refl may.within place_is

  sized : bad_size (length sent_frame) ≡ false
  unfolding bad_size sent_frame
  sized =
      let n = length sent_frame in
      let l = host_long p.address a x e.sent P in
      let few = may.few in
      rw (le-ltb n 24 (omega arith), le-ltb 2136 n (omega arith), eq-eqb (n % 4) 0 (omega arith))

  known_form : unknown_form head (length sent_frame) ≡ false
  unfolding unknown_form known_pair bad_sequence sent_frame
  known_form =
      let n = length sent_frame in
      let l = host_long p.address a x e.sent P in
      rw (le-ltb (n - 24) (fill_count (length P) % 4) (omega arith))

  proven_login : unproven_login p a ≡ false
  unfolding unproven_login
  proven_login = rw (open_place p a x i j may.stands, may.proven)

  sent_passes : PassesIn d sent_frame sent_start (length W) 2136
  unfolding spared
  sent_passes =
      record {
        arrived = record {
          long = refl;
          fine = may.formed;
          sized = sized;
          here = ap (λ (h : Header). eqb h.d_id p.address) header_is ∙ eq-eqb p.address p.address refl;
          from = ap (λ (h : Header). bad_source p.address h.s_id) header_is ∙ sender_fine d.unit p a x i j may.formed may.stands;
          known = ap (λ (h : Header). unknown_form h (length sent_frame)) header_is ∙ known_form;
          proven = ap (λ (h : Header). not (spared h.r_ctl (get_or sent_frame 24 0)) && unproven_login p h.s_id) header_is ∙ proven_login;
        };
        open_write = λ n. is_data (header_is n) && no_write (step_is n);
        covers = λ n. is_data (header_is n) && uncovered (step_is n);
      }

  pub sent_stores : Stores d sent_frame sent_start W 2136 i j
  sent_stores = stores_taken d sent_frame sent_start W 2136 sent_form sent_passes i j sent_stands j (e.sent % 512) step_is
