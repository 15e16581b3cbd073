-- What a change reaches, by the keys of the logins, is the change of all where the drive is well formed: a login that is not reached is one that the change leaves as it is.
-- So what each entry tells, and the lent drive after it, is its answer. Assumes nothing.
use Rattle.std.specs.Prelude.{Option, Some, None, Ok, Err, Result}
use Prim.Native.Nat.{ℕ, ◌+◌, ◌<◌, ◌^◌}
use mathlib.Core.Path.{◌≡◌, refl, sym, ap, ◌∙◌, subst}
use mathlib.Core.Bool.{Bool, true, false, cond}
use mathlib.Core.List.{List, [], ◌∷◌, map}
use native.Mathlib.Omega.{arith}
use lib.Dec.{T}
use lib.ListN.{length}
use borrow.Author.Tests.{eq-eqb, ne_eqb}
use Rattle.tables.specs.Lists.{all, on_found}
use Rattle.tables.specs.Firsts.{first_of}
use Rattle.tables.proofs.Bools.{and_left, and_right}
use Rattle.frame.specs.declared.Header.{Header}
use Rattle.frame.specs.Head.{header_of}
use Rattle.refusal.specs.declared.Refusal.{Refusal}
use Rattle.refusal.specs.declared.Refusal.TheVariants.{IllFormed, BadSize, NotOurs, BadSource, UnknownForm, Unproven}
use Rattle.refusal.specs.Refusal.{number_of}
use Rattle.refusal.proofs.Numbers.{numbers}
use Rattle.state.specs.declared.Login.{Login}
use Rattle.state.specs.declared.Port.{Port}
use Rattle.state.specs.declared.Unit.{Unit}
use Rattle.state.specs.declared.Change.{Change}
use Rattle.state.specs.declared.Change.TheVariants.{Keep, EndAll, EndLogin, EndHost, Unprove, EndUnproven, EndExchangesOf, Reset, Clear}
use Rattle.state.specs.Changes.{empty_login, own_of, is_used, has_address, is_host, freed_of, ended_of, host_ended, unproven, verified, aborted_of, reset_of, cleared_by, with_logins, changed_of, changed_all}
use Rattle.state.specs.Tables.{login_in}
use Rattle.formed.specs.Formed.{login_fine, well_formed}
use Rattle.formed.specs.Keys.{key_of, login_key, keys_of}
use Rattle.formed.proofs.Keys.{used_free, key_name, fine_by_lem}
use Rattle.formed.proofs.Parts.{formed_parts}
use Rattle.calls.specs.declared.Sight.{Sight}
use Rattle.calls.specs.declared.Turn.{Turn}
use Rattle.calls.specs.declared.View.{View}
use Rattle.calls.specs.View.{seat_of, sight_of, view_from, view_of}
use Rattle.calls.specs.Turn.{stored_at, port_after}
use Rattle.calls.proofs.Seats.{key_address}
use Rattle.calls.proofs.Decisions.{on_cond, keep_is}
use Rattle.taking.specs.Taking.{is_data, taking_turn, taking_buffer, taking_window}
use Rattle.taking.proofs.Others.{taking_keeps}
use Rattle.arrival.specs.declared.Form.{Form}
use Rattle.arrival.specs.declared.Form.TheVariants.{Link, Done, Abort, Command, Data}
use Rattle.arrival.specs.Arrival.{short_buffer, applies_to, form_of, judged_by}
use Rattle.arrival.proofs.Passes.{data_form}
use Rattle.arrival.proofs.Passes as passes
use Rattle.drive.specs.declared.Answer.{Answer}
use Rattle.drive.specs.declared.Drive.{Drive}
use Rattle.drive.specs.declared.Event.{Event}
use Rattle.drive.specs.Drive.{refused, nothing_sent, change_of, after_event, event_answer}
use Rattle.drive.specs.Entry.{frame_in, frame_in_buffer, frame_in_window, next_frame}
use Rattle.drive.specs.Turn.{unproven_at, on_judged, arrived_in, passed_turn, passed_buffer, arrived_turn, arrived_buffer, arrived_window, next_out_turn, answer_to}
use Rattle.drive.proofs.Turns.{frame_came, buffer_came, window_came, arrived_fine, frame_turn_lem, frame_turn_buffer, frame_turn_window, next_out_turn_lem, next_out_keeps}
use Rattle.boundary.specs.Boundary.{code_of, Tells, Gives, is_data_form}
use Rattle.boundary.specs.Settled.{reaches, marks_of, reached_by, reached_of, settled_of, happened_said}
use Rattle.boundary.proofs.Lent.{with_port, stored, settled, happened}
use Rattle.boundary.proofs.Reached.{spared_last}

twice : {A : Type 0} (b : Bool) (x y : A) → cond b (cond b x y) y ≡ cond b x y
twice true x y = refl
twice false x y = refl

-- which arm of a definition is taken
held_arm : {A : Type 0} (z : Bool) (x y : A) → z ≡ true → x ≡ cond z x y
held_arm z x y e = rw e

failed_arm : {A : Type 0} (z : Bool) (x y : A) → z ≡ false → y ≡ cond z x y
failed_arm z x y e = rw e

module _ (u : Unit) (own : ℕ) where
  -- a login that is fine and is not reached is one that the change leaves
  reached_fine : (c : Change) (l : Login) (b : Bool) → login_fine u own l ≡ true → is_used l ≡ b → cond (reaches c (login_key u own l)) (changed_of c l) l ≡ changed_of c l
  unfolding login_key key_of freed_of ended_of host_ended unproven verified aborted_of reset_of cleared_by
  reached_fine Keep l b f e = refl
  reached_fine EndAll l true f e = rw (f, e, used_free l.address)
  reached_fine EndAll l false f e = rw (f, e)
  reached_fine (EndLogin a) l b f e = rw (key_address u own a l f) (twice (has_address a l) _ l)
  reached_fine (EndHost a n) l b f e = rw (key_address u own a l f, key_name u own n l f) (twice (is_host a n l) _ l)
  reached_fine (EndExchangesOf a) l b f e = rw (key_address u own a l f) (twice (has_address a l) _ l)
  reached_fine Unprove l true f e = rw (f, e, used_free l.address)
  reached_fine Unprove l false f e = rw (f, e)
  reached_fine EndUnproven l true f e = rw (f, e, used_free l.address)
  reached_fine EndUnproven l false f e = rw (f, e)
  reached_fine Reset l true f e = rw (f, e, used_free l.address)
  reached_fine Reset l false f e = rw (f, e)
  reached_fine (Clear a) l true f e = rw (f, e, used_free l.address)
  reached_fine (Clear a) l false f e = rw (f, e)

  reached_all : (c : Change) (ls : List Login) → all (login_fine u own) ls ≡ true → reached_by c (marks_of c (map (login_key u own) ls)) ls ≡ map (changed_of c) ls
  reached_all c [] e = refl
  reached_all c (l ∷ ls) e =
      let f = and_left (login_fine u own l) (all (login_fine u own) ls) e in
      let r = reached_all c ls (and_right (login_fine u own l) (all (login_fine u own) ls) e) in
      ap (λ (m : Login). m ∷ reached_by c (marks_of c (map (login_key u own) ls)) ls) (reached_fine c l (is_used l) f refl) ∙ ap (λ (ms : List Login). changed_of c l ∷ ms) r

-- so what is reached by the keys of a port that is well formed is the change of all, and the port settled by them is the port after the turn
module _ (u : Unit) (p : Port) (w : well_formed u p ≡ true) where
  reached_changed : (c : Change) → reached_of p (marks_of c (keys_of u p)) c ≡ changed_all c p
  unfolding reached_of changed_all keys_of
  reached_changed c = ap (with_logins p) (reached_all u p.address c p.logins (formed_parts w).logins)

  settled_answer : (t : Turn) → settled_of p (keys_of u p) t ≡ port_after p t
  unfolding settled_of
  settled_answer t = spared_last p (marks_of t.change (keys_of u p)) t.change t.login t.at ∙ ap (stored_at t.at t.login) (reached_changed t.change)

not_true : false ≡ true → ⊥
not_true e = subst T (sym e) tt

-- the form of a frame that passes is that of its R_CTL
module _ (fine unproven : Bool) (own : ℕ) (h : Header) (f : List ℕ) {k : Form} (e : judged_by fine unproven own h f ≡ Ok k) where
  form_is : form_of h.r_ctl ≡ k
  unfolding judged_by
  form_is = sym (by (IllFormed ∷ BadSize ∷ NotOurs ∷ BadSource ∷ UnknownForm ∷ Unproven ∷ [])) ∙ ap told e
    where
      told : Result Form Refusal → Form
      told j = on_judged j (λ _. form_of h.r_ctl) (λ m. m)

      by : (xs : List Refusal) → told (first_of (applies_to false fine unproven own h f) xs Err (Ok (form_of h.r_ctl))) ≡ form_of h.r_ctl
      by [] = refl
      by (x ∷ xs) = on_cond (λ j. told j ≡ form_of h.r_ctl) (applies_to false fine unproven own h f x) refl (by xs)

  -- and a data frame's is told so
  data_is : is_data h ≡ is_data_form k
  data_is = by k form_is
    where
      other : (m : Form) → form_of h.r_ctl ≡ m → (m ≡ Data → ⊥) → is_data h ≡ false
      other m e n = ne_eqb h.r_ctl 0x01 (λ z. n (sym e ∙ passes.is_data_form h.r_ctl z))

      by : (m : Form) → form_of h.r_ctl ≡ m → is_data h ≡ is_data_form m
      by Link e = other Link e (λ z. not_true (ap is_data_form z))
      by Done e = other Done e (λ z. not_true (ap is_data_form z))
      by Abort e = other Abort e (λ z. not_true (ap is_data_form z))
      by Command e = other Command e (λ z. not_true (ap is_data_form z))
      by Data e = eq-eqb h.r_ctl 0x01 (data_form h.r_ctl e)

-- a refusal, the drive as it was
pub refusal_given : {d : Drive} {a : Answer} {x : Refusal} → a ≡ refused x d → Gives a (Err x) d
refusal_given e = (ap (λ (z : Answer). z.said) (sym e), ap (λ (z : Answer). z.drive) (sym e))

-- what a turn gives, the drive with the port after it
turn_given : (d : Drive) (t : Turn) {p : Port} {a : Answer} → p ≡ port_after d.port t → answer_to d t ≡ a → Gives a t.said (with_port d p)
turn_given d t e is = (ap (λ (z : Answer). z.said) is, ap (with_port d) e ∙ ap (λ (z : Answer). z.drive) is)

-- what every call sees, and what a call of the port at an address does
abbrev sight : Drive → Sight
sight d = sight_of d.unit d.port

abbrev seen : Drive → ℕ → View
seen d x = view_of d.unit d.port x

-- a turn that changes no login but the one it stores
kept_given : (d : Drive) (t : Turn) {a : Answer} → t.change ≡ Keep → answer_to d t ≡ a → Gives a t.said (stored d t)
kept_given d t keeps is = turn_given d t (ap (stored_at t.at t.login) (sym (ap (λ (c : Change). changed_all c d.port) keeps ∙ keep_is d.port))) is

-- a frame in, as it was judged before a view is made
module _ (d : Drive) (f : List ℕ) (start : ℕ) (W : List ℕ) where
  abbrev h : Header
  h = header_of f

  abbrev v : View
  v = seen d h.s_id

  abbrev seat : Option ℕ
  seat = seat_of (sight d).keys h.s_id

  abbrev judged : Result Form Refusal
  judged = judged_by (sight d).fine (unproven_at seat (login_in d.port seat).proven) d.port.address h f

  judged_seen : judged ≡ arrived_in v h f
  unfolding view_of view_from own_of arrived_in
  judged_seen = by seat
    where
      by : (s : Option ℕ) → judged_by (sight d).fine (unproven_at s (login_in d.port s).proven) d.port.address h f ≡ judged_by (sight d).fine (unproven_at s (on_found s (λ _. login_in d.port s) empty_login).proven) d.port.address h f
      by (Some i) = refl
      by None = refl

  -- the number that a refusal is told in is one of 64 bits
  pub number_fits : {x : Refusal} → judged ≡ Err x → 65536 + number_of x < 2 ^ 64
  number_fits {x} e = let few = (numbers x).1 in omega (arith, few)

  module _ (l : List ℕ) (long : short_buffer (length l) ≡ false) where
    -- what it leaves: what is told and the drive, the reply buffer, and the window
    abbrev pub Leaves : Result ℕ Refusal → Drive → List ℕ → List ℕ → Type 0
    Leaves said after l₁ W₁ = Gives (frame_in d f start W (length l)) said after × (l₁ ≡ frame_in_buffer d f start W l) × (W₁ ≡ frame_in_window d f start W (length l))

    -- one that is refused, the buffer and the window left as they were
    pub frame_refused : {x : Refusal} → judged ≡ Err x → Leaves (Err x) d l W
    frame_refused e =
        let r = sym judged_seen ∙ e in
        (refusal_given (frame_came d f start W (length l) long ∙ rw r), sym (buffer_came d f start W l long ∙ rw r), sym (window_came d f start W (length l) long ∙ rw r))

    -- and told in one number
    pub frame_numbered : {x : Refusal} → judged ≡ Err x → Tells (frame_in d f start W (length l)) (65536 + number_of x) d × (l ≡ frame_in_buffer d f start W l) × (W ≡ frame_in_window d f start W (length l))
    frame_numbered e = let r = frame_refused e in ((ap code_of r.0.0, r.0.1), r.1, r.2)

    -- one that arrived well comes to its turn: a data frame's, or another's
    module _ {k : Form} (e : judged ≡ Ok k) where
      arrived : arrived_in v h f ≡ Ok k
      arrived = sym judged_seen ∙ e

      module _ (held : is_data_form k ≡ true) where
        abbrev turn_data : Turn
        turn_data = taking_turn v h (length f) start (length W) (length l)

        is : is_data h ≡ true
        is = data_is (sight d).fine (unproven_at seat (login_in d.port seat).proven) d.port.address h f e ∙ held

        pub frame_data : Leaves turn_data.said (stored d turn_data) (taking_buffer v h (length f) start (length W) l) (taking_window v h f start W)
        unfolding arrived_turn arrived_buffer arrived_window
        frame_data = (
          kept_given d turn_data (taking_keeps v h (length f) start (length W) (length l)) (ap (answer_to d) (held_arm (is_data h) turn_data _ is) ∙ frame_turn_lem d f start W k arrived (length l) long),
          held_arm (is_data h) _ (passed_buffer v h f l) is ∙ frame_turn_buffer d f start W k arrived l long,
          held_arm (is_data h) _ W is ∙ frame_turn_window d f start W k arrived (length l) long,
        )

      module _ (failed : is_data_form k ≡ false) where
        abbrev turn_other : Turn
        turn_other = passed_turn v h f (length l)

        is_not : is_data h ≡ false
        is_not = data_is (sight d).fine (unproven_at seat (login_in d.port seat).proven) d.port.address h f e ∙ failed

        pub frame_other : Leaves turn_other.said (settled d (sight d).keys turn_other) (passed_buffer v h f l) W
        unfolding arrived_turn arrived_buffer arrived_window
        frame_other = (
          turn_given d turn_other (settled_answer d.unit d.port (arrived_fine d f start W k arrived) turn_other) (ap (answer_to d) (failed_arm (is_data h) _ turn_other is_not) ∙ frame_turn_lem d f start W k arrived (length l) long),
          failed_arm (is_data h) (taking_buffer v h (length f) start (length W) l) _ is_not ∙ frame_turn_buffer d f start W k arrived l long,
          failed_arm (is_data h) (taking_window v h f start W) _ is_not ∙ frame_turn_window d f start W k arrived (length l) long,
        )

-- a next frame changes no login but the one it stores
module _ (d : Drive) (a x start : ℕ) (W : List ℕ) (room : ℕ) where
  abbrev turn_out_lem : Turn
  turn_out_lem = next_out_turn (seen d a) a x start W room

  pub next_stores : short_buffer room ≡ false → Gives (next_frame d a x start W room) turn_out_lem.said (stored d turn_out_lem)
  next_stores long = kept_given d turn_out_lem (next_out_keeps (seen d a) a x start W room) (next_out_turn_lem d a x start W room long)

-- an event changes a drive that is well formed, and no other
module _ (d : Drive) (e : Event) where
  abbrev reached : Port
  reached = reached_of d.port (marks_of (change_of e) (sight d).keys) (change_of e)

  happens : (fine : Bool) → well_formed d.unit d.port ≡ fine → Gives (cond fine (nothing_sent (after_event e d)) (refused IllFormed d)) (happened_said fine) (with_port d (cond fine reached d.port))
  unfolding after_event
  happens true w = (refl, ap (with_port d) (reached_changed d.unit d.port w (change_of e)))
  happens false w = (refl, refl)

  pub event_happens : Gives (event_answer d e) (happened_said (sight d).fine) (happened d (sight d) (change_of e))
  unfolding event_answer
  event_happens =
      subst (λ (fine : Bool). Gives (event_answer d e) (happened_said fine) (with_port d (cond fine reached d.port))) (sym (fine_by_lem d.unit d.port))
      (happens (well_formed d.unit d.port) refl)
