-- Demand 3 for every drive that keeps the laws of `specs/Side`.
-- Assumes nothing.
use mathlib.Core.Path.{◌≡◌, refl, sym, ◌∙◌, ap, subst}
use mathlib.Core.Bool.{Bool, true, false, cond, false≢true}
use mathlib.Core.List.{List, [], ◌∷◌}
use mathlib.Core.Logic.{◌⊎◌, inl, inr}
use Rattle.link.specs.Record.{Kept, Record, out, held, proved, paired, unpaired, doubted}
use Rattle.belief.specs.Host.{Belief, unsure, sure, Request, plogi, pdisc, logo, adisc, prli, prlo, rrq, command, abts, fcp_data}
use Rattle.belief.specs.Host.{Answer, none, acc, rjt, dlogo, other, same, think, May, SurePaired, sure_paired, MayOut, hears, after_plogi, after_logo, after_link, received}
use Rattle.belief.specs.Side.{Side, Laws, OwnRecord, NotOwn, OwnIn, Held, Paired, OnPlogi, OnLogo, OnLink, OnCommand, Meets, Unasked}
use Rattle.belief.specs.Demand3.{Fate, lost, mute, heard, Event, send, next, pass, foreign, reset, lapse, forget, World, sees, arrives, step, run, Follows, Keeps, loss, Free, NoLapse, Agrees, Fine, some, reaches_host, start, History, Demand3}

-- The invariant. d: a loss of memory may have come since the last frame that reached the host.
abbrev Fits : Bool → Belief → Record → Type 0
Fits d unsure r = Unit {0}
Fits d (sure x) r = (x ≡ r) ⊎ ((d ≡ true) × (r ≡ out))

-- a frame that reaches the host clears d
abbrev clear : Bool → Bool → Bool
clear true d = false
clear false d = d

-- a loss of memory sets it
abbrev mark : Bool → Bool → Bool
mark true d = true
mark false d = d

module _ where
  no_login_lem : (r : Record) → r ≡ out → Held r → ⊥
  no_login_lem r e h = subst Held e h

  weaken : (d : Bool) (b : Belief) (r : Record) → Fits d b r → Fits true b r
  weaken d unsure r t = tt
  weaken d (sure x) r (inl e) = inl e
  weaken d (sure x) r (inr e) = inr (refl, e.1)

  agrees : (b : Belief) (r : Record) → Fits false b r → Agrees b r
  agrees unsure r t = tt
  agrees (sure x) r (inl e) = e
  agrees (sure x) r (inr e) = absurd (false≢true e.0)

  -- the record is another of the same value
  moved : (d : Bool) (b : Belief) (r r' : Record) → r' ≡ r → Fits d b r → Fits d b r'
  moved d unsure r r' e t = tt
  moved d (sure x) r r' e (inl p) = inl (p ∙ sym e)
  moved d (sure x) r r' e (inr p) = inr (p.0, e ∙ p.1)

  -- where there is a login, memory was not lost
  firm : (d : Bool) (b : Belief) (r : Record) → Held r → Fits d b r → Fits false b r
  firm d unsure r h p = tt
  firm d (sure x) r h (inl p) = inl p
  firm d (sure x) r h (inr p) = absurd (no_login_lem r p.1 h)

  to_held : (d : Bool) (b : Belief) (r r' : Record) → Held r × (r' ≡ r) → Fits d b r → Fits false b r'
  to_held d b r r' h p = moved false b r r' h.1 (firm d b r h.0 p)

  on_plogi : (l : Kept) (a : Answer) (d : Bool) (b : Belief) (r r' : Record) → OnPlogi l a r' → Fits (clear (some a) d) (after_plogi l a b) r'
  on_plogi l none d b r r' h = tt
  on_plogi l acc d b r r' h = inl (sym h)
  on_plogi l rjt d b r r' h = let e : Fits false (sure out) r' = inl (sym h) in e
  on_plogi l dlogo d b r r' h = absurd h
  on_plogi l other d b r r' h = absurd h

  on_logo : (a : Answer) (d : Bool) (b : Belief) (r r' : Record) → OnLogo a r' → Fits (clear (some a) d) (after_logo a b) r'
  on_logo none d b r r' h = tt
  on_logo acc d b r r' h = inl (sym h)
  on_logo rjt d b r r' h = absurd h
  on_logo dlogo d b r r' h = absurd h
  on_logo other d b r r' h = absurd h

  thought : (f : Record → Record) (d : Bool) (b : Belief) (r r' : Record) → Held r → r' ≡ f r → Fits d b r → Fits false (think f b) r'
  thought f d unsure r r' k e p = tt
  thought f d (sure x) r r' k e (inl p) = inl (ap f p ∙ sym e)
  thought f d (sure x) r r' k e (inr p) = absurd (no_login_lem r p.1 k)

  on_link : (f : Record → Record) (a : Answer) (d : Bool) (b : Belief) (r r' : Record) → OnLink f r a r' → Fits d b r → Fits (clear (some a) d) (after_link f a b) r'
  on_link f none d b r r' h p = tt
  on_link f acc d b r r' h p = thought f d b r r' h.0 h.1 p
  on_link f rjt d b r r' h p = to_held d b r r' h p
  on_link f dlogo d b r r' h p = let e : Fits false (sure out) r' = inl (sym h) in e
  on_link f other d b r r' h p = absurd h

  -- a host that is sure of a pairing
  on_command : (a : Answer) (d : Bool) (x r r' : Record) → Paired x → OnCommand r a r' → Fits d (sure x) r → Fits (clear (some a) d) (received a (sure x)) r'
  on_command none d x r r' k h p = moved d (sure x) r r' h p
  on_command acc d x r r' k h p = absurd h
  on_command rjt d x r r' k h p = absurd h
  on_command dlogo d x r r' k h p = inl (sym h.1)
  on_command other d x r r' k h p = to_held d (sure x) r r' h p

  -- the same, and the host gets to see no answer
  on_command_mute : (a : Answer) (d : Bool) (x r r' : Record) → Paired x → OnCommand r a r' → Fits d (sure x) r → Fits d (sure x) r'
  on_command_mute none d x r r' k h p = moved d (sure x) r r' h p
  on_command_mute acc d x r r' k h p = absurd h
  on_command_mute rjt d x r r' k h p = absurd h
  on_command_mute dlogo d x r r' k h (inl p) = absurd (h.0 (subst Paired p k))
  on_command_mute dlogo d x r r' k h (inr p) = inr (p.0, h.1)
  on_command_mute other d x r r' k h p = moved d (sure x) r r' h.1 p

  -- who may send a command is sure of a pairing
  pairing : (x : Record) → May (sure x) command → Paired x
  pairing out m = m
  pairing (held p false l) m = absurd m
  pairing (held false true l) m = m
  pairing (held true true l) m = tt

  -- and so is who may send ABTS
  abort : (b : Belief) → May b abts → May b command
  abort unsure m = m
  abort (sure out) m = m
  abort (sure (held p false l)) m = m
  abort (sure (held false true l)) m = m
  abort (sure (held true true l)) m = m

  -- and a data frame
  pub paired_gives : (b : Belief) → May b fcp_data → SurePaired b
  paired_gives unsure m = absurd m
  paired_gives (sure out) m = absurd m
  paired_gives (sure (held p false l)) m = absurd m
  paired_gives (sure (held false true l)) m = absurd m
  paired_gives (sure (held true true l)) m = sure_paired l

  gives : (b : Belief) → May b fcp_data → May b command
  gives b m = by (paired_gives b m)
    where
      by : {c : Belief} → SurePaired c → May c command
      by (sure_paired l) = tt

  commanded : (a : Answer) (d : Bool) (b : Belief) (r r' : Record) → May b command → OnCommand r a r' → Fits d b r → Fits (clear (some a) d) (received a b) r'
  commanded a d unsure r r' m h p = absurd m
  commanded a d (sure x) r r' m h p = on_command a d x r r' (pairing x m) h p

  muted : (a : Answer) (d : Bool) (b : Belief) (r r' : Record) → May b command → OnCommand r a r' → Fits d b r → Fits d b r'
  muted a d unsure r r' m h p = absurd m
  muted a d (sure x) r r' m h p = on_command_mute a d x r r' (pairing x m) h p

  -- request and answer arrive
  both_arrive : (q : Request) (a : Answer) (d : Bool) (b : Belief) (r r' : Record) → May b q → Meets r q a r' → Fits d b r → Fits (clear (some a) d) (hears q a b) r'
  both_arrive (plogi l) a d b r r' m h p = on_plogi l a d b r r' h
  both_arrive (pdisc l) a d b r r' m h p = on_link proved a d b r r' h p
  both_arrive logo a d b r r' m h p = on_logo a d b r r' h
  both_arrive adisc a d b r r' m h p = on_link proved a d b r r' h p
  both_arrive prli a d b r r' m h p = on_link paired a d b r r' h p
  both_arrive prlo a d b r r' m h p = on_link unpaired a d b r r' h p
  both_arrive rrq a d b r r' m h p = on_link same a d b r r' h p
  both_arrive command a d b r r' m h p = commanded a d b r r' m h p
  both_arrive abts a d b r r' m h p = commanded a d b r r' (abort b m) h p
  both_arrive fcp_data a d b r r' m h p = commanded a d b r r' (gives b m) h p

  -- the request arrives, and its answer is lost
  answer_lost : (q : Request) (a : Answer) (d : Bool) (b : Belief) (r r' : Record) → May b q → Meets r q a r' → Fits d b r → Fits d (hears q none b) r'
  answer_lost (plogi l) a d b r r' m h p = tt
  answer_lost (pdisc l) a d b r r' m h p = tt
  answer_lost logo a d b r r' m h p = tt
  answer_lost adisc a d b r r' m h p = tt
  answer_lost prli a d b r r' m h p = tt
  answer_lost prlo a d b r r' m h p = tt
  answer_lost rrq a d b r r' m h p = tt
  answer_lost command a d b r r' m h p = muted a d b r r' m h p
  answer_lost abts a d b r r' m h p = muted a d b r r' (abort b m) h p
  answer_lost fcp_data a d b r r' m h p = muted a d b r r' (gives b m) h p

  -- the request is lost
  request_lost : (q : Request) (d : Bool) (b : Belief) (r : Record) → Fits d b r → Fits d (hears q none b) r
  request_lost (plogi l) d b r p = tt
  request_lost (pdisc l) d b r p = tt
  request_lost logo d b r p = tt
  request_lost adisc d b r p = tt
  request_lost prli d b r p = tt
  request_lost prlo d b r p = tt
  request_lost rrq d b r p = tt
  request_lost command d b r p = p
  request_lost abts d b r p = p
  request_lost fcp_data d b r p = p

  -- a frame that the host did not ask for: it leaves the record, lost or not
  unasked_stays : (a : Answer) (r r' : Record) → Unasked r a r' → r' ≡ r
  unasked_stays none r r' h = h
  unasked_stays acc r r' h = h.1
  unasked_stays rjt r r' h = h.1
  unasked_stays dlogo r r' h = h.1 ∙ sym h.0
  unasked_stays other r r' h = h.1

  on_unasked : (x : Bool) (a : Answer) (d : Bool) (b : Belief) (r r' : Record) → Unasked r a r' → Fits d b r → Fits (clear (some (arrives x a)) d) (received (arrives x a) b) r'
  on_unasked false a d b r r' h p = moved d b r r' (unasked_stays a r r' h) p
  on_unasked true none d b r r' h p = moved d b r r' h p
  on_unasked true acc d b r r' h p = to_held d b r r' h p
  on_unasked true rjt d b r r' h p = to_held d b r r' h p
  on_unasked true dlogo d b r r' h p = let e : Fits false (sure out) r' = inl (sym h.1) in e
  on_unasked true other d b r r' h p = to_held d b r r' h p

  -- both sides see a loop reset
  after_reset : (d : Bool) (b : Belief) (r r' : Record) → r' ≡ doubted r → Fits d b r → Fits d (think doubted b) r'
  after_reset d unsure r r' e p = tt
  after_reset d (sure x) r r' e (inl p) = inl (ap doubted p ∙ sym e)
  after_reset d (sure x) r r' e (inr p) = inr (p.0, e ∙ ap doubted p.1)

  -- an event that may lose memory (t: it does)
  after_lapse : (t d : Bool) (b : Belief) (r r' : Record) → r' ≡ cond t out r → Fits d b r → Fits (mark t d) b r'
  after_lapse false d b r r' e p = moved d b r r' e p
  after_lapse true d unsure r r' e p = tt
  after_lapse true d (sure x) r r' e p = inr (refl, e)

  -- who becomes sure has heard something
  silence : (q : Request) → hears q none unsure ≡ unsure
  silence (plogi l) = refl
  silence (pdisc l) = refl
  silence logo = refl
  silence adisc = refl
  silence prli = refl
  silence prlo = refl
  silence rrq = refl
  silence command = refl
  silence abts = refl
  silence fcp_data = refl

  Known : Belief → Type 0
  Known unsure = ⊥
  Known (sure x) = Unit {0}

  awake : (b : Belief) (x : Record) → b ≡ unsure → b ≡ sure x → ⊥
  unfolding Known
  awake b x e h = subst Known (sym h ∙ e) tt

  wakes : (q : Request) (a : Answer) (b : Belief) (x : Record) → b ≡ unsure → hears q a b ≡ sure x → some a ≡ true
  wakes q none b x e h = absurd (awake (hears q none b) x (ap (hears q none) e ∙ silence q) h)
  wakes q acc b x e h = refl
  wakes q rjt b x e h = refl
  wakes q dlogo b x e h = refl
  wakes q other b x e h = refl

  wakes_unasked : (a : Answer) (b : Belief) (x : Record) → b ≡ unsure → received a b ≡ sure x → some a ≡ true
  wakes_unasked none b x e h = absurd (awake b x e h)
  wakes_unasked acc b x e h = refl
  wakes_unasked rjt b x e h = refl
  wakes_unasked dlogo b x e h = refl
  wakes_unasked other b x e h = refl

  -- an answered PLOGI or LOGO
  settles : (q : Request) (a : Answer) (b : Belief) (r r' : Record) → MayOut q → some a ≡ true → Meets r q a r' → hears q a b ≡ sure r'
  settles (plogi l) none b r r' m t h = absurd (false≢true t)
  settles (plogi l) acc b r r' m t h = ap sure (sym h)
  settles (plogi l) rjt b r r' m t h = ap sure (sym h)
  settles (plogi l) dlogo b r r' m t h = absurd h
  settles (plogi l) other b r r' m t h = absurd h
  settles (pdisc l) a b r r' m t h = absurd m
  settles logo none b r r' m t h = absurd (false≢true t)
  settles logo acc b r r' m t h = ap sure (sym h)
  settles logo rjt b r r' m t h = absurd h
  settles logo dlogo b r r' m t h = absurd h
  settles logo other b r r' m t h = absurd h
  settles adisc a b r r' m t h = absurd m
  settles prli a b r r' m t h = absurd m
  settles prlo a b r r' m t h = absurd m
  settles rrq a b r r' m t h = absurd m
  settles command a b r r' m t h = absurd m
  settles abts a b r r' m t h = absurd m
  settles fcp_data a b r r' m t h = absurd m

-- a host that is sure believes a login under its own port name, or none
module _ (Own : Kept → Type 0) where
  abbrev Ours : Belief → Type 0
  Ours unsure = Unit {0}
  Ours (sure x) = OwnRecord Own x

  -- a change of the record that keeps its names
  abbrev KeepsNames : (Record → Record) → Type 0
  KeepsNames f = OwnRecord Own (f out) × ((p v : Bool) (k : Kept) → Own k → OwnRecord Own (f (held p v k)))

  thinks_ours : (f : Record → Record) → KeepsNames f → (b : Belief) → Ours b → Ours (think f b)
  thinks_ours f k unsure o = tt
  thinks_ours f k (sure out) o = k.0
  thinks_ours f k (sure (held p v l)) o = k.1 p v l o

  received_ours : (a : Answer) (b : Belief) → Ours b → Ours (received a b)
  received_ours none b o = o
  received_ours acc b o = o
  received_ours rjt b o = o
  received_ours dlogo b o = tt
  received_ours other b o = o

  linked_ours : (f : Record → Record) → KeepsNames f → (a : Answer) (b : Belief) → Ours b → Ours (after_link f a b)
  linked_ours f k none b o = tt
  linked_ours f k acc b o = thinks_ours f k b o
  linked_ours f k rjt b o = o
  linked_ours f k dlogo b o = tt
  linked_ours f k other b o = o

  plogi_ours : (l : Kept) (a : Answer) (b : Belief) → Own l → Ours b → Ours (after_plogi l a b)
  plogi_ours l none b k o = tt
  plogi_ours l acc b k o = k
  plogi_ours l rjt b k o = tt
  plogi_ours l dlogo b k o = tt
  plogi_ours l other b k o = o

  logo_ours : (a : Answer) (b : Belief) → Ours b → Ours (after_logo a b)
  logo_ours none b o = tt
  logo_ours acc b o = tt
  logo_ours rjt b o = tt
  logo_ours dlogo b o = tt
  logo_ours other b o = o

  hears_ours : (q : Request) (a : Answer) (b : Belief) → OwnIn Own q → Ours b → Ours (hears q a b)
  hears_ours (plogi l) a b k o = plogi_ours l a b k o
  hears_ours (pdisc l) a b k o = linked_ours proved (tt, λ p v x e. e) a b o
  hears_ours logo a b k o = logo_ours a b o
  hears_ours adisc a b k o = linked_ours proved (tt, λ p v x e. e) a b o
  hears_ours prli a b k o = linked_ours paired (tt, λ p v x e. e) a b o
  hears_ours prlo a b k o = linked_ours unpaired (tt, λ p v x e. e) a b o
  hears_ours rrq a b k o = linked_ours same (tt, λ p v x e. e) a b o
  hears_ours command a b k o = received_ours a b o
  hears_ours abts a b k o = received_ours a b o
  hears_ours fcp_data a b k o = received_ours a b o

  -- so a host at whose address another's login stands is unsure, whatever becomes of that login
  not_own_fits : (d : Bool) (b : Belief) (r r' : Record) → NotOwn Own r → Ours b → Fits d b r → Fits d b r'
  not_own_fits d unsure r r' n o p = tt
  not_own_fits d (sure x) r r' n o (inl e) = absurd (n (subst (OwnRecord Own) e o))
  not_own_fits d (sure x) r r' n o (inr e) = absurd (n (subst (OwnRecord Own) (sym e.1) tt))

-- where the drive neither powers on nor its verification time runs out, no memory is lost
pub free_without_lapse : (D : Side) (h : List (Event D)) (w : World D) → NoLapse D h → Free D w h
free_without_lapse D [] w q = tt
free_without_lapse D (send f x ∷ h) w q = (refl, free_without_lapse D h (step D w (send f x)) q)
free_without_lapse D (next c b ∷ h) w q = (refl, free_without_lapse D h (step D w (next c b)) q)
free_without_lapse D (pass x b ∷ h) w q = (refl, free_without_lapse D h (step D w (pass x b)) q)
free_without_lapse D (foreign a ∷ h) w q = (refl, free_without_lapse D h (step D w (foreign a)) q)
free_without_lapse D (reset ∷ h) w q = (refl, free_without_lapse D h (step D w reset) q)
free_without_lapse D (lapse x ∷ h) w q = absurd q
free_without_lapse D (forget ∷ h) w q = (refl, free_without_lapse D h (step D w forget) q)

module _ (D : Side) (laws : Laws D) where
  record Good (d : Bool) (w : World D) : Type 0 where
    formed : D.Wf w.drive
    fits : Fits d w.belief (D.login w.drive)
    ours : Ours D.Own w.belief

  -- d after an event
  abbrev later : World D → Bool → Event D → Bool
  later w d e = clear (reaches_host D w e) (mark (loss D w e) d)

  sent : (f : D.Sent) (x : Fate) (d : Bool) (w : World D) → May w.belief (D.asks f) → Good d w → Good (later w d (send f x)) (step D w (send f x))
  sent f lost d w m g = record {
    formed = g.formed;
    fits = request_lost (D.asks f) d w.belief (D.login w.drive) g.fits;
    ours = hears_ours D.Own (D.asks f) none w.belief (laws.owns f) g.ours;
  }
  sent f mute d w m g = record {
    formed = laws.take_wf w.drive f g.formed;
    fits = answer_lost (D.asks f) (D.answer w.drive f) d w.belief (D.login w.drive) (D.login (D.take w.drive f)) m (laws.takes w.drive f g.formed) g.fits;
    ours = hears_ours D.Own (D.asks f) none w.belief (laws.owns f) g.ours;
  }
  sent f heard d w m g = record {
    formed = laws.take_wf w.drive f g.formed;
    fits = both_arrive (D.asks f) (D.answer w.drive f) d w.belief (D.login w.drive) (D.login (D.take w.drive f)) m (laws.takes w.drive f g.formed) g.fits;
    ours = hears_ours D.Own (D.asks f) (D.answer w.drive f) w.belief (laws.owns f) g.ours;
  }

  -- all else: the record stays, or it is another's
  passing : (x : D.Else) (b d : Bool) (w : World D) → Good d w → D.Wf (D.pass w.drive x)
      → Unasked (D.login w.drive) (D.says w.drive x) (D.login (D.pass w.drive x)) ⊎ (NotOwn D.Own (D.login w.drive) × (D.says w.drive x ≡ none)) → Good (later w d (pass x b)) (step D w (pass x b))
  passing x b d w g k (inl u) = record {
    formed = k;
    fits = on_unasked b (D.says w.drive x) d w.belief (D.login w.drive) (D.login (D.pass w.drive x)) u g.fits;
    ours = received_ours D.Own (arrives b (D.says w.drive x)) w.belief g.ours;
  }
  passing x b d w g k (inr (n, e)) = record {
    formed = k;
    fits = subst (λ (y : Answer). Fits (clear (some (arrives b y)) d) (received (arrives b y) w.belief) (D.login (D.pass w.drive x))) (sym e) (unheard b (not_own_fits D.Own d w.belief (D.login w.drive) (D.login (D.pass w.drive x)) n g.ours g.fits));
    ours = received_ours D.Own (arrives b (D.says w.drive x)) w.belief g.ours;
  }
    where
      unheard : (t : Bool) → Fits d w.belief (D.login (D.pass w.drive x)) → Fits (clear (some (arrives t none)) d) (received (arrives t none) w.belief) (D.login (D.pass w.drive x))
      unheard true p = p
      unheard false p = p

  stepped : (e : Event D) (d : Bool) (w : World D) → Follows D w e → Good d w → Good (later w d e) (step D w e)
  stepped (send f x) d w m g = sent f x d w m g
  stepped (next c b) d w m g = record {
    formed = laws.call_wf w.drive c g.formed;
    fits = on_unasked b (D.speaks w.drive c) d w.belief (D.login w.drive) (D.login (D.call w.drive c)) (laws.calls w.drive c g.formed) g.fits;
    ours = received_ours D.Own (arrives b (D.speaks w.drive c)) w.belief g.ours;
  }
  stepped (pass x b) d w m g = passing x b d w g (laws.pass_wf w.drive x g.formed m) (laws.passes w.drive x g.formed m)
  stepped (foreign a) d w m g = g
  stepped reset d w m g = record {
    formed = laws.reset_wf w.drive g.formed;
    fits = after_reset d w.belief (D.login w.drive) (D.login (D.reset w.drive)) (laws.resets w.drive g.formed) g.fits;
    ours = thinks_ours D.Own doubted (tt, λ p v x e. e) w.belief g.ours;
  }
  stepped (lapse x) d w m g = record {
    formed = laws.lapse_wf w.drive x g.formed;
    fits = after_lapse (D.loses w.drive x) d w.belief (D.login w.drive) (D.login (D.lapse w.drive x)) (laws.lapses w.drive x g.formed) g.fits;
    ours = g.ours;
  }
  stepped forget d w m g = record { formed = g.formed; fits = tt; ours = tt }

  weak : (d : Bool) (w : World D) → Good d w → Good true w
  weak d w g = record { formed = g.formed; fits = weaken d w.belief (D.login w.drive) g.fits; ours = g.ours }

  -- over every history
  always : (h : List (Event D)) (w : World D) → Keeps D w h → Good true w → Good true (run D w h)
  always [] w k g = g
  always (e ∷ h) w k g = always h (step D w e) k.1 (weak (later w true e) (step D w e) (stepped e true w k.0 g))

  calm : (t : Bool) → clear t false ≡ false
  calm true = refl
  calm false = refl

  clean : (d : Bool) (w : World D) → d ≡ false → Good d w → Good false w
  clean d w e g = subst (λ (x : Bool). Good x w) e g

  -- over every history without a loss of memory
  between : (h : List (Event D)) (w : World D) → Keeps D w h → Free D w h → Good false w → Good false (run D w h)
  between [] w k q g = g
  between (e ∷ h) w k q g =
      let c : later w false e ≡ false = ap (λ (t : Bool). clear (reaches_host D w e) (mark t false)) q.0 ∙ calm (reaches_host D w e) in
      between h (step D w e) k.1 q.1 (clean (later w false e) (step D w e) c (stepped e false w k.0 g))

  -- a frame that reaches the host
  cleared : (e : Event D) (d : Bool) (w : World D) → reaches_host D w e ≡ true → later w d e ≡ false
  cleared e d w t = ap (λ (u : Bool). clear u (mark (loss D w e) d)) t

  begun : (s : D.State) → D.Wf s → Good true (start D s)
  begun s k = record { formed = k; fits = tt; ours = tt }

  again : (s : D.State) (h₁ : List (Event D)) (e : Event D) (h₂ : List (Event D)) → History D s h₁ e h₂ → reaches_host D (run D (start D s) h₁) e ≡ true →
      Free D (step D (run D (start D s) h₁) e) h₂ → Fine D (run D (step D (run D (start D s) h₁) e) h₂)
  again s h₁ e h₂ k t q =
      let w : World D = run D (start D s) h₁ in
      let g : Good true w = always h₁ (start D s) k.first (begun s k.formed) in
      let g₂ : Good false (step D w e) = clean (later w true e) (step D w e) (cleared e true w t) (stepped e true w k.then g) in
      let g₃ : Good false (run D (step D w e) h₂) = between h₂ (step D w e) k.last q g₂ in
      agrees (run D (step D w e) h₂).belief (D.login (run D (step D w e) h₂).drive) g₃.fits

  wake : (e : Event D) (w : World D) (x : Record) → w.belief ≡ unsure → (step D w e).belief ≡ sure x → reaches_host D w e ≡ true
  wake (send f y) w x u v = wakes (D.asks f) (sees y (D.answer w.drive f)) w.belief x u v
  wake (next c b) w x u v = wakes_unasked (arrives b (D.speaks w.drive c)) w.belief x u v
  wake (pass y b) w x u v = wakes_unasked (arrives b (D.says w.drive y)) w.belief x u v
  wake (foreign a) w x u v = absurd (awake w.belief x u v)
  wake reset w x u v = absurd (awake (think doubted w.belief) x (ap (think doubted) u) v)
  wake (lapse y) w x u v = absurd (awake w.belief x u v)
  wake forget w x u v = absurd (awake unsure x refl v)

  pub demand3 : Demand3 D
  demand3 = record {
    sure_until = λ s h₁ e h₂ x k u v q. again s h₁ e h₂ k (wake e (run D (start D s) h₁) x u v) q;
    right_again = again;
    ends_doubt = λ s h₁ f k m t.
        let w : World D = run D (start D s) h₁ in
        let g : Good true w = always h₁ (start D s) k.first (begun s k.formed) in
        settles (D.asks f) (D.answer w.drive f) w.belief (D.login w.drive) (D.login (D.take w.drive f)) m t (laws.takes w.drive f g.formed);
  }
