-- What a NAT stands for after each call.
use Rattle.nat_kinds.proofs.Words.{Bool, Cone, Departure, Ep, Err, Forget, GivesAnswer, IfOk, IsNoted, IsOnce, IsPast, IsPutIn, List, Millis, NatEntry, NatKind, NatRefusal, NatSettings, NatStandsFor, NatState, None, Ok, OnErr, Option, Out, Outward, Port, Recalls, Restricted, Result, Shows, Some, Sound, StandsAsBefore, Symmetric, Way, [], admits, all_map, answer_of, ap, arith, asked_at, asked_way, cond, counting, eqb-true, false, false≢true, find, has_key, if_young, inside_by, inside_if, is_recent, is_young, kept, latest, latest_moment, le_refl, le_trans, lets_in, list_any, nat_answer, nat_eq_equiv, passes, place_at, recalled, refl, same_ep, same_ip, subst, sym, true, unless_key, unless_of, without, ℕ, ◌&&◌, ◌==◌, ◌||◌, ◌∙◌, ◌∷◌, ◌≡◌, ◌≤◌}
use Rattle.nat_kinds.proofs.ListLemmas.{all_found, found_passes, filter_swap}
use Rattle.nat_kinds.proofs.OrderLemmas.{kept_before, none_young}
use Rattle.nat_kinds.proofs.LawLemmas.{sound_past}
use Rattle.nat_kinds.proofs.ChoiceLemmas.{inside_is}
use Rattle.nat_kinds.proofs.WayLemmas.{asked_same}
use Rattle.nat_kinds.proofs.ForgetLemmas.{find_without, young_unless, any_without}
use Rattle.nat_kinds.proofs.RecallLemmas.{Swept, Forgets, swept_same, recalls_later, recalls_within, recalls_noted, recalls_forgot}
use Rattle.nat_kinds.proofs.ShowsLemmas.{Shown}

pub later_past : (s : NatSettings) (h : List NatEntry) (m n : ℕ) → IsPast s h m → m ≤ n → IsPast s h n
later_past s h m n p le = record { history = p.history; moments = le_trans p.moments le }

-- where the latest datagram is old, nothing counts
pub none_count : (s : NatSettings) (h : List NatEntry) (m n : ℕ) (e : Outward) → IsPast s h m → m ≤ e.moment.0 → is_young s.idle n e ≡ false → counting s.idle n h ≡ []
none_count s h m n e past l y = none_young s.idle n e.moment.0 (kept h) (all_map (λ o. o.moment.0 ≤ latest_moment h) (λ o. o.moment.0 ≤ e.moment.0) (kept h) (λ o k. le_trans k (le_trans past.moments l)) (kept_before s h past.history)) y

-- THE TABLE AFTER A DATAGRAM

unless_old : (kind : NatKind) (idle n : ℕ) (e : Outward) (o : Option Outward) → ((x : Outward) → if_young idle n o ≡ Some x → has_key kind e.inside e.dst x ≡ false) → if_young idle n (unless_key kind e o) ≡ if_young idle n o
unless_old kind idle n e None other = refl
unless_old kind idle n e (Some x) other = by_cases (has_key kind e.inside e.dst x) refl (is_young idle n x) refl
  where
    by_cases : (b : Bool) → has_key kind e.inside e.dst x ≡ b → (y : Bool) → is_young idle n x ≡ y → if_young idle n (cond b None (Some x)) ≡ cond y (Some x) None
    by_cases true h false k = refl
    by_cases true h true k = absurd (false≢true (sym (other x (ap (λ b. cond b (Some x) None) k)) ∙ h))
    by_cases false h y k = ap (λ b. cond b (Some x) None) k

-- it joins what counts: where it is young it agrees with that, and where it is old nothing counts
shows_out : (kind : NatKind) (x : Shown kind) (e : Outward) (new : List (Option Outward))
    → (is_young x.idle x.now e ≡ true → Sound kind (e ∷ x.outs)) → (is_young x.idle x.now e ≡ false → x.outs ≡ [])
    → IsPutIn kind x.places new e → Shows x.idle x.now new (cond (is_young x.idle x.now e) (e ∷ x.outs) x.outs)
shows_out kind x e new sound none put port = ap (if_young x.idle x.now) (put port) ∙ by_young (is_young x.idle x.now e) refl (e.port == port) refl
  where
    other : is_young x.idle x.now e ≡ true → (e.port == port) ≡ false → (o : Outward) → if_young x.idle x.now (place_at x.places port) ≡ Some o → has_key kind e.inside e.dst o ≡ false
    other y k o i =
        let f : find (λ o. port == o.port) x.outs ≡ Some o = sym (x.shows port) ∙ i in
        let port_is : port ≡ o.port = eqb-true port o.port (found_passes _ x.outs o f) in
        all_found (λ o. has_key kind e.inside e.dst o ≡ (e.port == o.port)) _ x.outs o (sound y).agree.0 f ∙ ap (λ p. e.port == p) (sym port_is) ∙ k

    none_other : is_young x.idle x.now e ≡ false → (o : Outward) → if_young x.idle x.now (place_at x.places port) ≡ Some o → has_key kind e.inside e.dst o ≡ false
    none_other y o i =
        let gone : Some o ≡ None = sym i ∙ x.shows port ∙ ap (find (λ o. port == o.port)) (none y) in
        absurd (cc gone)

    by_young : (y : Bool) → is_young x.idle x.now e ≡ y → (q : Bool) → (e.port == port) ≡ q → if_young x.idle x.now (cond q (Some e) (unless_key kind e (place_at x.places port))) ≡ find (λ o. port == o.port) (cond y (e ∷ x.outs) x.outs)
    by_young true y true k = ap (λ b. cond b (Some e) None) y ∙ sym (ap (λ b. cond b (Some e) (find (λ o. port == o.port) x.outs)) (nat_eq_equiv.symm port e.port ∙ k))
    by_young true y false k = unless_old kind x.idle x.now e (place_at x.places port) (other y k) ∙ x.shows port ∙ sym (ap (λ b. cond b (Some e) (find (λ o. port == o.port) x.outs)) (nat_eq_equiv.symm port e.port ∙ k))
    by_young false y true k = ap (λ b. cond b (Some e) None) y ∙ sym (ap (find (λ o. port == o.port)) (none y))
    by_young false y false k = unless_old kind x.idle x.now e (place_at x.places port) (none_other y) ∙ x.shows port

-- WHOM IT LETS IN AFTER A DATAGRAM

asks : (T : Outward → Bool) (e : Outward) (outs : List Outward) (idle n : ℕ) (o : Option Millis) → (is_young idle n e ≡ false → outs ≡ [])
    → is_recent idle n o ≡ list_any T outs → is_recent idle n (cond (T e) (Some e.moment) o) ≡ list_any T (cond (is_young idle n e) (e ∷ outs) outs)
asks T e outs idle n o none old = by_cases (is_young idle n e) (T e) refl refl
  where
    by_cases : (y t : Bool) → is_young idle n e ≡ y → T e ≡ t → is_recent idle n (cond t (Some e.moment) o) ≡ list_any T (cond y (e ∷ outs) outs)
    by_cases true true h k = h ∙ sym (ap (λ b. b || list_any T outs) k)
    by_cases true false h k = old ∙ sym (ap (λ b. b || list_any T outs) k)
    by_cases false true h k = h ∙ sym (ap (list_any T) (none h))
    by_cases false false h k = old

-- what was asked lets in at a moment whom these datagrams let in
pub record Lets (kind : NatKind) : Type 0 where
  pub idle : ℕ
  pub now : ℕ
  pub asked : List (Way × Millis)
  pub outs : List Outward
  pub each : (src : Ep) (m : Outward) → passes kind idle now asked src m ≡ admits kind outs src m

pub lets_out : (kind : NatKind) (x : Lets kind) (e : Outward) (new : List (Way × Millis)) → (is_young x.idle x.now e ≡ false → x.outs ≡ [])
    → IsNoted kind x.asked new e → (src : Ep) (m : Outward) → passes kind x.idle x.now new src m
    ≡ admits kind (cond (is_young x.idle x.now e) (e ∷ x.outs) x.outs) src m
lets_out Cone x e new none noted src m = refl
lets_out Symmetric x e new none noted src m = refl
lets_out Restricted x e new none noted src m =
    ap (is_recent x.idle x.now) (noted (asked_way Restricted m.inside src))
    ∙ ap (λ b. is_recent x.idle x.now (cond b (Some e.moment) (asked_at x.asked (asked_way Restricted m.inside src)))) (asked_same Restricted e m.inside src)
    ∙ asks (λ o. same_ep o.inside m.inside && same_ip o.dst.ip src.ip) e x.outs x.idle x.now _ none (x.each src m)
lets_out Port x e new none noted src m =
    ap (is_recent x.idle x.now) (noted (asked_way Port m.inside src))
    ∙ ap (λ b. is_recent x.idle x.now (cond b (Some e.moment) (asked_at x.asked (asked_way Port m.inside src)))) (asked_same Port e m.inside src)
    ∙ asks (λ o. same_ep o.inside m.inside && same_ep o.dst src) e x.outs x.idle x.now _ none (x.each src m)

passes_same : (kind : NatKind) (idle n : ℕ) (old new : List (Way × Millis))
    → ((way : Way) → is_recent idle n (asked_at new way) ≡ is_recent idle n (asked_at old way)) → (src : Ep) (m : Outward)
    → passes kind idle n new src m ≡ passes kind idle n old src m
passes_same Cone idle n old new same src m = refl
passes_same Restricted idle n old new same src m = same (asked_way Restricted m.inside src)
passes_same Port idle n old new same src m = same (asked_way Port m.inside src)
passes_same Symmetric idle n old new same src m = refl

-- with the settings and the moment that stand there
recalls_at : (old new : NatState) (outs : List Outward) (asked : List (Way × Millis)) (n : ℕ) → new.moment ≡ n → new.settings ≡ old.settings
    → Recalls old.settings.kind (recalled old.settings.kind old.settings.idle n outs) asked
    → Recalls new.settings.kind (recalled new.settings.kind new.settings.idle new.moment outs) asked
recalls_at old new outs asked n m i is = subst (λ (s : NatSettings). Recalls s.kind (recalled s.kind s.idle new.moment outs) asked) (sym i)
    (subst (λ (k : ℕ). Recalls old.settings.kind (recalled old.settings.kind old.settings.idle k outs) asked) (sym m) is)

-- a call at this moment: old ones of what was asked are taken out, and then what is left is changed
pub record Called (old new : NatState) (now : ℕ) : Type 0 where
  pub clock : old.moment ≤ now
  pub moment : new.moment ≡ now
  pub settings : new.settings ≡ old.settings
  pub asked : List (Way × Millis)
  pub swept : Swept old.settings.idle now old.asked asked
  pub once : IsOnce asked → IsOnce new.asked

-- a call by which a datagram goes out: it joins what counts
pub record Sends (old new : NatState) (e : Outward) : Type 0 where
  pub call : Called old new e.moment.0
  pub put : IsPutIn old.settings.kind old.places new.places e
  pub noted : IsNoted old.settings.kind call.asked new.asked e

pub stands_out : (old new : NatState) (e : Outward) → Sends old new e → (h : List NatEntry) → nat_answer old.settings h e.moment.0 e.inside e.dst ≡ Ok e.port → NatStandsFor old h → NatStandsFor new (Out e ∷ h)
stands_out old new e sends h answer is =
    let s : NatSettings = old.settings in
    let c : Called old new e.moment.0 = sends.call in
    let now : IsPast s (Out e ∷ h) e.moment.0 = record { history = (le_trans is.past.moments c.clock, answer, is.past.history); moments = le_refl e.moment.0 } in
    let once : IsOnce c.asked = c.swept.once is.recalls.once in
    record {
      past = rw (c.settings, c.moment) now;
      ports = λ n k.
          let from : e.moment.0 ≤ n = omega (arith, c.moment) in
          subst (λ (t : NatSettings). Shows t.idle n new.places (counting t.idle n (Out e ∷ h))) (sym c.settings)
          (shows_out s.kind (shown h n from c.clock is) e new.places (joins h n (later_past s (Out e ∷ h) e.moment.0 n now from))
          (none_count s h old.moment n e is.past c.clock) sends.put);
      lets = λ n k.
          let from : e.moment.0 ≤ n = omega (arith, c.moment) in
          subst (λ (t : NatSettings). (src : Ep) (m : Outward) → passes t.kind t.idle n new.asked src m ≡ admits t.kind (counting t.idle n (Out e ∷ h)) src m) (sym c.settings) (lets_out s.kind (record {
            idle = s.idle;
            now = n;
            asked = c.asked;
            outs = counting s.idle n h;
            each = λ src m. passes_same s.kind s.idle n old.asked c.asked (c.swept.recent n from) src m ∙ is.lets n (le_trans c.clock from) src m;
          }) e new.asked (none_count s h old.moment n e is.past c.clock) sends.noted);
      recalls = recalls_at old new (e ∷ kept h) new.asked e.moment.0 c.moment c.settings (recalls_noted s e (kept h) c.asked new.asked sends.noted (c.once once)
          (recalls_later s old.moment e.moment.0 (kept h) c.asked c.clock c.swept.lately (recalls_within s.kind _ old.asked c.asked c.swept.within once is.recalls)));
    }
  where
    shown : (h : List NatEntry) (n : ℕ) → e.moment.0 ≤ n → old.moment ≤ e.moment.0 → NatStandsFor old h → Shown old.settings.kind
    shown h n from l is = record {
      idle = old.settings.idle;
      now = n;
      places = old.places;
      outs = counting old.settings.idle n h;
      sound = sound_past old.settings h n (later_past old.settings h old.moment n is.past (le_trans l from));
      shows = is.ports n (le_trans l from);
    }

    joins : (h : List NatEntry) (n : ℕ) → IsPast old.settings (Out e ∷ h) n → is_young old.settings.idle n e ≡ true → Sound old.settings.kind (e ∷ counting old.settings.idle n h)
    joins h n past y = subst (Sound old.settings.kind) (ap (λ b. cond b (e ∷ counting old.settings.idle n h) (counting old.settings.idle n h)) y) (sound_past old.settings (Out e ∷ h) n past)

-- WHERE NOTHING IS SEEN TO CHANGE

pub stands_refused : (old new : NatState) (now : ℕ) (c : Called old new now) → ((p : ℕ) → place_at new.places p ≡ place_at old.places p) → ((way : Way) → asked_at new.asked way ≡ asked_at c.asked way) → StandsAsBefore old new
stands_refused old new now c same asked h is =
    let s : NatSettings = old.settings in
    let swept : Swept s.idle now old.asked new.asked = swept_same s.idle now old.asked c.asked new.asked c.swept asked c.once in
    record {
      past = rw (c.settings, c.moment) (later_past s h old.moment now is.past c.clock);
      ports = λ n k.
          let from : now ≤ n = omega (arith, c.moment) in
          rw c.settings (λ port. ap (if_young s.idle n) (same port) ∙ is.ports n (le_trans c.clock from) port);
      lets = λ n k src o.
          let from : now ≤ n = omega (arith, c.moment) in
          rw c.settings (passes_same s.kind s.idle n old.asked new.asked (swept.recent n from) src o ∙ is.lets n (le_trans c.clock from) src o);
      recalls = recalls_at old new (kept h) new.asked now c.moment c.settings
          (recalls_later s old.moment now (kept h) new.asked c.clock swept.lately (recalls_within s.kind _ old.asked new.asked swept.within (swept.once is.recalls.once) is.recalls));
    }

-- FORGETTING

recent_forgot : (b : Bool) (idle n : ℕ) (o : Option Millis) {t : Bool} → is_recent idle n o ≡ t → is_recent idle n (cond b None o) ≡ cond b false t
recent_forgot true idle n o i = refl
recent_forgot false idle n o i = i

lets_forgot : (kind : NatKind) (x : Lets kind) (who : Ep) (new : List (Way × Millis)) → Forgets who x.asked new → (src : Ep) (m : Outward) → passes kind x.idle x.now new src m ≡ admits kind (without who x.outs) src m
lets_forgot Cone x who new forgets src m = refl
lets_forgot Symmetric x who new forgets src m = refl
lets_forgot Restricted x who new forgets src m = ap (is_recent x.idle x.now) (forgets.each (asked_way Restricted m.inside src))
    ∙ recent_forgot (same_ep m.inside who) x.idle x.now (asked_at x.asked (asked_way Restricted m.inside src)) (x.each src m)
    ∙ sym (any_without who m.inside (λ o. same_ip o.dst.ip src.ip) x.outs)
lets_forgot Port x who new forgets src m = ap (is_recent x.idle x.now) (forgets.each (asked_way Port m.inside src))
    ∙ recent_forgot (same_ep m.inside who) x.idle x.now (asked_at x.asked (asked_way Port m.inside src)) (x.each src m)
    ∙ sym (any_without who m.inside (λ o. same_ep o.dst src) x.outs)

-- a call that forgets an inside endpoint
pub record Forgot (old new : NatState) (who : Ep) : Type 0 where
  pub moment : new.moment ≡ old.moment
  pub settings : new.settings ≡ old.settings
  pub places : (p : ℕ) → place_at new.places p ≡ unless_of who (place_at old.places p)
  pub asked : Forgets who old.asked new.asked

pub stands_forget : (old new : NatState) (who : Ep) → Forgot old new who → (h : List NatEntry) → NatStandsFor old h → NatStandsFor new (Forget who ∷ h)
stands_forget old new who c h is =
    let s : NatSettings = old.settings in
    let swapped : (n : ℕ) → without who (counting s.idle n h) ≡ counting s.idle n (Forget who ∷ h) = λ n. filter_swap _ (is_young s.idle n) (kept h) in
    record {
      past = rw (c.settings, c.moment) (record { history = is.past.history; moments = is.past.moments });
      ports = λ n k.
          let from : old.moment ≤ n = omega (arith, c.moment) in
          let sound : Sound s.kind (counting s.idle n h) = sound_past s h n (later_past s h old.moment n is.past from) in
          rw c.settings (λ port. ap (if_young s.idle n) (c.places port) ∙ young_unless s.idle n who (place_at old.places port)
          ∙ ap (unless_of who) (is.ports n from port) ∙ sym (find_without s.kind who port (counting s.idle n h) sound.agree)
          ∙ ap (find (λ o. port == o.port)) (swapped n));
      lets = λ n k src o.
          let from : old.moment ≤ n = omega (arith, c.moment) in
          rw c.settings (lets_forgot s.kind (record { idle = s.idle; now = n; asked = old.asked; outs = counting s.idle n h; each = is.lets n from }) who new.asked c.asked src o ∙ ap (λ outs. admits s.kind outs src o) (swapped n));
      recalls = recalls_at old new (without who (kept h)) new.asked old.moment c.moment c.settings (recalls_forgot s old.moment who (kept h) old.asked new.asked c.asked is.recalls);
    }

-- LETTING IN

pub lets_in-stands : (nat : NatState) (now : ℕ) (src : Ep) (port : ℕ) → nat.moment ≤ now → (h : List NatEntry) → NatStandsFor nat h
    → inside_by nat.settings.kind nat.settings.idle now nat.asked src (if_young nat.settings.idle now (place_at nat.places port))
    ≡ lets_in nat.settings h now src port
lets_in-stands nat now src port l h is =
    ap (inside_by s.kind s.idle now nat.asked src) (is.ports now l port) ∙ by_found (find (λ o. port == o.port) outs)
    ∙ sym (inside_is s.kind outs src port (sound_past s h now (later_past s h nat.moment now is.past l)).agree)
  where
    s : NatSettings
    s = nat.settings

    outs : List Outward
    outs = counting s.idle now h

    by_found : (o : Option Outward) → inside_by s.kind s.idle now nat.asked src o ≡ inside_if s.kind outs src o
    by_found None = refl
    by_found (Some m) = ap (λ b. cond b (Some m.inside) None) (is.lets now l src m)

-- OF AN ANSWER TO AN OUTWARD DATAGRAM

-- the answer where these count
abbrev pub AnswersBy : NatState → Departure → Result Ep NatRefusal → Type 0
AnswersBy nat d r = (outs : List Outward) → Sound nat.settings.kind outs → Shows nat.settings.idle d.moment.0 nat.places outs → GivesAnswer nat.settings (answer_of nat.settings (latest nat.settings.kind outs) d.inside d.dst) r

pub answers : (nat : NatState) (d : Departure) (r : Result Ep NatRefusal) → nat.moment ≤ d.moment.0 → AnswersBy nat d r
    → (h : List NatEntry) → NatStandsFor nat h → GivesAnswer nat.settings (nat_answer nat.settings h d.moment.0 d.inside d.dst) r
answers nat d r l answer h is = answer (counting nat.settings.idle d.moment.0 h) (sound_past nat.settings h d.moment.0 (later_past nat.settings h nat.moment d.moment.0 is.past l)) (is.ports d.moment.0 l)

-- the datagram that leaves from this port
abbrev pub leaving : Departure → ℕ → Outward
leaving d port = record { moment = d.moment; inside = d.inside; dst = d.dst; port = port }

pub stands_out_or : (old new : NatState) (d : Departure) (c : Called old new d.moment.0) (r : Result Ep NatRefusal) → AnswersBy old d r
    → IfOk r (λ ep. IsPutIn old.settings.kind old.places new.places (leaving d ep.port))
    → IfOk r (λ ep. IsNoted old.settings.kind c.asked new.asked (leaving d ep.port))
    → IfOk r (λ ep. (h : List NatEntry) → NatStandsFor old h → NatStandsFor new (Out (leaving d ep.port) ∷ h))
stands_out_or old new d c (Ok ep) answer put noted = λ h is. stands_out old new (leaving d ep.port) (record { call = c; put = put; noted = noted }) h (answers old d (Ok ep) c.clock answer h is).0 is
stands_out_or old new d c (Err e) answer put noted = tt

pub stands_refused_or : (old new : NatState) (now : ℕ) (c : Called old new now) (r : Result Ep NatRefusal) → OnErr r ((p : ℕ) → place_at new.places p ≡ place_at old.places p)
    → OnErr r ((way : Way) → asked_at new.asked way ≡ asked_at c.asked way)
    → OnErr r (StandsAsBefore old new)
stands_refused_or old new now c (Ok ep) same asked = tt
stands_refused_or old new now c (Err e) same asked = stands_refused old new now c same asked
