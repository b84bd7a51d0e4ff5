-- What a NAT tells of itself: which port is live, where a datagram would leave, and who would be let in had it been sent.
use Rattle.nat_kinds.proofs.Words.{Bool, Cone, Departure, Ep, Err, HasNoLive, IfNone, IfSome, IsLiveAt, IsNoted, IsPast, List, Millis, NatEntry, NatKind, NatRefusal, NatSettings, NatStandsFor, NatState, None, Ok, Option, Out, Outward, Port, Restricted, Result, Shows, Some, Sound, Symmetric, Way, [], admits, answer_of, ap, asked_at, asked_way, asked_with, cond, counting, eqb-true, false, find, from_external, has_key, if_young, inside_by, inside_if, is_young, latest, latest_moment, le_refl, le_trans, leaves_from, lets_in, live_after, live_port, nat_answer, passes, place_at, place_with, port_in, refl, same_way, same_way_equiv, subst, sym, true, ℕ, ◌==◌, ◌∙◌, ◌∷◌, ◌≡◌, ◌≤◌}
use Rattle.nat_kinds.proofs.ListLemmas.{found_passes}
use Rattle.nat_kinds.proofs.LawLemmas.{sound_past}
use Rattle.nat_kinds.proofs.ChoiceLemmas.{live_is, inside_is}
use Rattle.nat_kinds.proofs.ShowsLemmas.{Shown, by_key, none_found_by_key, young_is}
use Rattle.nat_kinds.proofs.StandsLemmas.{Lets, later_past, lets_out, none_count}

-- THE LIVE PORT

-- a search of a table finds it
found_is_live : (kind : NatKind) (x : Shown kind) (inside dst : Ep) (r : Option ℕ) → IfSome r (IsLiveAt kind x.idle x.now x.places inside dst)
    → IfNone r (HasNoLive kind x.idle x.now x.places inside dst) → r ≡ live_port kind inside dst (latest kind x.outs)
found_is_live kind x inside dst None live none = sym (live_is kind inside dst x.outs ∙ ap port_in (none_found_by_key kind x inside dst none))
found_is_live kind x inside dst (Some port) live none =
    let e : Outward = live.0 in
    let f : find (λ o. port == o.port) x.outs ≡ Some e = sym (x.shows port) ∙ ap (if_young x.idle x.now) live.1 ∙ young_is x.idle x.now e live.3 in
    let port_is : port ≡ e.port = eqb-true port e.port (found_passes _ x.outs e f) in
    sym (live_is kind inside dst x.outs ∙ ap port_in (by_key kind x inside dst port e f live.2) ∙ ap (λ p. Some p) (sym port_is))

abbrev pub shown_at : (nat : NatState) (now : ℕ) → nat.moment ≤ now → (h : List NatEntry) → NatStandsFor nat h → Shown nat.settings.kind
shown_at nat now l h is = record {
  idle = nat.settings.idle;
  now = now;
  places = nat.places;
  outs = counting nat.settings.idle now h;
  sound = sound_past nat.settings h now (later_past nat.settings h nat.moment now is.past l);
  shows = is.ports now l;
}

pub port-stands : (nat : NatState) (now : ℕ) (inside dst : Ep) (r : Option ℕ) → nat.moment ≤ now
    → IfSome r (IsLiveAt nat.settings.kind nat.settings.idle now nat.places inside dst)
    → IfNone r (HasNoLive nat.settings.kind nat.settings.idle now nat.places inside dst)
    → (h : List NatEntry) → NatStandsFor nat h → r ≡ live_port nat.settings.kind inside dst (live_after nat.settings h now)
port-stands nat now inside dst r l live none h is = found_is_live nat.settings.kind (shown_at nat now l h is) inside dst r live none

-- WHERE A DATAGRAM WOULD LEAVE

-- the answer where these count
abbrev pub AnswersPort : NatState → Departure → Result ℕ NatRefusal → Type 0
AnswersPort nat d r = (outs : List Outward) → Sound nat.settings.kind outs → Shows nat.settings.idle d.moment.0 nat.places outs
    → r ≡ answer_of nat.settings (latest nat.settings.kind outs) d.inside d.dst

pub leaves-stands : (nat : NatState) (d : Departure) (r : Result ℕ NatRefusal) → nat.moment ≤ d.moment.0 → AnswersPort nat d r
    → (h : List NatEntry) → NatStandsFor nat h → from_external nat.settings r ≡ leaves_from nat.settings h d.moment.0 d.inside d.dst
leaves-stands nat d r l answer h is =
    let x = shown_at nat d.moment.0 l h is in
    ap (from_external nat.settings) (answer x.outs x.sound x.shows)

-- WHO WOULD BE LET IN

noted_with : (kind : NatKind) (asked : List (Way × Millis)) (e : Outward) (way : Way)
    → asked_at (asked_with kind e asked) way ≡ cond (same_way (asked_way kind e.inside e.dst) way) (Some e.moment) (asked_at asked way)
noted_with kind asked e way = ap (λ b. cond b (Some e.moment) (asked_at asked way)) (same_way_equiv.symm way (asked_way kind e.inside e.dst))

lets_with : (kind : NatKind) (x : Lets kind) (e : Outward) → (is_young x.idle x.now e ≡ false → x.outs ≡ []) → (src : Ep) (m : Outward)
    → passes kind x.idle x.now (asked_with kind e x.asked) src m ≡ admits kind (cond (is_young x.idle x.now e) (e ∷ x.outs) x.outs) src m
lets_with Cone x e none src m = refl
lets_with Symmetric x e none src m = refl
lets_with Restricted x e none src m = lets_out Restricted x e (asked_with Restricted e x.asked) none (noted_with Restricted x.asked e) src m
lets_with Port x e none src m = lets_out Port x e (asked_with Port e x.asked) none (noted_with Port x.asked e) src m

-- what a port shows with the datagram
shown_with : (idle n : ℕ) (e : Outward) (places : List (Option Outward)) (outs : List Outward) (port : ℕ) → (is_young idle n e ≡ false → outs ≡ [])
    → if_young idle n (place_at places port) ≡ find (λ o. port == o.port) outs
    → if_young idle n (place_with places e port) ≡ find (λ o. port == o.port) (cond (is_young idle n e) (e ∷ outs) outs)
shown_with idle n e places outs port none shows = by_cases (is_young idle n e) refl (port == e.port) refl
  where
    by_cases : (y : Bool) → is_young idle n e ≡ y → (q : Bool) → (port == e.port) ≡ q
        → if_young idle n (cond q (Some e) (place_at places port)) ≡ find (λ o. port == o.port) (cond y (e ∷ outs) outs)
    by_cases true y true k = ap (λ b. cond b (Some e) None) y ∙ sym (ap (λ b. cond b (Some e) (find (λ o. port == o.port) outs)) k)
    by_cases true y false k = shows ∙ sym (ap (λ b. cond b (Some e) (find (λ o. port == o.port) outs)) k)
    by_cases false y true k = ap (λ b. cond b (Some e) None) y ∙ sym (ap (find (λ o. port == o.port)) (none y))
    by_cases false y false k = shows

-- a datagram that the history lets leave from its port
pub record Once (nat : NatState) (h : List NatEntry) (now : ℕ) (e : Outward) : Type 0 where
  pub clock : nat.moment ≤ e.moment.0
  pub past : e.moment.0 ≤ now
  pub stands : NatStandsFor nat h
  pub leaves : nat_answer nat.settings h e.moment.0 e.inside e.dst ≡ Ok e.port

pub lets_in-once : (nat : NatState) (h : List NatEntry) (now : ℕ) (e : Outward) → Once nat h now e → (src : Ep) (port : ℕ)
    → inside_by nat.settings.kind nat.settings.idle now (asked_with nat.settings.kind e nat.asked) src (if_young nat.settings.idle now (place_with nat.places e port))
    ≡ lets_in nat.settings (Out e ∷ h) now src port
lets_in-once nat h now e once src port =
    ap (inside_by s.kind s.idle now (asked_with s.kind e nat.asked) src) (shown_with s.idle now e nat.places (counting s.idle now h) port none (once.stands.ports now l port))
    ∙ by_found (find (λ o. port == o.port) outs) ∙ sym (inside_is s.kind outs src port (sound_past s (Out e ∷ h) now past).agree)
  where
    s : NatSettings
    s = nat.settings

    l : nat.moment ≤ now
    l = le_trans once.clock once.past

    outs : List Outward
    outs = cond (is_young s.idle now e) (e ∷ counting s.idle now h) (counting s.idle now h)

    none : is_young s.idle now e ≡ false → counting s.idle now h ≡ []
    none y = none_count s h nat.moment now e once.stands.past once.clock y

    past : IsPast s (Out e ∷ h) now
    past = record { history = (le_trans once.stands.past.moments once.clock, once.leaves, once.stands.past.history); moments = once.past }

    by_found : (o : Option Outward) → inside_by s.kind s.idle now (asked_with s.kind e nat.asked) src o ≡ inside_if s.kind outs src o
    by_found None = refl
    by_found (Some m) = ap (λ b. cond b (Some m.inside) None)
        (lets_with s.kind (record { idle = s.idle; now = now; asked = nat.asked; outs = counting s.idle now h; each = once.stands.lets now l }) e none src m)
