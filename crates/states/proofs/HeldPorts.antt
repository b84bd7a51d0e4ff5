-- What datagrams that go out of a NAT at one moment leave as it was: a port that a key has live, and that a key gets none where all are held.
use Rattle.std.proofs.Common.{◌≡◌, ◌≤◌, ◌<◌, ◌+◌, ◌-◌, ◌==◌, ◌||◌, ℕ, Bool, true, false, List, [], ◌∷◌, ◌++◌, length, find, cond, Option, Some, None, Result, Ok, Err, refl, sym, ap, subst, arith, ◌∙◌}
use Rattle.std.proofs.Math.Nat.{le_refl, le_trans}
use Rattle.std.proofs.lemmas.Bool.{lt-ltb}
use Rattle.std.proofs.lemmas.Option.{same_Some}
use Rattle.std.specs.List.{AllByRecursion}
use Rattle.nat_kinds.proofs.ListLemmas.{find_alike}
use Rattle.std.specs.Prelude.{nat_lt}
use Rattle.td_base.specs.declared.endpoint.Ep.{Ep}
use Rattle.nat_kinds.specs.declared.kind.NatKind.{NatKind}
use Rattle.nat_kinds.specs.declared.limits.TheConstants.{FIRST_PORT, MAPPINGS_MAX}
use Rattle.nat_kinds.specs.declared.outgoing.Outward.{Outward}
use Rattle.nat_kinds.specs.declared.refusal.NatRefusal.{NatRefusal}
use Rattle.nat_kinds.specs.declared.refusal.NatRefusal.TheVariants.{Hairpin, Full, NoMemory}
use Rattle.nat_kinds.specs.declared.settings.NatSettings.{NatSettings}
use Rattle.nat_kinds.specs.History.{NatEntry, Out, Forget, Restart, counting, is_young, kept}
use Rattle.nat_kinds.specs.Mappings.{has_key, is_used, latest, live_port, port_in}
use Rattle.nat_kinds.specs.Answer.{GivesPort, IsAnswer, IsFull, live_after, nat_answer}
use Rattle.nat_kinds.specs.Laws.{IsHistory, IsPast, latest_moment}
use Rattle.nat_kinds.specs.Sound.{Sound}
use Rattle.nat_kinds.proofs.PortLemmas.{count_free, count_full, has_itself, key_alike, used_latest}
use Rattle.nat_kinds.proofs.ChoiceLemmas.{live_is}
use Rattle.nat_kinds.proofs.AnswerLemmas.{answer-is}
use Rattle.nat_kinds.proofs.LawLemmas.{sound_past}

all_of : (P : Outward → Type 0) → ((o : Outward) → P o) → (xs : List Outward) → AllByRecursion P xs
all_of P each [] = tt
all_of P each (o ∷ xs) = (each o, all_of P each xs)

-- THE HISTORY BEFORE

pub past_before : (s : NatSettings) (es h : List NatEntry) (m : ℕ) → IsPast s (es ++ h) m → IsPast s h m
past_before s [] h m past = past
past_before s (Out e ∷ es) h m past = past_before s es h m (record { history = past.history.2; moments = le_trans past.history.0 past.moments })
past_before s (Forget who ∷ es) h m past = past_before s es h m (record { history = past.history; moments = past.moments })
past_before s (Restart ∷ es) h m past = past_before s es h m (record { history = past.history; moments = past.moments })

-- all of these are datagrams of this moment
abbrev pub GoOutAt : ℕ → List NatEntry → Type 0
GoOutAt m [] = Unit {0}
GoOutAt m (Out e ∷ es) = (e.moment.0 ≡ m) × GoOutAt m es
GoOutAt m (x ∷ es) = ⊥

-- ONE DATAGRAM MORE

-- a NAT at a moment, and a datagram that goes out then
pub record OneOut : Type 0 where
  pub s : NatSettings
  pub h : List NatEntry
  pub m : ℕ
  pub e : Outward
  pub past : IsPast s (Out e ∷ h) m
  pub moment : e.moment.0 ≡ m
  pub lives : 1 ≤ s.idle

abbrev pub outs : OneOut → List Outward
outs x = counting x.s.idle x.m x.h

young_now : (idle m n : ℕ) → 1 ≤ idle → n ≡ m → nat_lt (m - n) idle ≡ true
young_now idle m n lives e = subst (λ (k : ℕ). nat_lt (m - k) idle ≡ true) (sym e) (by (lives)) where
  by : 1 ≤ idle → nat_lt (m - m) idle ≡ true
  by l = lt-ltb _ _ (omega (arith, l))

-- it counts
pub counts_too : (x : OneOut) → counting x.s.idle x.m (Out x.e ∷ x.h) ≡ x.e ∷ outs x
counts_too x = ap (λ (b : Bool). cond b (x.e ∷ outs x) (outs x)) (young_now x.s.idle x.m x.e.moment.0 x.lives x.moment)

pub sound_now : (x : OneOut) → Sound x.s.kind (outs x)
sound_now x = sound_past x.s x.h x.m (past_before x.s (Out x.e ∷ []) x.h x.m x.past)

-- it left from the port that its key had, or got
pub given : (x : OneOut) → GivesPort (live_port x.s.kind x.e.inside x.e.dst (live_after x.s x.h x.m)) (live_after x.s x.h x.m) x.e.port
given x = subst (λ (n : ℕ). GivesPort (live_port x.s.kind x.e.inside x.e.dst (live_after x.s x.h n)) (live_after x.s x.h n) x.e.port) x.moment
    (subst (IsAnswer x.s (live_after x.s x.h x.e.moment.0) x.e.inside x.e.dst) x.past.history.1 (answer-is x.s (live_after x.s x.h x.e.moment.0) x.e.inside x.e.dst)).1

-- the port that a key has live, as a search by key finds it
pub found : (s : NatSettings) (h : List NatEntry) (m : ℕ) (inside dst : Ep) → live_port s.kind inside dst (live_after s h m) ≡ port_in (find (has_key s.kind inside dst) (counting s.idle m h))
found s h m inside dst = live_is s.kind inside dst (counting s.idle m h)

-- with it
found_with : (x : OneOut) (inside dst : Ep) (b : Bool) → has_key x.s.kind inside dst x.e ≡ b
    → live_port x.s.kind inside dst (live_after x.s (Out x.e ∷ x.h) x.m) ≡ port_in (cond b (Some x.e) (find (has_key x.s.kind inside dst) (outs x)))
found_with x inside dst b is = found x.s (Out x.e ∷ x.h) x.m inside dst
    ∙ ap (λ (es : List Outward). port_in (find (has_key x.s.kind inside dst) es)) (counts_too x)
    ∙ ap (λ (t : Bool). port_in (cond t (Some x.e) (find (has_key x.s.kind inside dst) (outs x)))) is

-- what has its key finds what it finds
same_found : (x : OneOut) (inside dst : Ep) → has_key x.s.kind inside dst x.e ≡ true
    → live_port x.s.kind inside dst (live_after x.s x.h x.m) ≡ live_port x.s.kind x.e.inside x.e.dst (live_after x.s x.h x.m)
same_found x inside dst has = found x.s x.h x.m inside dst
    ∙ ap port_in (find_alike _ _ (outs x) (all_of (λ (o : Outward). has_key x.s.kind inside dst o ≡ has_key x.s.kind x.e.inside x.e.dst o) (λ o. key_alike x.s.kind inside dst x.e o has) (outs x)))
    ∙ sym (found x.s x.h x.m x.e.inside x.e.dst)

-- its own key has its port
pub own_port : (x : OneOut) → live_port x.s.kind x.e.inside x.e.dst (live_after x.s (Out x.e ∷ x.h) x.m) ≡ Some x.e.port
own_port x = found_with x x.e.inside x.e.dst true (has_itself x.s.kind x.e)

given_so : (held : Option ℕ) (live : List Outward) (port p : ℕ) → held ≡ Some p → GivesPort held live port → port ≡ p
given_so (Some q) live port p e g = let same : q ≡ p = same_Some q p e in g ∙ same
given_so None live port p e g = absurd (let k : Some p ≡ None = sym e in cc)

-- a key that has a port keeps it
one_keeps : (x : OneOut) (inside dst : Ep) (port : ℕ) → live_port x.s.kind inside dst (live_after x.s x.h x.m) ≡ Some port
    → live_port x.s.kind inside dst (live_after x.s (Out x.e ∷ x.h) x.m) ≡ Some port
one_keeps x inside dst port live = by (has_key x.s.kind inside dst x.e) refl where
  by : (b : Bool) → has_key x.s.kind inside dst x.e ≡ b → live_port x.s.kind inside dst (live_after x.s (Out x.e ∷ x.h) x.m) ≡ Some port
  by true has = found_with x inside dst true has ∙ ap (λ (p : ℕ). Some p) (given_so _ _ x.e.port port (sym (same_found x inside dst has) ∙ live) (given x))
  by false has = found_with x inside dst false has ∙ sym (found x.s x.h x.m inside dst) ∙ live

pub keeps : (s : NatSettings) (es h : List NatEntry) (m : ℕ) → IsPast s (es ++ h) m → GoOutAt m es → 1 ≤ s.idle → (inside dst : Ep) (port : ℕ)
    → live_port s.kind inside dst (live_after s h m) ≡ Some port → live_port s.kind inside dst (live_after s (es ++ h) m) ≡ Some port
keeps s [] h m past out lives inside dst port live = live
keeps s (Out e ∷ es) h m past out lives inside dst port live =
    one_keeps (record { s = s; h = es ++ h; m = m; e = e; past = past; moment = out.0; lives = lives }) inside dst port
    (keeps s es h m (past_before s (Out e ∷ []) (es ++ h) m past) out.1 lives inside dst port live)
keeps s (Forget who ∷ es) h m past out lives inside dst port live = absurd out
keeps s (Restart ∷ es) h m past out lives inside dst port live = absurd out

-- WHERE ALL PORTS ARE HELD

-- each port is, and the key holds none
pub record Shut (s : NatSettings) (h : List NatEntry) (m : ℕ) (inside dst : Ep) : Type 0 where
  pub none : live_port s.kind inside dst (live_after s h m) ≡ None
  pub all : (q : ℕ) → FIRST_PORT ≤ q → q < FIRST_PORT + MAPPINGS_MAX → is_used (counting s.idle m h) q ≡ true

-- so it is where the NAT is full
pub shut_full : (s : NatSettings) (h : List NatEntry) (m : ℕ) → IsPast s h m → (inside dst : Ep) → nat_answer s h m inside dst ≡ Err Full → Shut s h m inside dst
shut_full s h m past inside dst full =
    let sound : Sound s.kind (counting s.idle m h) = sound_past s h m past in
    let is : IsFull s.kind inside dst (live_after s h m) = (subst (IsAnswer s (live_after s h m) inside dst) full (answer-is s (live_after s h m) inside dst)).1 in
    record {
      none = is.0;
      all = λ q from below. used sound is.1 q from below (is_used (counting s.idle m h) q) refl;
    }
  where
    used : Sound s.kind (counting s.idle m h) → MAPPINGS_MAX ≤ length (live_after s h m) → (q : ℕ) → FIRST_PORT ≤ q → q < FIRST_PORT + MAPPINGS_MAX
        → (b : Bool) → is_used (counting s.idle m h) q ≡ b → is_used (counting s.idle m h) q ≡ true
    used sound most q from below true is = is
    used sound most q from below false is = absurd (let few = count_free s.kind (counting s.idle m h) q sound from below is in omega (arith, few, most))

gives_none : (held : Option ℕ) (live : List Outward) (port : ℕ) → held ≡ None → length live ≡ MAPPINGS_MAX → GivesPort held live port → ⊥
gives_none (Some q) live port e most g = let k : Some q ≡ None = e in cc
gives_none None live port e most g = let few = g.0 in omega (arith, few, most)

one_shut : (x : OneOut) (inside dst : Ep) → Shut x.s x.h x.m inside dst → Shut x.s (Out x.e ∷ x.h) x.m inside dst
one_shut x inside dst shut = record {
  none = by (has_key x.s.kind inside dst x.e) refl;
  all = λ q from below. subst (λ (es : List Outward). is_used es q ≡ true) (sym (counts_too x)) (rw (shut.all q from below) (or_true (q == x.e.port)));
}
  where
    or_true : (b : Bool) → (b || true) ≡ true
    or_true true = refl
    or_true false = refl

    by : (b : Bool) → has_key x.s.kind inside dst x.e ≡ b → live_port x.s.kind inside dst (live_after x.s (Out x.e ∷ x.h) x.m) ≡ None
    by true has = absurd (gives_none _ _ x.e.port (sym (same_found x inside dst has) ∙ shut.none) (count_full x.s.kind (outs x) (sound_now x) shut.all) (given x))
    by false has = found_with x inside dst false has ∙ sym (found x.s x.h x.m inside dst) ∙ shut.none

pub stays_shut : (s : NatSettings) (es h : List NatEntry) (m : ℕ) → IsPast s (es ++ h) m → GoOutAt m es → 1 ≤ s.idle → (inside dst : Ep)
    → Shut s h m inside dst → Shut s (es ++ h) m inside dst
stays_shut s [] h m past out lives inside dst shut = shut
stays_shut s (Out e ∷ es) h m past out lives inside dst shut =
    one_shut (record { s = s; h = es ++ h; m = m; e = e; past = past; moment = out.0; lives = lives }) inside dst
    (stays_shut s es h m (past_before s (Out e ∷ []) (es ++ h) m past) out.1 lives inside dst shut)
stays_shut s (Forget who ∷ es) h m past out lives inside dst shut = absurd out
stays_shut s (Restart ∷ es) h m past out lives inside dst shut = absurd out
