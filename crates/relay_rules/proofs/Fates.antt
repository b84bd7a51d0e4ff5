-- The fate of what is done, and which bearings are a try's.
use Rattle.relay_rules.proofs.Words.{Bool, Entry, Fate, FateOfRelayReception, FateOfRelayTransmission, Ip6, List, None, RelaySettings, RelayStanding, RelayTriesTouch, Value, false, false≢true, fields_in, is_barred, refl, relay_bearing_of, relay_given, relay_known_in, relay_queues, relay_reception, relay_reception_row, relay_reception_step, relay_seen, relay_transmission, relay_transmission_row, relay_transmission_step, sym, true, value_in, ℕ, ◌≡◌}
use Rattle.teredo_node.specs.declared.fate.Fate.TheVariants as fate

received : (a : RelayStanding) (x : List ℕ) (v : Value) (f : Fate) → (relay_reception_step a x v f).fate ≡ f
received a x v fate.Malformed = refl
received a x v _ = refl

pub fate_of_reception : FateOfRelayReception
unfolding relay_reception
fate_of_reception s a from x = received a x (value_in x) (relay_reception_row (relay_seen s a from x))

queued : (b : Bool) (s : RelaySettings) (p : Ip6) → (relay_queues b s p).fate ≡ fate.Queued
queued true s p = refl
queued false s p = refl

given_out : (s : RelaySettings) (a : RelayStanding) (x : List ℕ) (p : Ip6) (f : Fate) → (relay_transmission_step s a x p f).fate ≡ f
given_out s a x p fate.Queued = queued (is_barred a.moment (relay_known_in a)) s p
given_out s a x p _ = refl

pub fate_of_transmission : FateOfRelayTransmission
unfolding relay_transmission
fate_of_transmission s a x = given_out s a x (fields_in x).dst (relay_transmission_row (relay_given s a x))

touching : (f : Fate) (e : Entry) → (relay_bearing_of f e).tries ≡ true → (relay_bearing_of f e).touches ≡ true
touching fate.Sent e h = refl
touching fate.SentCone e h = refl
touching fate.Queued e h = refl
touching fate.Bubbles e h = refl
touching fate.FromClientBubble e h = refl
touching fate.FromClient e h = refl
touching fate.Unserved e h = refl
touching _ e h = h

pub tries_touch : RelayTriesTouch
tries_touch e h = touching e.step.fate e h

-- a fate that tries or queues
abbrev pub is_attempt : Fate → Bool
is_attempt fate.Queued = true
is_attempt fate.Bubbles = true
is_attempt _ = false

-- any other neither tries nor queues
pub no_attempt : (f : Fate) (e : Entry) → is_attempt f ≡ false → ((relay_bearing_of f e).tries ≡ false) × ((relay_bearing_of f e).queues ≡ None)
no_attempt fate.Queued e h = absurd (false≢true (sym h))
no_attempt fate.Bubbles e h = absurd (false≢true (sym h))
no_attempt _ e h = (refl, refl)
