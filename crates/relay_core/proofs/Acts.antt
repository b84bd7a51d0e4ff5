-- What is done with a payload by one line.
use Rattle.relay_core.proofs.Words.{Ep, Fate, IsPayloadOf, IsQuiet, List, Peer, Relay, RelayDropsDatagram, RelayTakesPayload, Some, Span, Step, Updates, Value, after, ap, arith, bears_nothing, calls_of_an_entry, concerns_peer, embedded, heard_at, just, known_to, le_refl, length, refl, relay_entry_about, relay_mention, relay_reception_step, relay_standing_in, releases, rest_of, sending, subst, sym, true, trusted_at, ℕ, ◌+◌, ◌-◌, ◌≡◌, ◌≤◌}
use Rattle.teredo_node.specs.declared.fate.Fate.TheVariants as fate
use Rattle.relay_core.proofs.Entered.{RelayOnlyPeers, bears_stands, none_stands}

-- nothing is done
pub drops : (r : Relay) (n : ℕ) (from : Ep) (v : Value) (f : Fate) → r.peers.moment ≤ n → RelayDropsDatagram f → RelayTakesPayload r n from v f (just f) r
drops r n from v f l d = record {
  did = λ x is. sym (d.step (relay_standing_in r n v.packet.src) x v);
  stands = λ j x h. none_stands r (relay_entry_about n from x v.packet.src (just f)) (bears_nothing (d.nothing (relay_entry_about n from x v.packet.src (just f)))) j h;
  settings = refl;
  clock = l;
}

-- the source of a payload, trusted where it says and heard
abbrev pub heard : Relay → ℕ → Value → Peer
heard r n v = heard_at n (trusted_at n (embedded v.packet.src) (known_to r.peers n v.packet.src))

-- that is known of the source from then on, and all else is as it was
abbrev pub Hears : Relay → ℕ → Value → Relay → Type 0
Hears old n v new = RelayOnlyPeers old n v.packet.src (heard old n v) new

-- and the line of a fate did this
record HearsBy (old : Relay) (n : ℕ) (from : Ep) (v : Value) (f : Fate) (new : Relay) : Type 0 where
  pub step : Step
  pub hears : Hears old n v new
  pub means : (x : List ℕ) → after (relay_mention (relay_entry_about n from x v.packet.src step)) (known_to old.peers n v.packet.src) ≡ heard old n v
  pub concerns : (x : List ℕ) → concerns_peer (relay_mention (relay_entry_about n from x v.packet.src step)).bearing ≡ true
  pub did : (x : List ℕ) → IsPayloadOf x v → step ≡ relay_reception_step (relay_standing_in old n v.packet.src) x v f

heard_by : (old new : Relay) (n : ℕ) (from : Ep) (v : Value) (f : Fate) (a : HearsBy old n from v f new)
    → RelayTakesPayload old n from v f a.step new
heard_by old new n from v f a = record {
  did = a.did;
  stands = λ j x h. bears_stands old new (relay_entry_about n from x v.packet.src a.step) v.packet.src (record {
    peer = refl;
    concerns = a.concerns x;
    clock = a.hears.clock;
    peers = subst (λ (p : Peer). Updates old.peers new.peers n v.packet.src p) (sym (a.means x)) a.hears.peers;
    quiet = λ cone before. subst (λ (p : Peer). IsQuiet p) (sym (a.means x)) (record { tries = refl; waiting = refl });
  }) j h;
  settings = a.hears.settings;
  clock = subst (λ (m : ℕ). m ≤ n) (sym a.hears.peers.moment) (le_refl n);
}

-- what waits is sent
abbrev pub released : Relay → ℕ → Value → Fate → Step
released r n v f = sending f (releases (embedded v.packet.src) (known_to r.peers n v.packet.src).waiting)

pub from_client_bubble : (old new : Relay) (n : ℕ) (from : Ep) (v : Value) → Hears old n v new → RelayTakesPayload old n from v fate.FromClientBubble (released old n v fate.FromClientBubble) new
from_client_bubble old new n from v o =
    heard_by old new n from v fate.FromClientBubble (record {
      step = released old n v fate.FromClientBubble;
      hears = o;
      means = λ x. (calls_of_an_entry n (known_to old.peers n v.packet.src) (Some v.packet.src)).trust_and_hear (embedded v.packet.src);
      concerns = λ x. refl;
      did = λ x is. refl;
    })

pub unserved : (old new : Relay) (n : ℕ) (from : Ep) (v : Value) → Hears old n v new → RelayTakesPayload old n from v fate.Unserved (released old n v fate.Unserved) new
unserved old new n from v o =
    heard_by old new n from v fate.Unserved (record {
      step = released old n v fate.Unserved;
      hears = o;
      means = λ x. (calls_of_an_entry n (known_to old.peers n v.packet.src) (Some v.packet.src)).trust_and_hear (embedded v.packet.src);
      concerns = λ x. refl;
      did = λ x is. refl;
    })

-- and the packet is passed on
abbrev pub passed_on : Relay → ℕ → Value → Step
passed_on r n v = record (released r n v fate.FromClient) { six = Some (record { at = v.lead.at; len = 40 + length v.packet.body }) }

-- the rest of a datagram is its packet
rest_is : (x : List ℕ) (v : Value) → IsPayloadOf x v → rest_of v.lead.at x ≡ record { at = v.lead.at; len = 40 + length v.packet.body }
rest_is x v is =
    let len : length x - v.lead.at ≡ 40 + length v.packet.body = omega (arith, is.inside) in
    ap (λ (n : ℕ). record { at = v.lead.at; len = n }) len

pub from_client : (old new : Relay) (n : ℕ) (from : Ep) (v : Value) → Hears old n v new → RelayTakesPayload old n from v fate.FromClient (passed_on old n v) new
from_client old new n from v o =
    heard_by old new n from v fate.FromClient (record {
      step = passed_on old n v;
      hears = o;
      means = λ x. (calls_of_an_entry n (known_to old.peers n v.packet.src) (Some v.packet.src)).trust_and_hear (embedded v.packet.src);
      concerns = λ x. refl;
      did = λ x is. ap (λ (s : Span). record (released old n v fate.FromClient) { six = Some s }) (sym (rest_is x v is));
    })
