-- What a relay reads of itself is what each journal says that it stands for.
use Rattle.relay_core.proofs.Words.{Entry, Ep, Ip6, IsPayloadOf, List, Relay, RelayDoes, RelaySettings, RelayStanding, RelayStandsFor, RelayTakesPayload, SaysTheSame, Step, Value, ap, arrived, bears_nothing, false, is_payload, just, packet_in, refl, relay_fate_in, relay_in, relay_mentions, relay_reception, relay_reception_row, relay_reception_step, relay_seen, relay_seen_of, relay_settings_of, relay_standing_at, relay_standing_in, relay_standing_of, source_in, source_there, subst, sym, table_is_read, true, value_in, wordless_entry, ℕ, ◌∙◌, ◌∷◌, ◌≡◌, ◌≤◌}
use Rattle.teredo_node.specs.declared.fate.Fate.TheVariants as fate
use Rattle.relay_core.proofs.Entered.{none_stands}

pub read_same : (r : Relay) (j : List Entry) (n : ℕ) → RelayStandsFor r j → r.peers.moment ≤ n → SaysTheSame r.peers (relay_mentions j) n
read_same r j n h l = table_is_read r.peers (relay_mentions j) n h.peers l

pub standing_is : (r : Relay) (j : List Entry) (n : ℕ) (p : Ip6) → RelayStandsFor r j → r.peers.moment ≤ n → relay_standing_in r n p ≡ relay_standing_at j n p
unfolding relay_standing_at
standing_is r j n p h l = let s = read_same r j n h l in λ i. record { moment = n; peer = s.peer p i; room = s.room p i }

-- DATAGRAMS

reception_by : (s : RelaySettings) (a : RelayStanding) (from : Ep) (x : List ℕ) (v : Value) → is_payload x ≡ true → value_in x ≡ v
    → relay_reception s a from x ≡ relay_reception_step a x v (relay_reception_row (relay_seen_of s a from true v))
unfolding relay_reception relay_seen
reception_by s a from x v payload value = λ i. relay_reception_step a x (value i) (relay_reception_row (relay_seen_of s a from (payload i) (value i)))

-- a payload that was read, and a moment at which the relay may be called
pub record IsRelayRead (r : Relay) (n : ℕ) (x : List ℕ) (v : Value) : Type 0 where
  pub clock : r.peers.moment ≤ n
  pub payload : is_payload x ≡ true
  pub of : IsPayloadOf x v

standing_there : (r : Relay) (j : List Entry) (n : ℕ) (x : List ℕ) (v : Value) → RelayStandsFor r j → IsRelayRead r n x v
    → relay_standing_of j n (source_in x) ≡ relay_standing_in r n v.packet.src
standing_there r j n x v h is = ap (relay_standing_of j n) (source_there x v is.payload is.of.value) ∙ sym (standing_is r j n v.packet.src h is.clock)

step_there : (r : Relay) (n : ℕ) (from : Ep) (x : List ℕ) (v : Value) (a : RelayStanding) → IsRelayRead r n x v → a ≡ relay_standing_in r n v.packet.src
    → relay_reception (relay_settings_of r) a from x ≡ relay_reception_step (relay_standing_in r n v.packet.src) x v (relay_fate_in r n from v)
step_there r n from x v a is same =
    ap (λ (b : RelayStanding). relay_reception (relay_settings_of r) b from x) same
    ∙ reception_by (relay_settings_of r) (relay_standing_in r n v.packet.src) from x v is.payload is.of.value

-- and what its line did with it
pub record RelayReceived (old : Relay) (n : ℕ) (from : Ep) (x : List ℕ) (step : Step) (new : Relay) : Type 0 where
  pub told : Value
  pub read : IsRelayRead old n x told
  pub took : RelayTakesPayload old n from told (relay_fate_in old n from told) step new

pub received : (old new : Relay) (n : ℕ) (from : Ep) (x : List ℕ) (step : Step) → RelayReceived old n from x step new
    → RelayDoes old n (arrived from x) step new
unfolding relay_in
received old new n from x step r =
    let did : (j : List Entry) → RelayStandsFor old j → step ≡ relay_reception (relay_settings_of old) (relay_standing_of j n (source_in x)) from x =
    (λ j h. r.took.did x r.read.of ∙ sym (step_there old n from x r.told (relay_standing_of j n (source_in x)) r.read (standing_there old j n x r.told h r.read))) in
    record {
      did = did;
      stands = λ j h. subst (λ (e : Entry). RelayStandsFor new (e ∷ j))
          (λ i. wordless_entry n (arrived from x) (packet_in x) (sym (source_there x r.told r.read.payload r.read.of.value) i) (did j h i)) (r.took.stands j x h);
      settings = r.took.settings;
      clock = r.took.clock;
    }

-- what isn't a payload is dropped
malformed_by : (s : RelaySettings) (a : RelayStanding) (from : Ep) (x : List ℕ) → is_payload x ≡ false → relay_reception s a from x ≡ just fate.Malformed
unfolding relay_reception relay_seen
malformed_by s a from x isnt = λ i. relay_reception_step a x (value_in x) (relay_reception_row (relay_seen_of s a from (isnt i) (value_in x)))

pub malformed : (r : Relay) (n : ℕ) (from : Ep) (x : List ℕ) → r.peers.moment ≤ n → is_payload x ≡ false → RelayDoes r n (arrived from x) (just fate.Malformed) r
unfolding relay_in
malformed r n from x l isnt =
    let whole : (j : List Entry) → just fate.Malformed ≡ relay_reception (relay_settings_of r) (relay_standing_of j n (source_in x)) from x =
    (λ j. sym (malformed_by (relay_settings_of r) (relay_standing_of j n (source_in x)) from x isnt)) in
    let e : Entry = wordless_entry n (arrived from x) (packet_in x) (source_in x) (just fate.Malformed) in
    record {
      did = λ j h. whole j;
      stands = λ j h. subst (λ (k : Entry). RelayStandsFor r (k ∷ j)) (λ i. wordless_entry n (arrived from x) (packet_in x) (source_in x) (whole j i)) (none_stands r e (bears_nothing refl) j h);
      settings = refl;
      clock = l;
    }
