-- What is done with a packet of the IPv6 side, for each journal.
use Rattle.relay_core.proofs.Words.{Bool, Entry, Fate, Fields, Ip6, IsQuiet, List, None, Option, Peer, Relay, RelayDoes, RelayDropsPacket, RelayEnters, RelaySettings, RelayStanding, RelayStandsFor, Some, Step, Table, TriesUnless, Updates, WantsMemory, [], ap, arith, bears_nothing, calls_of_an_entry, destination_in, embedded, false, false≢true, fate_of_transmission, fields_in, from_six, given_to_relay, has_cone, if◌then◌else◌, is_big, is_packet, is_some, just, known_to, length, ltb-false, packet_given, packet_there, peer_at, peer_in, queued_at, refl, relay_given, relay_given_of, relay_mentions, relay_queues, relay_settings_of, relay_six, relay_standing_in, relay_standing_of, relay_transmission, relay_transmission_row, relay_transmission_step, send, sending, subst, sym, to_list, to_wait, touch_goes_on, touched_at, tried_at, true, trusted_at, unspecified, unwrap_or, wordless_entry, ℕ, ◌+◌, ◌∙◌, ◌∷◌, ◌≡◌, ◌≤◌}
use Rattle.teredo_node.specs.declared.fate.Fate.TheVariants as fate
use Rattle.relay_core.proofs.Entered.{RelayOnlyPeers, bears_enters, none_enters, none_stands}
use Rattle.relay_core.proofs.Read.{read_same, standing_is}

-- a packet that was read
pub record IsFields (x : List ℕ) (p : Fields) : Type 0 where
  pub packet : is_packet x ≡ true
  pub fields : fields_in x ≡ p

-- and a moment at which the relay may be called
pub record IsRelayAsked (r : Relay) (n : ℕ) (x : List ℕ) (p : Fields) : Type 0 where
  pub clock : r.peers.moment ≤ n
  pub read : IsFields x p

destination_there : (x : List ℕ) (p : Fields) → IsFields x p → destination_in x ≡ Some p.dst
unfolding destination_in
destination_there x p is = λ i. if is.packet i then Some (is.fields i).dst else None

standing_there : (r : Relay) (j : List Entry) (n : ℕ) (x : List ℕ) (p : Fields) → RelayStandsFor r j → IsRelayAsked r n x p
    → relay_standing_of j n (destination_in x) ≡ relay_standing_in r n p.dst
standing_there r j n x p h is = ap (relay_standing_of j n) (destination_there x p is.read) ∙ sym (standing_is r j n p.dst h is.clock)

transmission_by : (s : RelaySettings) (a : RelayStanding) (x : List ℕ) (p : Fields) → IsFields x p → relay_transmission s a x ≡ relay_transmission_step s a x p.dst (relay_transmission_row (relay_given_of s a true p))
unfolding relay_transmission relay_given
transmission_by s a x p is = λ i. relay_transmission_step s a x (is.fields i).dst (relay_transmission_row (relay_given_of s a (is.packet i) (is.fields i)))

-- what the table gives, as the relay reads itself
transmission_there : (r : Relay) (j : List Entry) (n : ℕ) (x : List ℕ) (p : Fields) → RelayStandsFor r j → IsRelayAsked r n x p
    → relay_transmission (relay_settings_of r) (relay_standing_of j n (destination_in x)) x ≡ relay_transmission_step (relay_settings_of r) (relay_standing_in r n p.dst) x p.dst (relay_transmission_row (given_to_relay r n p))
transmission_there r j n x p h is =
    ap (λ (a : RelayStanding). relay_transmission (relay_settings_of r) a x) (standing_there r j n x p h is) ∙ transmission_by (relay_settings_of r) (relay_standing_in r n p.dst) x p is.read

-- the line of a fate is found for it
pub record IsRelayLine (r : Relay) (n : ℕ) (x : List ℕ) (p : Fields) (f : Fate) : Type 0 where
  pub is : IsRelayAsked r n x p
  pub row : f ≡ relay_transmission_row (given_to_relay r n p)

-- and did this with it
pub record RelayTransmits (old : Relay) (n : ℕ) (x : List ℕ) (p : Fields) (step : Step) (new : Relay) : Type 0 where
  pub outcome : Fate
  pub line : IsRelayLine old n x p outcome
  pub did : step ≡ relay_transmission_step (relay_settings_of old) (relay_standing_in old n p.dst) x p.dst outcome
  pub entered : RelayEnters old (wordless_entry n (from_six x) (Some x) (Some p.dst) step) new

pub transmitted : (old new : Relay) (n : ℕ) (x : List ℕ) (p : Fields) (step : Step) → RelayTransmits old n x p step new
    → RelayDoes old n (from_six x) step new
unfolding relay_six
transmitted old new n x p step t =
    let is = t.line.is in
    let whole : (j : List Entry) → RelayStandsFor old j → step ≡ relay_transmission (relay_settings_of old) (relay_standing_of j n (destination_in x)) x =
    (λ j h. t.did ∙ ap (λ (g : Fate). relay_transmission_step (relay_settings_of old) (relay_standing_in old n p.dst) x p.dst g) t.line.row ∙ sym (transmission_there old j n x p h is)) in
    record {
      did = whole;
      stands = λ j h. subst (λ (e : Entry). RelayStandsFor new (e ∷ j))
          (λ i. wordless_entry n (from_six x) (sym (packet_there x is.read.packet) i) (sym (destination_there x p is.read) i) (whole j h i)) (t.entered.stands j h);
      settings = t.entered.settings;
      clock = t.entered.clock;
    }

-- THE LINES

pub drops_packet : (r : Relay) (n : ℕ) (x : List ℕ) (p : Fields) (f : Fate) → IsRelayLine r n x p f → RelayDropsPacket f
    → RelayDoes r n (from_six x) (just f) r
drops_packet r n x p f line d =
    let e : Entry = wordless_entry n (from_six x) (Some x) (Some p.dst) (just f) in
    transmitted r r n x p (just f) (record {
      outcome = f;
      line = line;
      did = sym (d.step (relay_settings_of r) (relay_standing_in r n p.dst) x p.dst);
      entered = none_enters r e (bears_nothing (d.nothing e)) line.is.clock;
    })

pub sent : (old new : Relay) (n : ℕ) (x : List ℕ) (p : Fields) → IsRelayLine old n x p fate.Sent
    → RelayOnlyPeers old n p.dst (touched_at n (known_to old.peers n p.dst)) new
    → RelayDoes old n (from_six x) (sending fate.Sent (send (embedded p.dst) x ∷ [])) new
sent old new n x p line o =
    let step = sending fate.Sent (send (embedded p.dst) x ∷ []) in
    let known = known_to old.peers n p.dst in
    let touch = (calls_of_an_entry n known (Some p.dst)).touch in
    transmitted old new n x p step (record {
      outcome = fate.Sent;
      line = line;
      did = refl;
      entered = bears_enters old new (wordless_entry n (from_six x) (Some x) (Some p.dst) step) p.dst (touched_at n known) o (λ j h. record {
        peer = refl;
        concerns = refl;
        clock = o.clock;
        peers = subst (λ (k : Peer). Updates old.peers new.peers n p.dst k) (sym touch) o.peers;
        quiet = λ cone before. subst (λ (k : Peer). IsQuiet k) (sym touch) (record { tries = before.tries; waiting = before.waiting });
      });
    })

-- an address with the cone bit that was listed and trusted where it says
pub record AdmitsCone (old : Relay) (n : ℕ) (who : Ip6) (new : Relay) : Type 0 where
  pub clock : old.peers.moment ≤ n
  pub cone : has_cone who ≡ true
  pub mid : Table
  pub listed : Updates old.peers mid n who (touched_at n (known_to old.peers n who))
  pub trusted : Updates mid new.peers n who (trusted_at n (embedded who) (known_to mid n who))
  pub settings : relay_settings_of new ≡ relay_settings_of old

pub sent_cone : (old new : Relay) (n : ℕ) (who : Ip6) (x : List ℕ) → AdmitsCone old n who new
    → RelayEnters old (wordless_entry n (from_six x) (Some x) (Some who) (sending fate.SentCone (send (embedded who) x ∷ []))) new
sent_cone old new n who x a =
    let known = known_to old.peers n who in
    let u : Updates old.peers new.peers n who (trusted_at n (embedded who) known) = (touch_goes_on old.peers a.mid n who (touched_at n known) refl a.listed).next new.peers (trusted_at n (embedded who)) a.trusted in
    bears_enters old new (wordless_entry n (from_six x) (Some x) (Some who) (sending fate.SentCone (send (embedded who) x ∷ []))) who (trusted_at n (embedded who) known)
    (record { clock = a.clock; peers = u; settings = a.settings }) (λ j h. record {
      peer = refl;
      concerns = refl;
      clock = a.clock;
      peers = subst (λ (k : Peer). Updates old.peers new.peers n who k) (sym ((calls_of_an_entry n known (Some who)).trust (embedded who) (h.quiet n who a.clock a.cone).tries)) u;
      quiet = λ it before. subst (λ (k : Peer). IsQuiet k) (sym ((calls_of_an_entry n known (Some who)).trust (embedded who) before.tries)) (record { tries = refl; waiting = before.waiting });
    })

-- the table after a packet that waits, and a try unless the peer is barred
pub record RelayWaits (old : Relay) (n : ℕ) (who : Ip6) (x : List ℕ) (barred : Bool) (new : Relay) : Type 0 where
  pub clock : old.peers.moment ≤ n
  pub plain : has_cone who ≡ false
  pub mid : Table
  pub waits : Updates old.peers mid n who (queued_at n x (known_to old.peers n who))
  pub tries : TriesUnless barred mid n who None new.peers
  pub settings : relay_settings_of new ≡ relay_settings_of old

pub queued : (old new : Relay) (n : ℕ) (who : Ip6) (x : List ℕ) (barred : Bool) → RelayWaits old n who x barred new
    → RelayEnters old (wordless_entry n (from_six x) (Some x) (Some who) (relay_queues barred (relay_settings_of old) who)) new
queued old new n who x true k =
    let known = known_to old.peers n who in
    let u : Updates old.peers new.peers n who (queued_at n x known) = subst (λ (t : Table). Updates old.peers t n who (queued_at n x known)) (sym k.tries) k.waits in
    bears_enters old new (wordless_entry n (from_six x) (Some x) (Some who) (relay_queues true (relay_settings_of old) who)) who (queued_at n x known)
    (record { clock = k.clock; peers = u; settings = k.settings }) (λ j h. record {
      peer = refl;
      concerns = refl;
      clock = k.clock;
      peers = subst (λ (p : Peer). Updates old.peers new.peers n who p) (sym ((calls_of_an_entry n known (Some who)).wait x)) u;
      quiet = λ cone before. absurd (false≢true (sym k.plain ∙ cone));
    })
queued old new n who x false k =
    let known = known_to old.peers n who in
    let u : Updates old.peers new.peers n who (tried_at n None (queued_at n x known)) = (touch_goes_on old.peers k.mid n who (queued_at n x known) refl k.waits).next new.peers (tried_at n None) k.tries in
    bears_enters old new (wordless_entry n (from_six x) (Some x) (Some who) (relay_queues false (relay_settings_of old) who)) who (tried_at n None (queued_at n x known))
    (record { clock = k.clock; peers = u; settings = k.settings }) (λ j h. record {
      peer = refl;
      concerns = refl;
      clock = k.clock;
      peers = subst (λ (p : Peer). Updates old.peers new.peers n who p) (sym ((calls_of_an_entry n known (Some who)).wait_tried x None)) u;
      quiet = λ cone before. absurd (false≢true (sym k.plain ∙ cone));
    })

-- WHERE NO LINE ASKS FOR THE PACKET

malformed_by : (s : RelaySettings) (a : RelayStanding) (x : List ℕ) → is_packet x ≡ false → relay_transmission s a x ≡ just fate.Malformed
unfolding relay_transmission relay_given
malformed_by s a x isnt = λ i. relay_transmission_step s a x (fields_in x).dst (relay_transmission_row (relay_given_of s a (isnt i) (fields_in x)))

-- whatever it is about, nothing is done
pub malformed : (r : Relay) (n : ℕ) (x : List ℕ) → r.peers.moment ≤ n → is_packet x ≡ false → RelayDoes r n (from_six x) (just fate.Malformed) r
unfolding relay_six
malformed r n x l isnt =
    let whole : (j : List Entry) → just fate.Malformed ≡ relay_transmission (relay_settings_of r) (relay_standing_of j n (destination_in x)) x =
    (λ j. sym (malformed_by (relay_settings_of r) (relay_standing_of j n (destination_in x)) x isnt)) in
    let e : Entry = wordless_entry n (from_six x) (packet_given x) (destination_in x) (just fate.Malformed) in
    record {
      did = λ j h. whole j;
      stands = λ j h. subst (λ (k : Entry). RelayStandsFor r (k ∷ j)) (λ i. wordless_entry n (from_six x) (packet_given x) (destination_in x) (whole j i)) (none_stands r e (bears_nothing refl) j h);
      settings = refl;
      clock = l;
    }

-- SIZES

-- a packet that isn't big
pub short : (x : List ℕ) (p : Fields) → is_big p ≡ false → 40 + length p.body ≡ length x → length x ≤ 1280
unfolding is_big
short x p small inside = let most = ltb-false _ _ small in omega (arith, inside, most)

-- WHERE MEMORY WAS WANTING

fate_there : (r : Relay) (j : List Entry) (n : ℕ) (x : List ℕ) (p : Fields) → RelayStandsFor r j → IsRelayAsked r n x p
    → (relay_six (relay_settings_of r) j n x).step.fate ≡ relay_transmission_row (given_to_relay r n p)
unfolding relay_six relay_given
fate_there r j n x p h is =
    let a = standing_there r j n x p h is in
    fate_of_transmission (relay_settings_of r) (relay_standing_of j n (destination_in x)) x ∙ (λ i. relay_transmission_row (relay_given_of (relay_settings_of r) (a i) (is.read.packet i) (is.read.fields i)))

pub wants_queue : (r : Relay) (n : ℕ) (x : List ℕ) (p : Fields) → IsRelayLine r n x p fate.Queued → WantsMemory r n x
wants_queue r n x p line j h = to_wait (fate_there r j n x p h line.is ∙ sym line.row)

pub wants_place : (r : Relay) (n : ℕ) (x : List ℕ) (p : Fields) → IsRelayLine r n x p fate.SentCone
    → is_some (peer_in r.peers n p.dst) ≡ false → WantsMemory r n x
wants_place r n x p line unlisted j h =
    to_list (fate_there r j n x p h line.is ∙ sym line.row)
    (ap (λ (q : Option Ip6). is_some (peer_at (relay_mentions j) n (unwrap_or q unspecified))) (destination_there x p line.is.read)
    ∙ ap (λ (q : Option Peer). is_some q) (sym ((read_same r j n h line.is.clock).peer p.dst))
    ∙ unlisted)
