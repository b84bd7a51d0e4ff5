-- What a relay keeps, the journals that it stands for, and what a call does for each of them (RFC 4380, section 5.4).
use Rattle.std.specs.Prelude.{◌≡◌, ◌≤◌, ◌<◌, ℕ, true, false, List, ◌∷◌, map, Some, is_some, unwrap_or}
use Rattle.td_base.specs.declared.ipv6.Ip6.{Ip6}
use Rattle.td_base.specs.declared.endpoint.Ep.{Ep}
use Rattle.td_base.specs.declared.millis.TheConstants.{CLOCK_END_MS}
use Rattle.teredo_addr.specs.Teredo.{unspecified, has_cone}
use Rattle.bubble.specs.Payloads.{Value}
use Rattle.bubble.specs.PayloadOf.{IsPayloadOf}
use Rattle.bubble.specs.PacketsIn.{packet_in, destination_in}
use Rattle.teredo_node.specs.declared.fate.Fate.{Fate}
use Rattle.teredo_node.specs.declared.fate.Fate.TheVariants as fate
use Rattle.teredo_node.specs.Step.{Step}
use Rattle.teredo_node.specs.Journal.{Input, arrived, from_six, Entry}
use Rattle.peer_list.specs.Peers.{Peer, peer_at}
use Rattle.peer_list.specs.Table.{peer_in, known_to, listed_in, has_room_in}
use Rattle.peer_list.specs.Calls.{Keeps}
use Rattle.peer_list.specs.Stands.{StandsForMentions}
use Rattle.relay_core.specs.declared.relay.Relay.{Relay}
use Rattle.relay_rules.specs.Bearings.{relay_mentions}
use Rattle.relay_rules.specs.Standing.{RelaySettings, RelayStanding}
use Rattle.relay_rules.specs.Reception.{relay_seen_of, relay_reception_row, relay_reception_step}
use Rattle.relay_rules.specs.Journals.{wordless_entry, relay_entry}
use Rattle.relay_rules.specs.Laws.{IsQuiet}

-- how it is set up
abbrev pub relay_settings_of : Relay → RelaySettings
relay_settings_of r = record { at = r.at; six = r.six; policy = r.policy; served = r.served.items }

-- it may be called from this moment on: the one of its latest call since it started
abbrev pub relay_callable_from : Relay → ℕ
relay_callable_from r = r.peers.moment

-- what it knows of each peer that is listed at a moment
abbrev pub relay_listed_peers : Relay → ℕ → List Peer
relay_listed_peers r n = map (known_to r.peers n) (listed_in r.peers n)

-- *stands for*, of a relay: what its peers' table knows of each address is what the journal says; one with the cone bit
-- has no tries, and nothing waits for it.
-- what is known of each address is what the journal says, and one with the cone bit has no tries and nothing waiting
pub record RelayStandsFor (r : Relay) (j : List Entry) : Type 0 where
  pub peers : StandsForMentions r.peers (relay_mentions j)
  -- | See `Relay::restart`: `stands`.
  pub quiet : (n : ℕ) (p : Ip6) → r.peers.moment ≤ n → has_cone p ≡ true → IsQuiet (known_to r.peers n p)

-- it may be called at n: at no moment before that of an earlier call, and while a clock runs
pub record IsCallableRelay (r : Relay) (n : ℕ) : Type 0 where
  pub clock : relay_callable_from r ≤ n
  pub early : n < CLOCK_END_MS

-- how it stands to an address at n: what the tables read
abbrev pub relay_standing_in : Relay → ℕ → Ip6 → RelayStanding
relay_standing_in r n p = record {
  moment = n;
  peer = peer_in r.peers n p;
  room = has_room_in r.peers n p;
}

-- WHAT A CALL DOES

-- the entry of an input at n, after a journal
abbrev pub next_relay_entry : Relay → List Entry → ℕ → Input → Entry
next_relay_entry r j n input = relay_entry (relay_settings_of r) j n input

-- *does*, of a relay: for each journal that it stood for the step is that of the next entry, and it stands for the
-- journal with it.
-- for each journal that it stood for it did what the next entry says, and stands for the journal with that entry
pub record RelayDoes (old : Relay) (n : ℕ) (input : Input) (step : Step) (new : Relay) : Type 0 where
  pub did : (j : List Entry) → RelayStandsFor old j → step ≡ (next_relay_entry old j n input).step
  pub stands : (j : List Entry) → RelayStandsFor old j → RelayStandsFor new (next_relay_entry old j n input ∷ j)
  pub settings : relay_settings_of new ≡ relay_settings_of old
  pub clock : relay_callable_from new ≤ n

-- *as before*, of a relay: it stands for each journal that it stood for.
-- it is as before: it stands for what it stood for
pub record RelayAsBefore (old new : Relay) : Type 0 where
  pub stands : (j : List Entry) → RelayStandsFor old j → RelayStandsFor new j
  pub settings : relay_settings_of new ≡ relay_settings_of old

-- WHERE MEMORY MAY BE WANTING

-- the line of a packet lets it wait, or sends it to an address with the cone bit that isn't listed yet
pub data TakesRoom (r : Relay) (n : ℕ) (x : List ℕ) (j : List Entry) : Type 0 where
  to_wait : (next_relay_entry r j n (from_six x)).step.fate ≡ fate.Queued → TakesRoom r n x j
  to_list : (next_relay_entry r j n (from_six x)).step.fate ≡ fate.SentCone
      → is_some (peer_at (relay_mentions j) n (unwrap_or (destination_in x) unspecified)) ≡ false → TakesRoom r n x j

-- memory may be needed for this packet, by each journal that the relay stands for
abbrev pub WantsMemory : Relay → ℕ → List ℕ → Type 0
WantsMemory r n x = (j : List Entry) → RelayStandsFor r j → TakesRoom r n x j

-- THE LAST ENTRY OF ITS JOURNALS

-- for each journal that it stood for it stands for that journal with this entry
pub record RelayEnters (old : Relay) (e : Entry) (new : Relay) : Type 0 where
  pub stands : (j : List Entry) → RelayStandsFor old j → RelayStandsFor new (e ∷ j)
  pub settings : relay_settings_of new ≡ relay_settings_of old
  pub clock : relay_callable_from new ≤ e.moment

-- memory was wanting, and nothing changed but that others may have been taken out
pub record RelayKeepsAll (old : Relay) (n : ℕ) (new : Relay) : Type 0 where
  pub peers : Keeps old.peers new.peers n
  pub settings : relay_settings_of new ≡ relay_settings_of old

-- DATAGRAMS

-- a datagram of this payload from `from` has this fate, by what a relay sees
abbrev pub relay_fate_in : Relay → ℕ → Ep → Value → Fate
relay_fate_in r n from v = relay_reception_row (relay_seen_of (relay_settings_of r) (relay_standing_in r n v.packet.src) from true v)

-- the entry of a datagram x about `who`, where this was done
abbrev pub relay_entry_about : ℕ → Ep → List ℕ → Ip6 → Step → Entry
relay_entry_about n from x who step = wordless_entry n (arrived from x) (packet_in x) (Some who) step

-- what was done with a payload by the line of a fate
pub record RelayTakesPayload (old : Relay) (n : ℕ) (from : Ep) (v : Value) (f : Fate) (step : Step) (new : Relay) : Type 0 where
  pub did : (x : List ℕ) → IsPayloadOf x v → step ≡ relay_reception_step (relay_standing_in old n v.packet.src) x v f
  pub stands : (j : List Entry) (x : List ℕ) → RelayStandsFor old j → RelayStandsFor new (relay_entry_about n from x v.packet.src step ∷ j)
  pub settings : relay_settings_of new ≡ relay_settings_of old
  pub clock : relay_callable_from new ≤ n
