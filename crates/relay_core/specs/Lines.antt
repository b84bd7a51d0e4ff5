-- The lines of a relay's tables as they are found, and what holds where one is.
use Rattle.std.specs.Prelude.{◌≡◌, true, false, ℕ, List, [], ◌∷◌, is_some}
use Rattle.td_base.specs.declared.ipv6.Ip6.{Ip6}
use Rattle.td_base.specs.declared.endpoint.Ep.{Ep}
use Rattle.teredo_addr.specs.Teredo.{has_cone}
use Rattle.ipv6_packet.specs.Packets.{Fields}
use Rattle.ipv6_packet.specs.Reads.{is_big}
use Rattle.bubble.specs.Payloads.{Value}
use Rattle.teredo_node.specs.declared.fate.Fate.{Fate}
use Rattle.teredo_node.specs.declared.fate.Fate.TheVariants as fate
use Rattle.teredo_node.specs.Step.{just}
use Rattle.teredo_node.specs.Rows.{first_line}
use Rattle.teredo_node.specs.Journal.{Entry}
use Rattle.peer_list.specs.Mentions.{no_bearing}
use Rattle.peer_list.specs.Judged.{is_full}
use Rattle.relay_core.specs.declared.relay.Relay.{Relay}
use Rattle.relay_core.specs.declared.reception_line.ReceptionLine.{ReceptionLine}
use Rattle.relay_core.specs.declared.reception_line.ReceptionLine.TheVariants as line
use Rattle.relay_core.specs.declared.transmission_line.TransmissionLine.{TransmissionLine}
use Rattle.relay_core.specs.declared.transmission_line.TransmissionLine.TheVariants as six
use Rattle.relay_rules.specs.Bearings.{relay_bearing_of}
use Rattle.relay_rules.specs.Standing.{RelaySettings, RelayStanding, relay_known_in}
use Rattle.relay_rules.specs.Reception.{RelaySeen, relay_seen_of, relay_reception_step}
use Rattle.relay_rules.specs.Transmission.{RelayGiven, relay_given_of, relay_transmission_step}
use Rattle.relay_core.specs.Relay.{relay_settings_of, relay_standing_in}

-- a fate that means nothing for any peer
abbrev pub SaysNothingOfPeers : Fate → Type 0
SaysNothingOfPeers f = (e : Entry) → relay_bearing_of f e ≡ no_bearing

-- DATAGRAMS

-- the fate of a line of the table of datagrams
abbrev pub relay_fate_of : ReceptionLine → Fate
relay_fate_of (line.Drop f) = f
relay_fate_of line.FromClientBubble = fate.FromClientBubble
relay_fate_of line.FromClient = fate.FromClient
relay_fate_of line.Unserved = fate.Unserved

-- the fate of a packet of a listed client
abbrev pub client_row : RelaySeen → Fate
client_row a = first_line ((a.bubble, fate.FromClientBubble) ∷ (a.served, fate.FromClient) ∷ []) fate.Unserved

-- what a relay sees of a payload from `from` at n
abbrev pub seen_by_relay : Relay → ℕ → Ep → Value → RelaySeen
seen_by_relay r n from v = relay_seen_of (relay_settings_of r) (relay_standing_in r n v.packet.src) from true v

-- it does nothing with a datagram
pub record RelayDropsDatagram (f : Fate) : Type 0 where
  pub nothing : SaysNothingOfPeers f
  pub step : (a : RelayStanding) (x : List ℕ) (v : Value) → relay_reception_step a x v f ≡ just f

-- what holds where a line is found, at this standing to the payload's source
abbrev pub RelayWarrantsDatagram : RelayStanding → ReceptionLine → Type 0
RelayWarrantsDatagram a (line.Drop f) = RelayDropsDatagram f
RelayWarrantsDatagram a line.FromClientBubble = is_some a.peer ≡ true
RelayWarrantsDatagram a line.FromClient = is_some a.peer ≡ true
RelayWarrantsDatagram a line.Unserved = is_some a.peer ≡ true

-- PACKETS OF THE IPV6 SIDE

-- the fate of a line of the table of the IPv6 side's packets
abbrev pub relay_fate_for : TransmissionLine → Fate
relay_fate_for (six.Drop f) = f
relay_fate_for six.Sent = fate.Sent
relay_fate_for six.SentCone = fate.SentCone
relay_fate_for six.Queued = fate.Queued

-- what a relay sees of a packet at n
abbrev pub given_to_relay : Relay → ℕ → Fields → RelayGiven
given_to_relay r n p = relay_given_of (relay_settings_of r) (relay_standing_in r n p.dst) true p

-- it does nothing with a packet
pub record RelayDropsPacket (f : Fate) : Type 0 where
  pub nothing : SaysNothingOfPeers f
  pub step : (s : RelaySettings) (a : RelayStanding) (x : List ℕ) (p : Ip6) → relay_transmission_step s a x p f ≡ just f

-- that a packet may go to an address at once: there is room for it, and it has the cone bit
pub record MayPass (a : RelayStanding) (p : Ip6) : Type 0 where
  pub room : a.room ≡ true
  pub cone : has_cone p ≡ true

-- that a packet may wait for an address, which has no cone bit
pub record MayWaitAtRelay (a : RelayStanding) (p : Ip6) : Type 0 where
  pub room : a.room ≡ true
  pub plain : has_cone p ≡ false
  pub free : is_full (relay_known_in a) ≡ false

-- what holds where a line is found, at this standing to the packet's destination
abbrev pub RelayWarrantsPacket : RelayStanding → Ip6 → TransmissionLine → Type 0
RelayWarrantsPacket a p (six.Drop f) = RelayDropsPacket f
RelayWarrantsPacket a p six.Sent = is_some a.peer ≡ true
RelayWarrantsPacket a p six.SentCone = MayPass a p
RelayWarrantsPacket a p six.Queued = MayWaitAtRelay a p

-- a packet that is sent or waits isn't big
abbrev pub IsCarriedByRelay : Fields → TransmissionLine → Type 0
IsCarriedByRelay p (six.Drop f) = Unit {0}
IsCarriedByRelay p six.Sent = is_big p ≡ false
IsCarriedByRelay p six.SentCone = is_big p ≡ false
IsCarriedByRelay p six.Queued = is_big p ≡ false
