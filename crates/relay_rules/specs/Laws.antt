-- What holds of every relay's tables and journals.
use Rattle.std.specs.Prelude.{◌≡◌, ◌≤◌, ℕ, true, false, List, [], length, Option, Some}
use Rattle.std.specs.List.{AllByRecursion}
use Rattle.td_base.specs.Reach.{is_global6}
use Rattle.td_base.specs.declared.ipv6.Ip6.{Ip6}
use Rattle.td_base.specs.declared.endpoint.Ep.{Ep}
use Rattle.teredo_addr.specs.Teredo.{is_teredo, embedded, has_cone}
use Rattle.ipv6_packet.specs.Reads.{is_packet, is_big, fields_in}
use Rattle.teredo_node.specs.Journal.{Entry}
use Rattle.peer_list.specs.declared.limits.TheConstants.{PEERS_MAX}
use Rattle.peer_list.specs.Listed.{listed}
use Rattle.peer_list.specs.Peers.{Peer, known}
use Rattle.peer_list.specs.Laws.{IsTried}
use Rattle.relay_rules.specs.Bearings.{relay_mention, relay_mentions}
use Rattle.relay_rules.specs.Standing.{RelaySettings, RelayStanding}
use Rattle.relay_rules.specs.Reception.{relay_reception_row, relay_seen, relay_reception}
use Rattle.relay_rules.specs.Transmission.{relay_transmission_row, relay_given, relay_transmission}
use Rattle.relay_rules.specs.Warrants.{RelayReceivedOnlyIf, RelaySentOnlyIf}
use Rattle.relay_rules.specs.Journals.{relay_last_moment, IsRelayJournal}

-- THE TABLES

-- what is done has the fate of the line
abbrev pub FateOfRelayReception : Type 0
FateOfRelayReception = (s : RelaySettings) (a : RelayStanding) (from : Ep) (x : List ℕ)
    → (relay_reception s a from x).fate ≡ relay_reception_row (relay_seen s a from x)

-- so has what is done with a packet of the IPv6 side
abbrev pub FateOfRelayTransmission : Type 0
FateOfRelayTransmission = (s : RelaySettings) (a : RelayStanding) (x : List ℕ) → (relay_transmission s a x).fate ≡ relay_transmission_row (relay_given s a x)

-- what was seen of a datagram with a fate, and of a packet of the IPv6 side
abbrev pub RelayReceptionIsWarranted : Type 0
RelayReceptionIsWarranted = (s : RelaySettings) (a : RelayStanding) (from : Ep) (x : List ℕ)
    → RelayReceivedOnlyIf (relay_reception_row (relay_seen s a from x)) (relay_seen s a from x)

-- a packet of the IPv6 side has a fate other than a drop's only by the line of that fate
abbrev pub RelayTransmissionIsWarranted : Type 0
RelayTransmissionIsWarranted = (s : RelaySettings) (a : RelayStanding) (x : List ℕ)
    → RelaySentOnlyIf (relay_transmission_row (relay_given s a x)) (relay_given s a x)

-- JOURNALS

-- each try touches its peer
abbrev pub RelayTriesTouch : Type 0
RelayTriesTouch = (e : Entry) → (relay_mention e).bearing.tries ≡ true → (relay_mention e).bearing.touches ≡ true

-- so in a journal spent and barred are what they are without regard to a stay
abbrev pub RelayJournalIsTried : Type 0
RelayJournalIsTried = (s : RelaySettings) (j : List Entry) (n : ℕ) → IsRelayJournal s j → relay_last_moment j ≤ n → IsTried (relay_mentions j) n

-- nothing was tried and nothing waits
pub record IsQuiet (peer : Peer) : Type 0 where
  pub tries : peer.tries ≡ []
  pub waiting : peer.waiting ≡ []

-- an address with the cone bit has no tries and nothing waiting: packets to it go out at once
abbrev pub ConeIsQuiet : Type 0
ConeIsQuiet = (s : RelaySettings) (j : List Entry) (n : ℕ) (p : Ip6) → IsRelayJournal s j → has_cone p ≡ true → IsQuiet (known (relay_mentions j) n p)

-- no more than 256 peers are ever listed
abbrev pub RelayJournalHasFew : Type 0
RelayJournalHasFew = (s : RelaySettings) (j : List Entry) (n : ℕ) → IsRelayJournal s j → relay_last_moment j ≤ n
    → length (listed (relay_mentions j) n) ≤ PEERS_MAX

-- x is a packet from outside Teredo to that address, and not too long
pub record IsForeignTo (to : Option Ip6) (x : List ℕ) : Type 0 where
  pub well_formed : is_packet x ≡ true
  pub short : is_big (fields_in x) ≡ false
  pub native : is_teredo (fields_in x).src ≡ false
  pub global : is_global6 (fields_in x).src ≡ true
  pub destination : to ≡ Some (fields_in x).dst

-- what waits for p is such a packet to p
abbrev pub WaitingIsForeign : Type 0
WaitingIsForeign = (s : RelaySettings) (j : List Entry) (n : ℕ) (p : Ip6) → IsRelayJournal s j
    → AllByRecursion (IsForeignTo (Some p)) (known (relay_mentions j) n p).waiting

-- a client is trusted where its address says
abbrev pub RelayTrustedIsEmbedded : Type 0
RelayTrustedIsEmbedded = (j : List Entry) (n : ℕ) (p : Ip6) (at : Ep) → (known (relay_mentions j) n p).trusted ≡ Some at → at ≡ embedded p

-- a relay holds no packets
abbrev pub HoldsNothing : Type 0
HoldsNothing = (j : List Entry) (n : ℕ) (p : Ip6) → (known (relay_mentions j) n p).held ≡ []
