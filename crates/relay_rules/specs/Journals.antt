-- A relay's journal: each entry is what its tables give after those before it (RFC 4380, section 5.4).
use Rattle.std.specs.Prelude.{◌≡◌, ◌≤◌, ℕ, List, [], ◌∷◌, Option, None, option_map}
use Rattle.td_base.specs.declared.ipv6.Ip6.{Ip6}
use Rattle.td_base.specs.declared.endpoint.Ep.{Ep}
use Rattle.bubble.specs.PacketsIn.{packet_in, source_in, packet_given, destination_in}
use Rattle.teredo_node.specs.declared.fate.Fate.TheVariants as fate
use Rattle.teredo_node.specs.Step.{Step, just}
use Rattle.teredo_node.specs.Journal.{Input, arrived, given, from_six, ticked, Entry}
use Rattle.peer_list.specs.Judged.{due_of}
use Rattle.peer_list.specs.Waiting.{Listing, first_due}
use Rattle.peer_list.specs.Overdue.{due_by}
use Rattle.relay_rules.specs.Bearings.{relay_mentions}
use Rattle.relay_rules.specs.Standing.{RelaySettings, relay_standing_of}
use Rattle.relay_rules.specs.Reception.{relay_reception}
use Rattle.relay_rules.specs.Transmission.{relay_transmission}
use Rattle.relay_rules.specs.Ticks.{relay_peer_of_due, relay_tick_step}

-- a relay draws no words
abbrev pub wordless_entry : ℕ → Input → Option (List ℕ) → Option Ip6 → Step → Entry
wordless_entry n input packet peer step = record { moment = n; input = input; packet = packet; peer = peer; words = []; step = step }

-- DATAGRAMS

-- the entry of a datagram
unfoldable pub relay_in : RelaySettings → List Entry → ℕ → Ep → List ℕ → Entry
relay_in s j n from x = wordless_entry n (arrived from x) (packet_in x) (source_in x) (relay_reception s (relay_standing_of j n (source_in x)) from x)

-- PACKETS OF THE IPV6 SIDE

-- the entry of a packet of the IPv6 side
unfoldable pub relay_six : RelaySettings → List Entry → ℕ → List ℕ → Entry
relay_six s j n x = wordless_entry n (from_six x) (packet_given x) (destination_in x) (relay_transmission s (relay_standing_of j n (destination_in x)) x)

-- TICKS

-- the listed peer that is due first
abbrev pub relay_first_peer : List Entry → ℕ → Option Listing
relay_first_peer j n = first_due (relay_mentions j) n

-- the entry of a tick that does what is due
abbrev pub relay_ticks : RelaySettings → ℕ → Option Listing → Entry
relay_ticks s n due = wordless_entry n ticked None (relay_peer_of_due due) (relay_tick_step s n due)

-- the entry of a tick
unfoldable pub relay_tick : RelaySettings → List Entry → ℕ → Entry
relay_tick s j n = relay_ticks s n (due_by n (relay_first_peer j n))

-- *due*, of a relay: the moment of the peer that is due first, among those for which packets wait.
-- when a tick is due
unfoldable pub relay_due : List Entry → ℕ → Option ℕ
relay_due j n = option_map (λ (l : Listing). due_of l.peer) (relay_first_peer j n)

-- JOURNALS

-- *journal of a relay*: its entries since its last restart, the latest first. It has no start moment, since nothing of
-- it is due by itself.
-- a relay has no host
abbrev pub relay_entry : RelaySettings → List Entry → ℕ → Input → Entry
relay_entry s j n (arrived from x) = relay_in s j n from x
relay_entry s j n (from_six x) = relay_six s j n x
relay_entry s j n ticked = relay_tick s j n
relay_entry s j n (given x) = wordless_entry n (given x) None None (just fate.Idle)

-- the moment of the latest entry, or 0
abbrev pub relay_last_moment : List Entry → ℕ
relay_last_moment [] = 0
relay_last_moment (e ∷ j) = e.moment

-- the entry that follows, no earlier than the journal's last moment
pub record RelayFollows (s : RelaySettings) (j : List Entry) (e : Entry) : Type 0 where
  pub later : relay_last_moment j ≤ e.moment
  pub is : e ≡ relay_entry s j e.moment e.input

-- a journal of a relay that is set up so
abbrev pub IsRelayJournal : RelaySettings → List Entry → Type 0
IsRelayJournal s [] = Unit {0}
IsRelayJournal s (e ∷ j) = RelayFollows s j e × IsRelayJournal s j
