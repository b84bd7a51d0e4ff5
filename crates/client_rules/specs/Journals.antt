-- A client's journal: each entry is what its tables give after those before it (RFC 4380, section 5.2).
use Rattle.std.specs.Prelude.{◌≡◌, ◌≤◌, ℕ, List, [], ◌∷◌, Option, None}
use Rattle.td_base.specs.declared.ipv6.Ip6.{Ip6}
use Rattle.td_base.specs.declared.endpoint.Ep.{Ep}
use Rattle.bubble.specs.PacketsIn.{packet_in, source_in, packet_given, destination_in}
use Rattle.teredo_node.specs.declared.fate.Fate.TheVariants as fate
use Rattle.teredo_node.specs.Step.{Step, just}
use Rattle.teredo_node.specs.Words.{drawn_words}
use Rattle.teredo_node.specs.Journal.{Input, arrived, given, from_six, ticked, Entry, Journal, Words}
use Rattle.peer_list.specs.Waiting.{Listing, first_due}
use Rattle.qualify.specs.declared.settings.Settings.{Settings}
use Rattle.qualify.specs.Qualification.{qualification}
use Rattle.client_rules.specs.Bearings.{mentions}
use Rattle.client_rules.specs.Standing.{standing_of}
use Rattle.client_rules.specs.Reception.{reception}
use Rattle.client_rules.specs.Transmission.{transmission}
use Rattle.client_rules.specs.Ticks.{Due, due_at, peer_of_due, tick, next_due}

-- an entry whose step drew the next words
abbrev pub entry : ℕ → Input → Option (List ℕ) → Option Ip6 → Words → Step → Entry
entry n input packet peer w step = record { moment = n; input = input; packet = packet; peer = peer; words = drawn_words step.drawn w; step = step }

-- DATAGRAMS

-- the entry of a datagram
unfoldable pub client_in : Settings → Journal → ℕ → Ep → List ℕ → Words → Entry
client_in s j n from x w = entry n (arrived from x) (packet_in x) (source_in x) w (reception s (standing_of s j n (source_in x)) from x w)

-- PACKETS OF THE HOST

-- the entry of a packet of the host
unfoldable pub client_out : Settings → Journal → ℕ → List ℕ → Words → Entry
client_out s j n x w = entry n (given x) (packet_given x) (destination_in x) w (transmission s (standing_of s j n (destination_in x)) x w)

-- TICKS

-- the listed peer that is due first
abbrev pub first_peer : Journal → ℕ → Option Listing
first_peer j n = first_due (mentions j.entries) n

-- the entry of a tick that does what is due
abbrev pub ticks : Settings → Journal → ℕ → Words → Due → Entry
ticks s j n w due = entry n ticked None (peer_of_due due) w (tick s n (qualification s j) w due)

-- the entry of a tick
unfoldable pub client_tick : Settings → Journal → ℕ → Words → Entry
client_tick s j n w = ticks s j n w (due_at n (qualification s j) (first_peer j n))

-- when a tick is due
unfoldable pub client_due : Settings → Journal → ℕ → Option ℕ
client_due s j n = next_due (qualification s j) (first_peer j n)

-- JOURNALS

-- *entry of a client*: what comes next for an input at a moment: the packet, its peer, the words drawn and the step
-- that the tables give.
-- a client is given no packet of the IPv6 side
abbrev pub client_entry : Settings → Journal → ℕ → Input → Words → Entry
client_entry s j n (arrived from x) w = client_in s j n from x w
client_entry s j n (given x) w = client_out s j n x w
client_entry s j n ticked w = client_tick s j n w
client_entry s j n (from_six x) w = entry n (from_six x) None None w (just fate.Idle)

-- the last moment of a client that started at a moment
abbrev pub last_moment : ℕ → List Entry → ℕ
last_moment start [] = start
last_moment start (e ∷ j) = e.moment

-- a journal of a start and entries
abbrev pub journal_since : ℕ → List Entry → Journal
journal_since start j = record { start = start; entries = j }

-- the entry that follows, for some words, no earlier than the journal's last moment
pub record ClientFollows (s : Settings) (j : Journal) (e : Entry) : Type 0 where
  pub later : last_moment j.start j.entries ≤ e.moment
  pub words : Words
  pub is : e ≡ client_entry s j e.moment e.input words

-- each entry is what the table gives after those before it
abbrev pub AreEntries : Settings → ℕ → List Entry → Type 0
AreEntries s start [] = Unit {0}
AreEntries s start (e ∷ j) = ClientFollows s (journal_since start j) e × AreEntries s start j

-- a journal of a client that is set up so
abbrev pub IsJournal : Settings → Journal → Type 0
IsJournal s j = AreEntries s j.start j.entries
