-- What is kept of nodes while a scenario is played, and the histories that it stands for.
use Rattle.std.specs.Prelude.{◌≡◌, ◌≤◌, ℕ, List, map, slice_get, Some}
use Rattle.std.specs.List.{AllByRecursion}
use Rattle.teredo_node.specs.Journal.{Entry, Journal, Words}
use Rattle.qualify.specs.declared.settings.Settings.{Settings}
use Rattle.relay_rules.specs.Standing.{RelaySettings}
use Rattle.relay_core.specs.declared.relay.Relay.{Relay}
use Rattle.relay_core.specs.Relay.{RelayStandsFor}
use Rattle.relay_core.specs.Relay.{relay_callable_from, relay_settings_of}
use Rattle.client_core.specs.declared.client.Client.{Client}
use Rattle.client_core.specs.Client.{settings_of, words_ahead, callable_from, ClientStandsFor}
use Rattle.topology.specs.Rows.{TopologyState}
use Rattle.topology.specs.declared.node.Node.{Node}
use Rattle.topology.specs.declared.node.Node.TheVariants.{Server as server, Nat as nat, Client as client, Relay as relay, Native as native}
use Rattle.topology.specs.Topology.{nodes}
use Rattle.history.specs.Full.{Full}
use Rattle.legal.specs.Lab.{Lab}
use Rattle.legal.specs.Past.{journal, words}
use Rattle.legal.specs.Settings.{client_settings, relay_settings}
use Rattle.lab_nodes.specs.declared.played_node.PlayedNode.{PlayedNode}
use Rattle.lab_nodes.specs.declared.played_node.PlayedNode.TheVariants as played

-- its row in the topology
abbrev pub row_of : PlayedNode → Node
row_of (played.Server row) = server row
row_of (played.Nat row) = nat row
row_of (played.Client row is) = client row
row_of (played.Relay row is) = relay row
row_of (played.Native row) = native row

-- PASTS

-- what happened to a node since its last start, and the words that it draws next
pub record NodePast : Type 0 where
  pub journal : Journal
  pub words : Words

-- what a history says of one node: its journal and its words
abbrev pub past_of : Lab → ℕ → List Full → NodePast
past_of lab n H = record { journal = journal n H; words = words lab n H }

-- a client is set up so, stands for this journal, and draws these words next
pub record IsClientOf (s : Settings) (is : Client) (j : Journal) (w : Words) : Type 0 where
  pub settings : settings_of is ≡ s
  pub stands : ClientStandsFor is j
  pub words : words_ahead is ≡ w

-- a relay is set up so, and stands for these entries
pub record IsRelayOf (s : RelaySettings) (is : Relay) (j : List Entry) : Type 0 where
  pub settings : relay_settings_of is ≡ s
  pub stands : RelayStandsFor is j

-- what is kept of node n stands for its past. Of a server, a NAT and a native host nothing is
abbrev pub IsKept : TopologyState → ℕ → NodePast → PlayedNode → Type 0
IsKept t n x (played.Server row) = Unit {0}
IsKept t n x (played.Nat row) = Unit {0}
IsKept t n x (played.Client row is) = IsClientOf (client_settings t row) is x.journal x.words
IsKept t n x (played.Relay row is) = IsRelayOf (relay_settings t n row) is x.journal.entries
IsKept t n x (played.Native row) = Unit {0}

-- NODES

-- they are the nodes of the topology, by their numbers
abbrev pub AreOf : TopologyState → List PlayedNode → Type 0
AreOf t list = map row_of list ≡ nodes t

-- each stands for what happened to it
pub record NodesOf (lab : Lab) (list : List PlayedNode) (H : List Full) : Type 0 where
  pub rows : AreOf lab.topology list
  pub each : (n : ℕ) (p : PlayedNode) → slice_get list n ≡ Some p → IsKept lab.topology n (past_of lab n H) p

-- it was last called at this moment or before
abbrev pub IsReady : ℕ → PlayedNode → Type 0
IsReady m (played.Server row) = Unit {0}
IsReady m (played.Nat row) = Unit {0}
IsReady m (played.Client row is) = callable_from is ≤ m
IsReady m (played.Relay row is) = relay_callable_from is ≤ m
IsReady m (played.Native row) = Unit {0}

-- each node may be called at this moment
abbrev pub AreReady : ℕ → List PlayedNode → Type 0
AreReady m list = AllByRecursion (IsReady m) list
