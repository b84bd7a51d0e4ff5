-- The hosts of a world and the relays between them, and what is kept of them.
use Rattle.std.specs.Prelude.{◌≡◌, ◌≤◌, ◌==◌, ℕ, Bool, false, List, Some}
use Rattle.client_core.specs.Client.{callable_from}
use Rattle.topology.specs.declared.node.Node.{Node}
use Rattle.topology.specs.declared.node.Node.TheVariants.{Client as client, Relay as relay, Native as native}
use Rattle.topology.specs.Topology.{node_at}
use Rattle.history.specs.Full.{Full}
use Rattle.legal.specs.Lab.{Lab}
use Rattle.legal.specs.Past.{journal, words}
use Rattle.legal.specs.Settings.{client_settings, relay_settings}
use Rattle.lab_nodes.specs.PlayedNode.{IsClientOf, IsRelayOf}
use Rattle.world.specs.declared.route.Route.{Route}
use Rattle.world.specs.declared.route.Route.TheVariants.{Reaches, Closed, Astray}
use Rattle.reach_query.specs.declared.hosts.ClientHere.{ClientHere}
use Rattle.reach_query.specs.declared.hosts.HostHere.{HostHere}
use Rattle.reach_query.specs.declared.hosts.HostHere.TheVariants.{Client, Native}
use Rattle.reach_query.specs.declared.hosts.RelayHere.{RelayHere}

-- a route ends at node n
abbrev pub goes_to : ℕ → Route → Bool
goes_to n (Reaches k) = k == n
goes_to n (Closed k) = false
goes_to n Astray = false

-- what is kept of a client stands for what happened to it
pub record IsClientHere (lab : Lab) (H : List Full) (c : ClientHere) : Type 0 where
  pub there : node_at lab.topology c.number ≡ Some (client c.row)
  pub kept : IsClientOf (client_settings lab.topology c.row) c.client.now (journal c.number H) (words lab c.number H)

-- HOSTS

-- the number of a host's node
abbrev pub host_number : HostHere → ℕ
host_number (Client c) = c.number
host_number (Native number row) = number

-- its row in the topology
abbrev pub node_of : HostHere → Node
node_of (Client c) = client c.row
node_of (Native number row) = native row

-- it was last called at this moment or before
abbrev pub IsReadyHost : ℕ → HostHere → Type 0
IsReadyHost m (Client c) = callable_from c.client.now ≤ m
IsReadyHost m (Native number row) = Unit {0}

-- what is kept of it stands for what happened to it
abbrev pub IsHostHere : Lab → List Full → HostHere → Type 0
IsHostHere lab H (Client c) = IsClientHere lab H c
IsHostHere lab H (Native number row) = Unit {0}

-- RELAYS

-- what is kept of relay number k stands for what happened to it
pub record IsRelayHere (lab : Lab) (H : List Full) (k : ℕ) (r : RelayHere) : Type 0 where
  pub there : node_at lab.topology k ≡ Some (relay r.row)
  pub kept : IsRelayOf (relay_settings lab.topology k r.row) r.relay.now (journal k H).entries
