-- Nodes by their names, and of which kind they are.
use Rattle.std.specs.Prelude.{ℕ, ◌==◌, ◌&&◌, nat_eq, Bool, true, false, List, Option, Some}
use Rattle.std.specs.Cmp.Lexicographic.{pointwise}
use Rattle.topology.specs.Names.{name_text}
use Rattle.topology.specs.Rows.{TopologyState}
use Rattle.topology.specs.declared.node.Node.{Node}
use Rattle.topology.specs.declared.node.Node.TheVariants.{Server as server, Nat as nat, Client as client, Relay as relay, Native as native}
use Rattle.topology.specs.Topology.{name_of, first_passing}

-- a client or a native host: a node with a host of its own
abbrev pub has_host : Option Node → Bool
has_host (Some (client c)) = true
has_host (Some (native h)) = true
has_host _ = false

-- is it a server?
abbrev pub is_server : Option Node → Bool
is_server (Some (server a)) = true
is_server _ = false

-- is it a relay?
abbrev pub is_relay : Option Node → Bool
is_relay (Some (relay r)) = true
is_relay _ = false

-- is it a NAT?
abbrev pub is_nat : Option Node → Bool
is_nat (Some (nat a)) = true
is_nat _ = false

-- a client behind NAT number n
abbrev pub is_client_of : ℕ → Option Node → Bool
is_client_of n (Some (client c)) = c.nat == n
is_client_of n _ = false

-- the node has this name
abbrev pub is_named : List ℕ → Node → Bool
is_named text node = pointwise nat_eq (name_text (name_of node)) text

-- the number of the node of a kind that has this name
unfoldable pub named : (Option Node → Bool) → TopologyState → List ℕ → Option ℕ
named kind t text = first_passing (λ node. kind (Some node) && is_named text node) t

-- a node of any kind
abbrev pub any_kind : Option Node → Bool
any_kind _ = true
