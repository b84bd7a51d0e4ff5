-- The nodes of the generated scenario, each kind in order: two servers, a NAT of each kind, eight clients, a relay, two native hosts.
use Rattle.std.specs.Prelude.{ℕ, zero, suc, ◌+◌, ◌*◌, ◌%◌, ◌==◌, true, false, if◌then◌else◌, List, [], ◌∷◌, ◌++◌, replicate}
use Rattle.std.proofs.Common.{refl, lit≤}
use Rattle.td_base.specs.declared.ipv4.Ip4.{Ip4}
use Rattle.td_base.specs.declared.ipv6.Ip6.{Ip6}
use Rattle.topology.specs.declared.node_name.Name.{Name}
use Rattle.nat_kinds.specs.declared.kind.NatKind.{NatKind}
use Rattle.nat_kinds.specs.declared.kind.NatKind.TheVariants.{Cone, Restricted, Port, Symmetric}
use Rattle.topology.specs.declared.server_node.ServerNode.{ServerNode}
use Rattle.topology.specs.declared.nat_node.NatNode.{NatNode}
use Rattle.topology.specs.declared.client_node.ClientNode.{ClientNode}
use Rattle.topology.specs.declared.relay_node.RelayNode.{RelayNode}
use Rattle.topology.specs.declared.native_node.NativeNode.{NativeNode}
use Rattle.topology.specs.Rows.{TopologyState}
use Rattle.generator.specs.declared.nodes.TheConstants.{FIRST_NAT, FIRST_CLIENT, THE_RELAY, FIRST_NATIVE, MAPPING_IDLE_MS, INSIDE_PORT}
use Rattle.topology.specs.declared.refresh_range.TheConstants.{REFRESH_LOW_MS, REFRESH_HIGH_MS}

-- NUMBERS OF NODES: servers 0 and 1, NATs 2 to 5, clients 6 to 13, the relay 14, native hosts 15 and 16

-- the number of the server that a word chooses
abbrev pub server_number : ℕ → ℕ
server_number k = k % 2

-- the number of the NAT that a word chooses
abbrev pub nat_number : ℕ → ℕ
nat_number k = FIRST_NAT + k % 4

-- the number of the client that a word chooses
abbrev pub client_number : ℕ → ℕ
client_number k = FIRST_CLIENT + k % 8

-- the number of the native host that a word chooses
abbrev pub native_number : ℕ → ℕ
native_number k = FIRST_NATIVE + k % 2

-- NAMES AND ADDRESSES

-- the name of a letter and a digit, as `c7`
unfoldable pub lettered_name : ℕ → ℕ → Name
lettered_name letter k = record { len = 2; bytes = letter ∷ (48 + k) ∷ replicate 14 0; whole = refl; short = lit≤ tt; padded = refl }

-- an IPv4 address of four bytes
abbrev pub ip4 : ℕ → ℕ → ℕ → ℕ → Ip4
ip4 a b c d = record { 0 = a ∷ b ∷ c ∷ d ∷ [] }

-- 2001:db8::k, of the addresses for documentation (RFC 3849)
abbrev pub documentation_ip6 : ℕ → Ip6
documentation_ip6 k = record { 0 = 32 ∷ 1 ∷ 13 ∷ 184 ∷ replicate 11 0 ++ k ∷ [] }

-- the address outside of NAT k
abbrev pub external_ip : ℕ → Ip4
external_ip k = ip4 198 51 100 (k + 1)

-- NODES

-- one of the two servers
unfoldable pub generated_server : ℕ → ServerNode
generated_server k = record { name = lettered_name 115 k; primary = ip4 192 0 2 (2 * k + 1); secondary = ip4 192 0 2 (2 * k + 2) }

-- a NAT of each kind
abbrev pub kind_numbered : ℕ → NatKind
kind_numbered k = if k == 0 then Cone else (if k == 1 then Restricted else (if k == 2 then Port else Symmetric))

-- one of the four NATs, each of another kind
unfoldable pub generated_nat : ℕ → NatNode
generated_nat k = record { name = lettered_name 110 k; kind = kind_numbered k; external = external_ip k; idle = MAPPING_IDLE_MS }

-- one of the eight clients
unfoldable pub generated_client : ℕ → ClientNode
generated_client k = record {
  name = lettered_name 99 k;
  nat = nat_number k;
  inside = record { ip = ip4 10 0 0 (k + 2); port = INSIDE_PORT };
  server = server_number k;
  refresh = record { low_ms = REFRESH_LOW_MS; high_ms = REFRESH_HIGH_MS };
  random = false;
  cone_try = true;
}

-- the relay
unfoldable pub generated_relay : RelayNode
generated_relay = record { name = lettered_name 114 0; at = record { ip = ip4 203 0 113 9; port = 3545 }; six = documentation_ip6 9 }

-- one of the two native hosts
unfoldable pub generated_native : ℕ → NativeNode
generated_native k = record { name = lettered_name 104 k; six = documentation_ip6 (k + 1); relay = THE_RELAY }

-- the values of a function at 0, 1 and so on, so many of them
unfoldable pub firsts : {A : Type 0} → (ℕ → A) → ℕ → List A
firsts f zero = []
firsts f (suc n) = firsts f n ++ f n ∷ []

-- the seventeen nodes
unfoldable pub generated_nodes : TopologyState
generated_nodes = record {
  servers = firsts generated_server 2;
  nats = firsts generated_nat 4;
  clients = firsts generated_client 8;
  relays = generated_relay ∷ [];
  natives = firsts generated_native 2;
}
