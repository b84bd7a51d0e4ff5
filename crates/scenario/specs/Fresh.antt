-- The rules of the values of a table: what names and addresses a further node may have beside those that are there.
use Rattle.std.specs.Prelude.{ℕ, ℤ, pos, negsuc, ◌==◌, ◌&&◌, not, nat_le, Bool, true, false, if◌then◌else◌, List, codes, Option, Some, None}
use Rattle.std.specs.List.{list_any}
use Rattle.td_base.specs.declared.ipv4.Ip4.{Ip4}
use Rattle.td_base.specs.declared.ipv6.Ip6.{Ip6}
use Rattle.td_base.specs.declared.endpoint.Ep.{Ep}
use Rattle.topology.specs.declared.node_name.Name.{Name}
use Rattle.td_base.specs.declared.reach.Policy.TheVariants.{Strict}
use Rattle.td_base.specs.Ip4.{same_ip}
use Rattle.td_base.specs.Ip6.{same_ip6}
use Rattle.td_base.specs.Ep.{same_ep}
use Rattle.topology.specs.Names.{same_name}
use Rattle.td_base.specs.Reach.{is_global, is_global6}
use Rattle.teredo_addr.specs.Teredo.{is_teredo}
use Rattle.nat_kinds.specs.declared.kind.NatKind.{NatKind}
use Rattle.nat_kinds.specs.declared.kind.NatKind.TheVariants.{Cone, Restricted, Port, Symmetric}
use Rattle.topology.specs.declared.nat_node.TheConstants.{IDLE_MAX_MS}
use Rattle.topology.specs.declared.refresh_range.TheConstants.{REFRESH_MIN_MS, REFRESH_MAX_MS}
use Rattle.topology.specs.declared.refresh_range.RefreshRange.{RefreshRange}
use Rattle.topology.specs.declared.client_node.ClientNode.{ClientNode}
use Rattle.topology.specs.NodeNames.{is_name}
use Rattle.topology.specs.Rows.{TopologyState}
use Rattle.topology.specs.Rules.{names_of, addresses_of, sixes_of}
use Rattle.td_base.specs.Options.{◌>>=◌}
use Rattle.td_base.specs.Values.{same_text, ip4_of, ep_of}
use Rattle.td_base.specs.Ip6Values.{ip6_of}
use Rattle.scenario.specs.NodeName.{name}

-- what is given, where a test holds
abbrev pub where_holds : {A : Type 0} → Bool → A → Option A
where_holds test x = if test then Some x else None

-- NAMES

-- the name that a text is
unfoldable pub spelled_name : List ℕ → Option Name
spelled_name text = if is_name text then Some (name text) else None

-- no node has this name
unfoldable pub is_free_name : TopologyState → Name → Bool
is_free_name t a = not (list_any (same_name a) (names_of t))

-- the name that a text gives to a further node
unfoldable pub new_name : TopologyState → List ℕ → Option Name
new_name t text = spelled_name text >>= (λ a. where_holds (is_free_name t a) a)

-- ADDRESSES

-- no node has this address
unfoldable pub is_free_address : TopologyState → Ip4 → Bool
is_free_address t ip = not (list_any (same_ip ip) (addresses_of t))

-- global, and no node's (RFC 4380, section 4, asks for global ones)
abbrev pub is_new_address : TopologyState → Ip4 → Bool
is_new_address t ip = is_global Strict ip && is_free_address t ip

-- the address that a text gives to a further node
unfoldable pub new_address : TopologyState → List ℕ → Option Ip4
new_address t text = ip4_of text >>= (λ ip. where_holds (is_new_address t ip) ip)

-- the second address that a text gives to a server
unfoldable pub other_address : TopologyState → Ip4 → List ℕ → Option Ip4
other_address t first text = new_address t text >>= (λ ip. where_holds (not (same_ip first ip)) ip)

-- the endpoint that a text gives to a further relay
unfoldable pub new_endpoint : TopologyState → List ℕ → Option Ep
new_endpoint t text = ep_of text >>= (λ at. where_holds (not (at.port == 0) && is_new_address t at.ip) at)

-- no node has this IPv6 address
unfoldable pub is_free_six : TopologyState → Ip6 → Bool
is_free_six t ip = not (list_any (same_ip6 ip) (sixes_of t))

-- an address of the IPv6 Internet that no node has
abbrev pub is_new_six : TopologyState → Ip6 → Bool
is_new_six t ip = is_global6 ip && not (is_teredo ip) && is_free_six t ip

-- the IPv6 address that a text gives to a further node
unfoldable pub new_six : TopologyState → List ℕ → Option Ip6
new_six t text = ip6_of text >>= (λ ip. where_holds (is_new_six t ip) ip)

-- no client behind this NAT has this endpoint
unfoldable pub is_free_inside : TopologyState → ℕ → Ep → Bool
is_free_inside t nat inside = not (list_any (λ (c : ClientNode). (nat == c.nat) && same_ep inside c.inside) t.clients)

-- the endpoint that a text gives to a further client behind a NAT
unfoldable pub new_inside : TopologyState → ℕ → List ℕ → Option Ep
new_inside t nat text = ep_of text >>= (λ inside. where_holds (not (inside.port == 0) && is_free_inside t nat inside) inside)

-- KINDS AND NUMBERS

-- the kind of NAT that a text names
unfoldable pub kind_of : List ℕ → Option NatKind
kind_of text =
    if same_text text (codes "cone") then Some Cone
    else if same_text text (codes "restricted") then Some Restricted
    else if same_text text (codes "port") then Some Port
    else if same_text text (codes "symmetric") then Some Symmetric
    else None

-- whether a text says that flags are random
unfoldable pub random_of : List ℕ → Option Bool
random_of text =
    if same_text text (codes "zero") then Some false
    else if same_text text (codes "random") then Some true
    else None

-- a whole number from 0
abbrev pub natural : ℤ → Option ℕ
natural (pos n) = Some n
natural (negsuc n) = None

-- how many milliseconds a mapping lives: at least one, and not too many
unfoldable pub idle_of : ℤ → Option ℕ
idle_of number = natural number >>= (λ ms. where_holds (nat_le 1 ms && nat_le ms IDLE_MAX_MS) ms)

-- the shortest and the longest time between two refreshes, in milliseconds
abbrev pub is_refresh : ℕ → ℕ → Bool
is_refresh low high = nat_le REFRESH_MIN_MS low && nat_le low high && nat_le high REFRESH_MAX_MS

-- the range of times between refreshes that two numbers say, if they say one
unfoldable pub refresh_of : ℤ × ℤ → Option RefreshRange
refresh_of times = do
  low ← natural times.0
  high ← natural times.1
  where_holds (is_refresh low high) (record { low_ms = low; high_ms = high })
