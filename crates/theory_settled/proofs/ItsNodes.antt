-- The nodes that a client's row names.
use Rattle.std.proofs.Common.{◌≡◌, ◌||◌, ℕ, Bool, true, false, Option, Some, None, refl, sym, ap}
use Rattle.std.specs.Prelude.{is_some, option_and_then, unwrap_or}
use Rattle.std.proofs.lemmas.Bool.{false≢true}
use Rattle.td_base.specs.Ip4.{same_ip, same_ip-self}
use Rattle.td_base.specs.declared.side.Side.{Side}
use Rattle.td_base.specs.declared.side.Side.TheVariants.{Primary, Secondary}
use Rattle.server_core.specs.Conditions.{is_own}
use Rattle.topology.specs.declared.server_node.ServerNode.{ServerNode}
use Rattle.topology.specs.declared.nat_node.NatNode.{NatNode}
use Rattle.topology.specs.declared.client_node.ClientNode.{ClientNode}
use Rattle.topology.specs.declared.node.Node.{Node}
use Rattle.topology.specs.declared.node.Node.TheVariants.{Server as server, Nat as nat, Client as client, Relay as relay, Native as native}
use Rattle.topology.specs.Rows.{TopologyState}
use Rattle.topology.specs.Topology.{node_at, nat_at, server_at, client_at, as_server, as_nat, as_client, settings_of_nat, own_ep}
use Rattle.topology.specs.Chains.{nat_set_up}
use Rattle.topology.specs.NodeRules.{has_address, IsClientNode}
use Rattle.topology.proofs.LawProofs.{each_node}
use Rattle.legal.specs.Settings.{server_settings, primary_of, secondary_of}
use Rattle.theory_settled.specs.ItsNodes.{HasServer, HasNat, ClientsAreThere}

-- a node that is taken for a client is one
pub client_there : (t : TopologyState) (n : ℕ) (c : ClientNode) → client_at t n ≡ Some c → node_at t n ≡ Some (client c)
client_there t n c h = by (node_at t n) h where
  by : (o : Option Node) → option_and_then as_client o ≡ Some c → o ≡ Some (client c)
  by None e = absurd (false≢true (ap (λ (z : Option ClientNode). is_some z) e))
  by (Some (client a)) e = ap (λ (z : Option ClientNode). Some (client (unwrap_or z a))) e
  by (Some (server a)) e = absurd (false≢true (ap (λ (z : Option ClientNode). is_some z) e))
  by (Some (nat a)) e = absurd (false≢true (ap (λ (z : Option ClientNode). is_some z) e))
  by (Some (relay a)) e = absurd (false≢true (ap (λ (z : Option ClientNode). is_some z) e))
  by (Some (native a)) e = absurd (false≢true (ap (λ (z : Option ClientNode). is_some z) e))

-- a NAT that is there has its address
pub address_there : (t : TopologyState) (k : ℕ) (row : NatNode) → node_at t k ≡ Some (nat row) → row.external ≡ (nat_set_up t k).external
address_there t k row there = sym (ap (λ (o : Option Node). (settings_of_nat (option_and_then as_nat o)).external) there)

-- a server has its addresses
pub primary_has : (a : ServerNode) → has_address a.primary (server a) ≡ true
primary_has a = ap (λ (b : Bool). b || (same_ip a.primary a.secondary || false)) (same_ip-self a.primary)

pub secondary_has : (a : ServerNode) → has_address a.secondary (server a) ≡ true
secondary_has a = by (same_ip a.secondary a.primary) (same_ip a.secondary a.secondary) (same_ip-self a.secondary) where
  by : (b c : Bool) → c ≡ true → (b || (c || false)) ≡ true
  by true c h = refl
  by false true h = refl
  by false false h = absurd (false≢true h)

-- they are its own
pub own_is_own : (a : ServerNode) (side : Side) → is_own (server_settings a) (own_ep (server a) side).ip ≡ true
unfolding is_own
own_is_own a Primary = ap (λ (b : Bool). b || same_ip a.primary a.secondary) (same_ip-self a.primary)
own_is_own a Secondary = by (same_ip a.secondary a.primary) (same_ip a.secondary a.secondary) (same_ip-self a.secondary) where
  by : (b c : Bool) → c ≡ true → (b || c) ≡ true
  by true c h = refl
  by false c h = h

server_there : (t : TopologyState) (c : ClientNode) → is_some (server_at t c.server) ≡ true → HasServer t c
server_there t c h = by (node_at t c.server) refl h where
  by : (o : Option Node) → node_at t c.server ≡ o → is_some (option_and_then as_server o) ≡ true → HasServer t c
  by None e some = absurd (false≢true some)
  by (Some (server a)) e some = record {
    row = a;
    there = e;
    primary = ap (λ (o : Option Node). primary_of (option_and_then as_server o)) e;
    secondary = ap (λ (o : Option Node). secondary_of (option_and_then as_server o)) e;
    has_primary = primary_has a;
    has_secondary = secondary_has a;
  }
  by (Some (nat a)) e some = absurd (false≢true some)
  by (Some (client a)) e some = absurd (false≢true some)
  by (Some (relay a)) e some = absurd (false≢true some)
  by (Some (native a)) e some = absurd (false≢true some)

nat_there : (t : TopologyState) (c : ClientNode) → is_some (nat_at t c.nat) ≡ true → HasNat t c
nat_there t c h = by (node_at t c.nat) refl h where
  by : (o : Option Node) → node_at t c.nat ≡ o → is_some (option_and_then as_nat o) ≡ true → HasNat t c
  by None e some = absurd (false≢true some)
  by (Some (nat a)) e some = record {
    row = a;
    there = e;
    set_up = ap (λ (o : Option Node). settings_of_nat (option_and_then as_nat o)) e;
    has_external = ap (λ (b : Bool). b || false) (same_ip-self a.external);
  }
  by (Some (server a)) e some = absurd (false≢true some)
  by (Some (client a)) e some = absurd (false≢true some)
  by (Some (relay a)) e some = absurd (false≢true some)
  by (Some (native a)) e some = absurd (false≢true some)

-- each client keeps the rules that name them
pub clients_are_there : ClientsAreThere
clients_are_there = record {
  node = client_there;
  server_of = λ t n c is there. let keeps : IsClientNode t c = each_node t n (client c) is there in server_there t c keeps.rules.asks;
  nat_of = λ t n c is there. let keeps : IsClientNode t c = each_node t n (client c) is there in nat_there t c keeps.rules.behind;
}
