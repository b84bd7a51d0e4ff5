-- Whether nodes keep the rules of a topology, as a test.
use Rattle.std.proofs.Common.{◌≡◌, ◌≢◌, ◌==◌, ◌&&◌, ◌^◌, ℕ, zero, nat_le, nat_lt, leb-true, ltb-true, eqb-true, eq-eqb, Bool, true, false, not, List, [], ◌∷◌, length, sym, ◌∙◌}
use Rattle.std.specs.Prelude.{is_some}
use Rattle.std.specs.List.{list_any, list_all, AllByRecursion}
use Rattle.std.proofs.lemmas.Bool.{and_parts, not-true, true≢false}
use Rattle.td_base.specs.Bytes.{IsBytes}
use Rattle.td_base.proofs.BytesLemmas.{are_bytes}
use Rattle.td_base.specs.Ip4.{IsIp4, same_ip}
use Rattle.td_base.specs.Ip6.{IsIp6, same_ip6}
use Rattle.td_base.specs.Ep.{IsEp}
use Rattle.topology.specs.Names.{name_text, same_name}
use Rattle.td_base.specs.Reach.{is_global, is_global6}
use Rattle.td_base.specs.declared.ipv4.Ip4.{Ip4}
use Rattle.td_base.specs.declared.ipv6.Ip6.{Ip6}
use Rattle.td_base.specs.declared.endpoint.Ep.{Ep}
use Rattle.topology.specs.declared.node_name.Name.{Name}
use Rattle.td_base.specs.declared.reach.Policy.TheVariants.{Strict}
use Rattle.teredo_addr.specs.Teredo.{is_teredo}
use Rattle.topology.specs.declared.topology.TheConstants.{SERVERS_MAX, NATS_MAX, CLIENTS_MAX, RELAYS_MAX, NATIVES_MAX}
use Rattle.topology.specs.declared.nat_node.TheConstants.{IDLE_MAX_MS}
use Rattle.topology.specs.declared.refresh_range.TheConstants.{REFRESH_MIN_MS, REFRESH_MAX_MS}
use Rattle.topology.specs.declared.nat_node.NatNode.{NatNode}
use Rattle.topology.specs.declared.client_node.ClientNode.{ClientNode}
use Rattle.topology.specs.declared.relay_node.RelayNode.{RelayNode}
use Rattle.topology.specs.declared.native_node.NativeNode.{NativeNode}
use Rattle.topology.specs.NodeNames.{is_name}
use Rattle.topology.specs.Rows.{TopologyState}
use Rattle.topology.specs.Topology.{server_at, nat_at, relay_at}
use Rattle.topology.specs.Rules.{AreDistinct, names_of, addresses_of, sixes_of, same_inside, IsIdle, IsClient, IsOutside, IsTopology}

-- ---- tests of lists

-- each passes a test, and so has what the test shows
each : {A : Type 0} (P : A → Type 0) (test : A → Bool) → ((x : A) → test x ≡ true → P x) → (xs : List A) → list_all test xs ≡ true → AllByRecursion P xs
each P test shows [] e = tt
each P test shows (x ∷ xs) e = let both = and_parts (test x) (list_all test xs) e in (shows x both.0, each P test shows xs both.1)

abbrev distinct : {A : Type 0} → (A → A → Bool) → List A → Bool
distinct same [] = true
distinct same (x ∷ xs) = not (list_any (same x) xs) && distinct same xs

are_distinct : {A : Type 0} (same : A → A → Bool) (xs : List A) → distinct same xs ≡ true → AreDistinct same xs
are_distinct same [] e = tt
are_distinct same (x ∷ xs) e = let both = and_parts (not (list_any (same x) xs)) (distinct same xs) e in (not-true (list_any (same x) xs) both.0, are_distinct same xs both.1)

no_zero : (n : ℕ) → not (n == 0) ≡ true → n ≢ 0
no_zero n e = λ zero. let same : (n == 0) ≡ true = eq-eqb n 0 zero in true≢false (sym same ∙ not-true (n == 0) e)

-- ---- tests of values

abbrev bytes_of : ℕ → List ℕ → Bool
bytes_of n xs = (length xs == n) && list_all (λ b. nat_lt b 256) xs

are_bytes_of : (n : ℕ) (xs : List ℕ) → bytes_of n xs ≡ true → (length xs ≡ n) × IsBytes xs
are_bytes_of n xs e = let both = and_parts (length xs == n) (list_all (λ b. nat_lt b 256) xs) e in (eqb-true (length xs) n both.0, are_bytes xs both.1)

abbrev made_ep : Ep → Bool
made_ep at = bytes_of 4 at.ip.0 && nat_lt at.port (2 ^ 16)

-- ---- tests of nodes

idle : (a : NatNode) → nat_le 1 a.idle && nat_le a.idle IDLE_MAX_MS ≡ true → IsIdle a
idle a e = let both = and_parts (nat_le 1 a.idle) (nat_le a.idle IDLE_MAX_MS) e in record { least = leb-true _ _ both.0; most = leb-true _ _ both.1 }

abbrev times : ClientNode → Bool
times c = nat_le REFRESH_MIN_MS c.refresh.low_ms && nat_le c.refresh.low_ms c.refresh.high_ms && nat_le c.refresh.high_ms REFRESH_MAX_MS

abbrev reaches : TopologyState → ClientNode → Bool
reaches t c = is_some (nat_at t c.nat) && is_some (server_at t c.server) && not (c.inside.port == 0)

client : (t : TopologyState) (c : ClientNode) → reaches t c && times c ≡ true → IsClient t c
client t c e =
    let all = and_parts (reaches t c) (times c) e in
    let way = and_parts (is_some (nat_at t c.nat) && is_some (server_at t c.server)) (not (c.inside.port == 0)) all.0 in
    let nodes = and_parts (is_some (nat_at t c.nat)) (is_some (server_at t c.server)) way.0 in
    let most = and_parts (nat_le REFRESH_MIN_MS c.refresh.low_ms && nat_le c.refresh.low_ms c.refresh.high_ms) (nat_le c.refresh.high_ms REFRESH_MAX_MS) all.1 in
    let least = and_parts (nat_le REFRESH_MIN_MS c.refresh.low_ms) (nat_le c.refresh.low_ms c.refresh.high_ms) most.0 in
    record {
      behind = nodes.0;
      asks = nodes.1;
      port = no_zero c.inside.port way.1;
      refresh = record { least = leb-true _ _ least.0; order = leb-true _ _ least.1; most = leb-true _ _ most.1 };
    }

outside : (ip : Ip6) → is_global6 ip && not (is_teredo ip) ≡ true → IsOutside ip
outside ip e = let both = and_parts (is_global6 ip) (not (is_teredo ip)) e in record { global = both.0; other = not-true (is_teredo ip) both.1 }

ep : (at : Ep) → made_ep at ≡ true → IsEp at
ep at e = let both = and_parts (bytes_of 4 at.ip.0) (nat_lt at.port (2 ^ 16)) e in (are_bytes_of 4 at.ip.0 both.0, ltb-true _ _ both.1)

-- ---- all rules

abbrev tests : TopologyState → List Bool
tests t =
    (nat_le (length t.servers) SERVERS_MAX)
    ∷ (nat_le (length t.nats) NATS_MAX)
    ∷ (nat_le (length t.clients) CLIENTS_MAX)
    ∷ (nat_le (length t.relays) RELAYS_MAX)
    ∷ (nat_le (length t.natives) NATIVES_MAX)
    ∷ (distinct same_name (names_of t))
    ∷ (list_all (λ (a : Name). is_name (name_text a)) (names_of t))
    ∷ (distinct same_ip (addresses_of t))
    ∷ (list_all (is_global Strict) (addresses_of t))
    ∷ (list_all (λ (a : NatNode). nat_le 1 a.idle && nat_le a.idle IDLE_MAX_MS) t.nats)
    ∷ (list_all (λ (c : ClientNode). reaches t c && times c) t.clients)
    ∷ (distinct same_inside t.clients)
    ∷ (list_all (λ (r : RelayNode). not (r.at.port == 0)) t.relays)
    ∷ (list_all (λ (ip : Ip6). is_global6 ip && not (is_teredo ip)) (sixes_of t))
    ∷ (distinct same_ip6 (sixes_of t))
    ∷ (list_all (λ (h : NativeNode). is_some (relay_at t h.relay)) t.natives)
    ∷ (list_all (λ (ip : Ip4). bytes_of 4 ip.0) (addresses_of t))
    ∷ (list_all (λ (ip : Ip6). bytes_of 16 ip.0) (sixes_of t))
    ∷ (list_all (λ (c : ClientNode). made_ep c.inside) t.clients)
    ∷ (list_all (λ (r : RelayNode). made_ep r.at) t.relays)
    ∷ []

-- whether they keep them
abbrev pub keeps : TopologyState → Bool
keeps t = list_all (λ (b : Bool). b) (tests t)

pub kept : (t : TopologyState) → keeps t ≡ true → IsTopology t
kept t e = let p = each (λ (b : Bool). b ≡ true) (λ b. b) (λ b h. h) (tests t) e in record {
  servers = leb-true _ _ p.0;
  nats = leb-true _ _ p.1.0;
  clients = leb-true _ _ p.1.1.0;
  relays = leb-true _ _ p.1.1.1.0;
  natives = leb-true _ _ p.1.1.1.1.0;
  names = are_distinct same_name (names_of t) p.1.1.1.1.1.0;
  spelled = each (λ (a : Name). is_name (name_text a) ≡ true) (λ a. is_name (name_text a)) (λ a e. e) (names_of t) p.1.1.1.1.1.1.0;
  addresses = are_distinct same_ip (addresses_of t) p.1.1.1.1.1.1.1.0;
  global = each (λ (ip : Ip4). is_global Strict ip ≡ true) (is_global Strict) (λ ip e. e) (addresses_of t) p.1.1.1.1.1.1.1.1.0;
  idle = each IsIdle (λ a. nat_le 1 a.idle && nat_le a.idle IDLE_MAX_MS) idle t.nats p.1.1.1.1.1.1.1.1.1.0;
  each_client = each (IsClient t) (λ c. reaches t c && times c) (client t) t.clients p.1.1.1.1.1.1.1.1.1.1.0;
  inside = are_distinct same_inside t.clients p.1.1.1.1.1.1.1.1.1.1.1.0;
  ports = each (λ (r : RelayNode). r.at.port ≢ 0) (λ r. not (r.at.port == 0)) (λ r e. no_zero r.at.port e) t.relays p.1.1.1.1.1.1.1.1.1.1.1.1.0;
  outside = each IsOutside (λ ip. is_global6 ip && not (is_teredo ip)) outside (sixes_of t) p.1.1.1.1.1.1.1.1.1.1.1.1.1.0;
  sixes = are_distinct same_ip6 (sixes_of t) p.1.1.1.1.1.1.1.1.1.1.1.1.1.1.0;
  through = each (λ (h : NativeNode). is_some (relay_at t h.relay) ≡ true) (λ h. is_some (relay_at t h.relay)) (λ h e. e) t.natives p.1.1.1.1.1.1.1.1.1.1.1.1.1.1.1.0;
  made = record {
    addresses = each IsIp4 (λ ip. bytes_of 4 ip.0) (λ ip e. are_bytes_of 4 ip.0 e) (addresses_of t) p.1.1.1.1.1.1.1.1.1.1.1.1.1.1.1.1.0;
    sixes = each IsIp6 (λ ip. bytes_of 16 ip.0) (λ ip e. are_bytes_of 16 ip.0 e) (sixes_of t) p.1.1.1.1.1.1.1.1.1.1.1.1.1.1.1.1.1.0;
    inside = each (λ (c : ClientNode). IsEp c.inside) (λ c. made_ep c.inside) (λ c e. ep c.inside e) t.clients p.1.1.1.1.1.1.1.1.1.1.1.1.1.1.1.1.1.1.0;
    at = each (λ (r : RelayNode). IsEp r.at) (λ r. made_ep r.at) (λ r e. ep r.at e) t.relays p.1.1.1.1.1.1.1.1.1.1.1.1.1.1.1.1.1.1.1.0;
  };
}
