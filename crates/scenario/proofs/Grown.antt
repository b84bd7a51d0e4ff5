-- One more node whose name and addresses no node has keeps the rules of a topology.
use Rattle.scenario.proofs.Words.{AllByRecursion, AreDistinct, CLIENTS_MAX, ClientNode, HasNoneBehind, Ip4, Ip6, IsClient, IsEp, IsIdle, IsIp4, IsIp6, IsOutside, IsTopology, List, NATIVES_MAX, NATS_MAX, Name, NatNode, NativeNode, Node, RELAYS_MAX, RelayNode, SERVERS_MAX, ServerNode, Strict, TopologyState, [], addresses_of, all_map, ap, append_assoc, arith, as_nat, as_relay, as_server, client, false, is_global, is_name, is_some, length, length-append, list_any, map, map-append, name_of, name_text, names_of, nat, nat_eq_equiv, native, nodes, option_and_then, refl, relay, relay_at, same_ep_equiv, same_inside, same_ip, same_ip6, same_ip6_equiv, same_ip_equiv, same_name, same_name_equiv, server, sixes_of, slice_get, subst, sym, true, with_client, with_nat, with_native, with_relay, with_server, ◌++◌, ◌<◌, ◌∙◌, ◌∷◌, ◌≡◌, ◌≢◌}
use Rattle.scenario.specs.declared.node_kind.NodeKind.TheVariants as kind
use Rattle.scenario.proofs.Lasts.{none_last, distinct_last, each_last, each_of_none, nodes_server, nodes_nat, nodes_client, nodes_relay, nodes_native, addresses_server, addresses_nat, addresses_relay, sixes_relay, sixes_native, number_kept}

-- ---- names, addresses and numbers

pub record IsFreeName (t : TopologyState) (a : Name) : Type 0 where
  pub free : list_any (same_name a) (names_of t) ≡ false
  pub spelled : is_name (name_text a) ≡ true

abbrev IsSpelled : Name → Type 0
IsSpelled a = is_name (name_text a) ≡ true

record AreNames (names : List Name) : Type 0 where
  distinct : AreDistinct same_name names
  spelled : AllByRecursion IsSpelled names

names_grown : (t u : TopologyState) (n : Node) → nodes u ≡ nodes t ++ n ∷ [] → IsTopology t → IsFreeName t (name_of n) → AreNames (names_of u)
names_grown t u n e is free =
    let whole : names_of u ≡ names_of t ++ name_of n ∷ [] = ap (map name_of) e ∙ map-append name_of (nodes t) (n ∷ []) in
    let grown : AreNames (names_of t ++ name_of n ∷ []) = record {
      distinct = distinct_last same_name_equiv.symm (names_of t) (name_of n) is.names free.free;
      spelled = each_last IsSpelled (names_of t) (name_of n) is.spelled free.spelled;
    } in
    subst AreNames (sym whole) grown

pub record IsFreeIp (t : TopologyState) (ip : Ip4) : Type 0 where
  pub free : list_any (same_ip ip) (addresses_of t) ≡ false
  pub global : is_global Strict ip ≡ true
  pub made : IsIp4 ip

abbrev IsGlobal : Ip4 → Type 0
IsGlobal ip = is_global Strict ip ≡ true

record AreAddresses (ips : List Ip4) : Type 0 where
  distinct : AreDistinct same_ip ips
  global : AllByRecursion IsGlobal ips
  made : AllByRecursion IsIp4 ips

one_address : (t : TopologyState) (ips : List Ip4) (ip : Ip4) → AreAddresses ips → list_any (same_ip ip) ips ≡ false → IsFreeIp t ip → AreAddresses (ips ++ ip ∷ [])
one_address t ips ip h free is = record {
  distinct = distinct_last same_ip_equiv.symm ips ip h.distinct free;
  global = each_last IsGlobal ips ip h.global is.global;
  made = each_last IsIp4 ips ip h.made is.made;
}

addresses_are : (t : TopologyState) → IsTopology t → AreAddresses (addresses_of t)
addresses_are t is = record { distinct = is.addresses; global = is.global; made = is.made.addresses }

pub record IsFreeSix (t : TopologyState) (ip : Ip6) : Type 0 where
  pub free : list_any (same_ip6 ip) (sixes_of t) ≡ false
  pub outside : IsOutside ip
  pub made : IsIp6 ip

record AreSixes (ips : List Ip6) : Type 0 where
  distinct : AreDistinct same_ip6 ips
  outside : AllByRecursion IsOutside ips
  made : AllByRecursion IsIp6 ips

sixes_grown : (t : TopologyState) (ips : List Ip6) (ip : Ip6) → ips ≡ sixes_of t ++ ip ∷ [] → IsTopology t → IsFreeSix t ip → AreSixes ips
sixes_grown t ips ip e is free =
    let grown : AreSixes (sixes_of t ++ ip ∷ []) = record {
      distinct = distinct_last same_ip6_equiv.symm (sixes_of t) ip is.sixes free.free;
      outside = each_last IsOutside (sixes_of t) ip is.outside free.outside;
      made = each_last IsIp6 (sixes_of t) ip is.made.sixes free.made;
    } in
    subst AreSixes (sym e) grown

client_stays : (t u : TopologyState) (n : Node) → nodes u ≡ nodes t ++ n ∷ [] → (c : ClientNode) → IsClient t c → IsClient u c
client_stays t u n e c is =
    let Nat : List Node → Type 0 = λ ns. is_some (option_and_then as_nat (slice_get ns c.nat)) ≡ true in
    let Server : List Node → Type 0 = λ ns. is_some (option_and_then as_server (slice_get ns c.server)) ≡ true in
    record {
      behind = subst Nat (sym e) (number_kept as_nat (nodes t) (n ∷ []) c.nat is.behind);
      asks = subst Server (sym e) (number_kept as_server (nodes t) (n ∷ []) c.server is.asks);
      port = is.port;
      refresh = is.refresh;
    }

abbrev IsThrough : TopologyState → NativeNode → Type 0
IsThrough t h = is_some (relay_at t h.relay) ≡ true

through_stays : (t u : TopologyState) (n : Node) → nodes u ≡ nodes t ++ n ∷ [] → (h : NativeNode) → IsThrough t h → IsThrough u h
through_stays t u n e h is =
    let Relay : List Node → Type 0 = λ ns. is_some (option_and_then as_relay (slice_get ns h.relay)) ≡ true in
    subst Relay (sym e) (number_kept as_relay (nodes t) (n ∷ []) h.relay is)

-- ---- servers

pub record IsFreshServer (t : TopologyState) (row : ServerNode) : Type 0 where
  pub name : IsFreeName t row.name
  pub primary : IsFreeIp t row.primary
  pub secondary : IsFreeIp t row.secondary
  pub two : same_ip row.primary row.secondary ≡ false

two_addresses : (t : TopologyState) (row : ServerNode) → IsTopology t → IsFreshServer t row → AreAddresses (addresses_of t ++ row.primary ∷ row.secondary ∷ [])
two_addresses t row is fresh =
    let one = one_address t (addresses_of t) row.primary (addresses_are t is) fresh.primary.free fresh.primary in
    let other : list_any (same_ip row.secondary) (addresses_of t ++ row.primary ∷ []) ≡ false =
    none_last (same_ip row.secondary) (addresses_of t) row.primary fresh.secondary.free (same_ip_equiv.symm row.secondary row.primary ∙ fresh.two) in
    let both = one_address t (addresses_of t ++ row.primary ∷ []) row.secondary one other fresh.secondary in
    subst AreAddresses (append_assoc (addresses_of t) (row.primary ∷ []) (row.secondary ∷ [])) both

pub grown_server : (t : TopologyState) (row : ServerNode) → IsTopology t → IsFreshServer t row → length t.servers < SERVERS_MAX → HasNoneBehind kind.Server t → IsTopology (with_server t row)
grown_server t row is fresh few h =
    let names = names_grown t (with_server t row) (server row) (nodes_server t row h) is fresh.name in
    let ips = subst AreAddresses (sym (addresses_server t row h)) (two_addresses t row is fresh) in
    record {
      servers = omega (arith, few, length-append t.servers (row ∷ []));
      nats = is.nats;
      clients = is.clients;
      relays = is.relays;
      natives = is.natives;
      names = names.distinct;
      spelled = names.spelled;
      addresses = ips.distinct;
      global = ips.global;
      idle = is.idle;
      each_client = each_of_none _ t.clients h.1;
      inside = is.inside;
      ports = is.ports;
      outside = is.outside;
      sixes = is.sixes;
      through = each_of_none _ t.natives h.3;
      made = record { addresses = ips.made; sixes = is.made.sixes; inside = is.made.inside; at = is.made.at };
    }

-- ---- NATs

pub record IsFreshNat (t : TopologyState) (row : NatNode) : Type 0 where
  pub name : IsFreeName t row.name
  pub external : IsFreeIp t row.external
  pub idle : IsIdle row

pub grown_nat : (t : TopologyState) (row : NatNode) → IsTopology t → IsFreshNat t row → length t.nats < NATS_MAX → HasNoneBehind kind.Nat t → IsTopology (with_nat t row)
grown_nat t row is fresh few h =
    let names = names_grown t (with_nat t row) (nat row) (nodes_nat t row h) is fresh.name in
    let ips = subst AreAddresses (sym (addresses_nat t row h)) (one_address t (addresses_of t) row.external (addresses_are t is) fresh.external.free fresh.external) in
    record {
      servers = is.servers;
      nats = omega (arith, few, length-append t.nats (row ∷ []));
      clients = is.clients;
      relays = is.relays;
      natives = is.natives;
      names = names.distinct;
      spelled = names.spelled;
      addresses = ips.distinct;
      global = ips.global;
      idle = each_last IsIdle t.nats row is.idle fresh.idle;
      each_client = each_of_none _ t.clients h.0;
      inside = is.inside;
      ports = is.ports;
      outside = is.outside;
      sixes = is.sixes;
      through = each_of_none _ t.natives h.2;
      made = record { addresses = ips.made; sixes = is.made.sixes; inside = is.made.inside; at = is.made.at };
    }

-- ---- clients

pub record IsFreshClient (t : TopologyState) (row : ClientNode) : Type 0 where
  pub name : IsFreeName t row.name
  pub client : IsClient t row
  pub inside : list_any (same_inside row) t.clients ≡ false
  pub made : IsEp row.inside

abbrev IsMadeInside : ClientNode → Type 0
IsMadeInside c = IsEp c.inside

same_inside-symm : (a b : ClientNode) → same_inside a b ≡ same_inside b a
same_inside-symm a b = rw (nat_eq_equiv.symm a.nat b.nat, same_ep_equiv.symm a.inside b.inside) refl

pub grown_client : (t : TopologyState) (row : ClientNode) → IsTopology t → IsFreshClient t row → length t.clients < CLIENTS_MAX → HasNoneBehind kind.Client t → IsTopology (with_client t row)
grown_client t row is fresh few h =
    let u = with_client t row in
    let stays = client_stays t u (client row) (nodes_client t row h) in
    let names = names_grown t u (client row) (nodes_client t row h) is fresh.name in
    record {
      servers = is.servers;
      nats = is.nats;
      clients = omega (arith, few, length-append t.clients (row ∷ []));
      relays = is.relays;
      natives = is.natives;
      names = names.distinct;
      spelled = names.spelled;
      addresses = is.addresses;
      global = is.global;
      idle = is.idle;
      each_client = each_last (IsClient u) t.clients row (all_map (IsClient t) (IsClient u) t.clients stays is.each_client) (stays row fresh.client);
      inside = distinct_last same_inside-symm t.clients row is.inside fresh.inside;
      ports = is.ports;
      outside = is.outside;
      sixes = is.sixes;
      through = each_of_none _ t.natives h.1;
      made = record { addresses = is.made.addresses; sixes = is.made.sixes; inside = each_last IsMadeInside t.clients row is.made.inside fresh.made; at = is.made.at };
    }

-- ---- relays

pub record IsFreshRelay (t : TopologyState) (row : RelayNode) : Type 0 where
  pub name : IsFreeName t row.name
  pub at : IsFreeIp t row.at.ip
  pub port : row.at.port ≢ 0
  pub six : IsFreeSix t row.six
  pub made : IsEp row.at

abbrev IsMadeAt : RelayNode → Type 0
IsMadeAt r = IsEp r.at

abbrev HasPort : RelayNode → Type 0
HasPort r = r.at.port ≢ 0

pub grown_relay : (t : TopologyState) (row : RelayNode) → IsTopology t → IsFreshRelay t row → length t.relays < RELAYS_MAX → HasNoneBehind kind.Relay t → IsTopology (with_relay t row)
grown_relay t row is fresh few h =
    let u = with_relay t row in
    let stays = client_stays t u (relay row) (nodes_relay t row h) in
    let names = names_grown t u (relay row) (nodes_relay t row h) is fresh.name in
    let ips = subst AreAddresses (sym (addresses_relay t row)) (one_address t (addresses_of t) row.at.ip (addresses_are t is) fresh.at.free fresh.at) in
    let sixes = sixes_grown t (sixes_of u) row.six (sixes_relay t row h) is fresh.six in
    record {
      servers = is.servers;
      nats = is.nats;
      clients = is.clients;
      relays = omega (arith, few, length-append t.relays (row ∷ []));
      natives = is.natives;
      names = names.distinct;
      spelled = names.spelled;
      addresses = ips.distinct;
      global = ips.global;
      idle = is.idle;
      each_client = all_map (IsClient t) (IsClient u) t.clients stays is.each_client;
      inside = is.inside;
      ports = each_last HasPort t.relays row is.ports fresh.port;
      outside = sixes.outside;
      sixes = sixes.distinct;
      through = each_of_none _ t.natives h;
      made = record { addresses = ips.made; sixes = sixes.made; inside = is.made.inside; at = each_last IsMadeAt t.relays row is.made.at fresh.made };
    }

-- ---- native hosts

pub record IsFreshNative (t : TopologyState) (row : NativeNode) : Type 0 where
  pub name : IsFreeName t row.name
  pub six : IsFreeSix t row.six
  pub through : is_some (relay_at t row.relay) ≡ true

pub grown_native : (t : TopologyState) (row : NativeNode) → IsTopology t → IsFreshNative t row → length t.natives < NATIVES_MAX → IsTopology (with_native t row)
grown_native t row is fresh few =
    let u = with_native t row in
    let client_stays = client_stays t u (native row) (nodes_native t row) in
    let stays = through_stays t u (native row) (nodes_native t row) in
    let names = names_grown t u (native row) (nodes_native t row) is fresh.name in
    let sixes = sixes_grown t (sixes_of u) row.six (sixes_native t row) is fresh.six in
    record {
      servers = is.servers;
      nats = is.nats;
      clients = is.clients;
      relays = is.relays;
      natives = omega (arith, few, length-append t.natives (row ∷ []));
      names = names.distinct;
      spelled = names.spelled;
      addresses = is.addresses;
      global = is.global;
      idle = is.idle;
      each_client = all_map (IsClient t) (IsClient u) t.clients client_stays is.each_client;
      inside = is.inside;
      ports = is.ports;
      outside = sixes.outside;
      sixes = sixes.distinct;
      through = each_last (IsThrough u) t.natives row (all_map (IsThrough t) (IsThrough u) t.natives stays is.through) (stays row fresh.through);
      made = record { addresses = is.made.addresses; sixes = sixes.made; inside = is.made.inside; at = is.made.at };
    }
