-- The rules of a topology at its nodes.
use Rattle.topology.proofs.Words.{AddressesAreApart, AllByRecursion, AreDistinct, Bool, ClientNode, EachNodeKeepsRules, Ip4, IsClient, IsClientNode, IsEp, IsIdle, IsIp4, IsIp6, IsNatNode, IsNativeNode, IsOutside, IsPublic, IsRelayNode, IsServerNode, IsTopology, KeepsRules, List, NatNode, NativeNode, OwnAddressIsTaken, RelayNode, ServerNode, Strict, TopologyState, [], addresses_at, addresses_of, all_map, ap, client, false, flat_map, flat_map-append, is_global, list_any, map, nat, native, nodes, refl, relay, same_ip, same_ip-true, server, subst, sym, true, ◌++◌, ◌||◌, ◌∙◌, ◌∷◌, ◌≡◌}
use Rattle.topology.proofs.Lists.{all_joined, all_left, all_right, all_mapped, all_unmapped, all_at, any_at, one_alone}

-- THE ADDRESSES OF ALL NODES, node by node

of_servers : (xs : List ServerNode) → flat_map addresses_at (map server xs) ≡ flat_map (λ (a : ServerNode). a.primary ∷ a.secondary ∷ []) xs
of_servers [] = refl
of_servers (x ∷ xs) = ap (λ (zs : List Ip4). x.primary ∷ x.secondary ∷ zs) (of_servers xs)

of_nats : (xs : List NatNode) → flat_map addresses_at (map nat xs) ≡ map (λ (a : NatNode). a.external) xs
of_nats [] = refl
of_nats (x ∷ xs) = ap (λ (zs : List Ip4). x.external ∷ zs) (of_nats xs)

of_clients : (xs : List ClientNode) → flat_map addresses_at (map client xs) ≡ []
of_clients [] = refl
of_clients (x ∷ xs) = of_clients xs

of_relays : (xs : List RelayNode) → flat_map addresses_at (map relay xs) ≡ map (λ (r : RelayNode). r.at.ip) xs
of_relays [] = refl
of_relays (x ∷ xs) = ap (λ (zs : List Ip4). x.at.ip ∷ zs) (of_relays xs)

of_natives : (xs : List NativeNode) → flat_map addresses_at (map native xs) ≡ []
of_natives [] = refl
of_natives (x ∷ xs) = of_natives xs

nothing_behind : (xs : List Ip4) → xs ++ [] ≡ xs
nothing_behind [] = refl
nothing_behind (x ∷ xs) = ap (λ (zs : List Ip4). x ∷ zs) (nothing_behind xs)

of_nodes : (t : TopologyState) → flat_map addresses_at (nodes t) ≡ addresses_of t
of_nodes t =
    let f = addresses_at in
    let S = map server t.servers in
    let N = map nat t.nats in
    let C = map client t.clients in
    let R = map relay t.relays in
    let V = map native t.natives in
    let tail : flat_map f (R ++ V) ≡ map (λ (r : RelayNode). r.at.ip) t.relays =
    flat_map-append f R V ∙ ap (λ (zs : List Ip4). flat_map f R ++ zs) (of_natives t.natives) ∙ nothing_behind (flat_map f R) ∙ of_relays t.relays in
    let third : flat_map f (C ++ (R ++ V)) ≡ map (λ (r : RelayNode). r.at.ip) t.relays =
    flat_map-append f C (R ++ V) ∙ ap (λ (zs : List Ip4). zs ++ flat_map f (R ++ V)) (of_clients t.clients) ∙ tail in
    let second : flat_map f (N ++ (C ++ (R ++ V))) ≡ map (λ (a : NatNode). a.external) t.nats ++ map (λ (r : RelayNode). r.at.ip) t.relays =
    flat_map-append f N (C ++ (R ++ V)) ∙ ap (λ (zs : List Ip4). zs ++ flat_map f (C ++ (R ++ V))) (of_nats t.nats)
    ∙ ap (λ (zs : List Ip4). map (λ (a : NatNode). a.external) t.nats ++ zs) third in
    flat_map-append f S (N ++ (C ++ (R ++ V))) ∙ ap (λ (zs : List Ip4). zs ++ flat_map f (N ++ (C ++ (R ++ V)))) (of_servers t.servers)
    ∙ ap (λ (zs : List Ip4). flat_map (λ (a : ServerNode). a.primary ∷ a.secondary ∷ []) t.servers ++ zs) second

-- those that are the same as one are the same
two_same : (ip x y : Ip4) → same_ip ip x ≡ true → same_ip ip y ≡ true → same_ip x y ≡ true
two_same ip x y h g = subst (λ (z : Ip4). same_ip z y ≡ true) (same_ip-true ip x h) g

pub apart : AddressesAreApart
apart t n m a b ip is at to h g = one_alone same_ip (same_ip ip) (two_same ip) addresses_at (nodes t) n m a b
    (subst (λ (zs : List Ip4). AreDistinct same_ip zs) (sym (of_nodes t)) is.addresses) at to h g

pub taken : OwnAddressIsTaken
taken t n a ip at h = subst (λ (zs : List Ip4). list_any (same_ip ip) zs ≡ true) (of_nodes t) (any_at (same_ip ip) addresses_at (nodes t) n a at h)

-- RULES

both : {A : Type 0} (P Q : A → Type 0) (xs : List A) → AllByRecursion P xs → AllByRecursion Q xs → AllByRecursion (λ (x : A). P x × Q x) xs
both P Q [] a b = tt
both P Q (x ∷ xs) a b = ((a.0, b.0), both P Q xs a.1 b.1)

public : (xs : List Ip4) → AllByRecursion IsIp4 xs → AllByRecursion (λ (ip : Ip4). is_global Strict ip ≡ true) xs → AllByRecursion IsPublic xs
public [] a b = tt
public (x ∷ xs) a b = (record { made = a.0; global = b.0 }, public xs a.1 b.1)

-- a server's addresses are different
servers_apart : (xs : List ServerNode) (ys : List Ip4) → AreDistinct same_ip (flat_map (λ (a : ServerNode). a.primary ∷ a.secondary ∷ []) xs ++ ys) → AllByRecursion (λ (a : ServerNode). same_ip a.primary a.secondary ≡ false) xs
servers_apart [] ys d = tt
servers_apart (x ∷ xs) ys d = (first (same_ip x.primary x.secondary) (list_any (same_ip x.primary) (flat_map (λ (a : ServerNode). a.primary ∷ a.secondary ∷ []) xs ++ ys)) d.0, servers_apart xs ys d.1.1) where
  first : (b c : Bool) → (b || c) ≡ false → b ≡ false
  first true c h = h
  first false c h = refl

server_rules : (xs : List ServerNode) → AllByRecursion IsPublic (flat_map (λ (a : ServerNode). a.primary ∷ a.secondary ∷ []) xs)
    → AllByRecursion (λ (a : ServerNode). same_ip a.primary a.secondary ≡ false) xs → AllByRecursion IsServerNode xs
server_rules [] a b = tt
server_rules (x ∷ xs) a b = (record { primary = a.0; secondary = a.1.0; apart = b.0 }, server_rules xs a.1.1 b.1)

nat_rules : (xs : List NatNode) → AllByRecursion IsPublic (map (λ (a : NatNode). a.external) xs) → AllByRecursion IsIdle xs → AllByRecursion IsNatNode xs
nat_rules [] a b = tt
nat_rules (x ∷ xs) a b = (record { external = a.0; idle = b.0 }, nat_rules xs a.1 b.1)

client_rules : (t : TopologyState) (xs : List ClientNode) → AllByRecursion (IsClient t) xs → AllByRecursion (λ (c : ClientNode). IsEp c.inside) xs → AllByRecursion (IsClientNode t) xs
client_rules t [] a b = tt
client_rules t (x ∷ xs) a b = (record { rules = a.0; inside = b.0 }, client_rules t xs a.1 b.1)

relay_rules : (xs : List RelayNode) → AllByRecursion (λ (r : RelayNode). IsEp r.at) xs → AllByRecursion IsPublic (map (λ (r : RelayNode). r.at.ip) xs) → AllByRecursion (λ (r : RelayNode). r.at.port ≡ 0 → ⊥) xs
    → AllByRecursion IsIp6 (map (λ (r : RelayNode). r.six) xs) → AllByRecursion IsOutside (map (λ (r : RelayNode). r.six) xs) → AllByRecursion IsRelayNode xs
relay_rules [] a b c d e = tt
relay_rules (x ∷ xs) a b c d e = (record { at = a.0; public = b.0; port = c.0; six = d.0; outside = e.0 }, relay_rules xs a.1 b.1 c.1 d.1 e.1)

keeps : (t : TopologyState) → IsTopology t → AllByRecursion (KeepsRules t) (nodes t)
keeps t is =
    let S = flat_map (λ (a : ServerNode). a.primary ∷ a.secondary ∷ []) t.servers in
    let N = map (λ (a : NatNode). a.external) t.nats in
    let R = map (λ (r : RelayNode). r.at.ip) t.relays in
    let all = public (addresses_of t) is.made.addresses is.global in
    let rest = all_right IsPublic S (N ++ R) all in
    let six_r = map (λ (r : RelayNode). r.six) t.relays in
    let six_n = map (λ h. h.six) t.natives in
    let natives = both (λ h. IsIp6 h.six) (λ h. IsOutside h.six) t.natives
    (all_unmapped IsIp6 (λ h. h.six) t.natives (all_right IsIp6 six_r six_n is.made.sixes))
    (all_unmapped IsOutside (λ h. h.six) t.natives (all_right IsOutside six_r six_n is.outside)) in
    all_joined (KeepsRules t) (map server t.servers) (map nat t.nats ++ (map client t.clients ++ (map relay t.relays ++ map native t.natives)))
    (all_mapped (KeepsRules t) server t.servers (server_rules t.servers (all_left IsPublic S (N ++ R) all) (servers_apart t.servers (N ++ R) is.addresses)))
    (all_joined (KeepsRules t) (map nat t.nats) (map client t.clients ++ (map relay t.relays ++ map native t.natives))
    (all_mapped (KeepsRules t) nat t.nats (nat_rules t.nats (all_left IsPublic N R rest) is.idle))
    (all_joined (KeepsRules t) (map client t.clients) (map relay t.relays ++ map native t.natives)
    (all_mapped (KeepsRules t) client t.clients (client_rules t t.clients is.each_client is.made.inside))
    (all_joined (KeepsRules t) (map relay t.relays) (map native t.natives)
    (all_mapped (KeepsRules t) relay t.relays (relay_rules t.relays is.made.at (all_right IsPublic N R rest) is.ports (all_left IsIp6 six_r six_n is.made.sixes) (all_left IsOutside six_r six_n is.outside)))
    (all_mapped (KeepsRules t) native t.natives (all_map (λ h. (IsIp6 h.six × IsOutside h.six) × _) (IsNativeNode t) t.natives (λ h p. record { six = p.0.0; outside = p.0.1; through = p.1 }) (both _ _ t.natives natives is.through))))))

pub each_node : EachNodeKeepsRules
each_node t n a is at = all_at (KeepsRules t) (nodes t) n a (keeps t is) at
