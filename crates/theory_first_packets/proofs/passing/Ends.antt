-- What the premise says of a settled client: the NATs of its way, its server, and what its address embeds.
use Rattle.theory_first_packets.proofs.Words.{AllByRecursion, ClientNode, Ep, FIRST_PORT, Full, Grown, Ip4, Ip6, IsChained, IsEp, IsNatNode, IsServerNode, IsSettledAlong, IsTopology, Lab, List, NatNode, ServerNode, Some, Strict, [], addresses_are_apart, and_from, ap, arith, asks_at, client, client_at, client_is_there, client_made, client_settings, counting_datagram_holds_its_port, each_node, embedded, enters_by_its_way, false, has_address, is_global, is_inner, is_usable, journal, live_ports_are_in_range, nat, nat_history, nat_of, nat_tests, nats_of, node_at, not, now, outer_nats_of, outermost, server, server_in, set_up_past, subst, sym, true, wire_is_made, ℕ, ◌==◌, ◌∙◌, ◌∷◌, ◌≡◌, ◌≤◌}
use Rattle.theory_first_packets.proofs.passing.WaysIn.{WayIn, asked_along}
use Rattle.theory_first_packets.proofs.passing.OnWay.{IsOnWay, all_on_way, last_address, last_so, IsLastOrInner, inner_but_last}
use Rattle.theory_first_packets.proofs.passing.Addresses.{IsTold, own_address_is, nat_has}

-- THE END

-- node n is client c with the address own, whose NATs and server these are
pub record IsEnd (lab : Lab) (n : ℕ) (c : ClientNode) (own : Ip6) : Type 0 where
  pub there : node_at lab.topology n ≡ Some (client c)
  pub nats : AllByRecursion (IsOnWay lab) (nats_of lab c)
  pub places : AllByRecursion (IsLastOrInner lab (outermost lab c)) (nats_of lab c)
  pub nat_row : NatNode
  pub nat_is : node_at lab.topology (outermost lab c) ≡ Some (nat nat_row)
  pub outside : is_inner lab.chain (outermost lab c) ≡ false
  pub external : (embedded own).ip ≡ nat_row.external
  pub server_row : ServerNode
  pub server_is : node_at lab.topology c.server ≡ Some (server server_row)
  pub primary : (client_settings lab.topology c).primary ≡ server_row.primary
  pub secondary : (client_settings lab.topology c).secondary ≡ server_row.secondary
  pub address : IsTold (client_settings lab.topology c) own
  pub made : IsEp (embedded own)
  pub usable : is_usable Strict (embedded own) ≡ true
  pub server_global : is_global Strict (server_in own) ≡ true

-- a port that is held isn't 0
high_port : (p : ℕ) → FIRST_PORT ≤ p → (p == 0) ≡ false
high_port p h = let f : 1024 ≤ p = h in grind (arith, nat_tests)

-- an endpoint with a global address and a port
pub usable_at : (e : Ep) → is_global Strict e.ip ≡ true → (e.port == 0) ≡ false → is_usable Strict e ≡ true
unfolding is_usable
usable_at e global port = and_from (is_global Strict e.ip) (not (e.port == 0)) global (ap not port)

-- it is settled after a history
pub record Settles (lab : Lab) (H : List Full) (n : ℕ) (c : ClientNode) (own : Ip6) : Type 0 where
  pub rules : IsTopology lab.topology
  pub chained : IsChained lab
  pub grown : Grown lab H
  pub client : client_at lab.topology n ≡ Some c
  pub settled : IsSettledAlong lab H n c own

module _ (lab : Lab) (H : List Full) (n : ℕ) (c : ClientNode) (own : Ip6) (s : Settles lab H n c own) where
  abbrev is : IsTopology lab.topology
  is = s.rules

  abbrev g : Grown lab H
  g = s.grown

  abbrev settled : IsSettledAlong lab H n c own
  settled = s.settled

  -- what its server sends is let in
  pub way_of_server : WayIn lab H (asks_at lab c) (nats_of lab c) c.inside (embedded own)
  way_of_server = asked_along lab H g (asks_at lab c) (nats_of lab c) c.inside (embedded own)
      (enters_by_its_way lab H (now H) (asks_at lab c) (embedded own) c s.chained settled.reached)

  nats : AllByRecursion (IsOnWay lab) (nats_of lab c)
  nats = all_on_way lab H (asks_at lab c) (nats_of lab c) c.inside (embedded own) way_of_server

  -- the outermost of them
  last : IsOnWay lab (outermost lab c)
  last = last_so (IsOnWay lab) c.nat (outer_nats_of lab c) nats

  external : (embedded own).ip ≡ last.row.external
  external = last_address lab H (asks_at lab c) c.nat (outer_nats_of lab c) c.inside (embedded own) way_of_server ∙ last.external

  -- is the one that lets its server's datagrams in
  is_outer : settled.reached.outer ≡ outermost lab c
  is_outer = addresses_are_apart lab.topology settled.reached.outer (outermost lab c) (nat settled.reached.row) (nat last.row) (embedded own).ip is
      settled.reached.there last.at
      (subst (λ (z : Ip4). has_address z (nat settled.reached.row) ≡ true) (sym settled.reached.external) (nat_has settled.reached.row))
      (subst (λ (z : Ip4). has_address z (nat last.row) ≡ true) (sym external) (nat_has last.row))

  there : node_at lab.topology n ≡ Some (client c)
  there = client_is_there.node lab.topology n c s.client

  -- its address is made of its server's and an endpoint
  own_is : IsTold (client_settings lab.topology c) own
  own_is = own_address_is (client_settings lab.topology c) (journal n H) own (client_made lab.topology n c is there)
      ((wire_is_made lab H is g).journals n) settled.address

  -- its port is one that a NAT gives
  port_given : (k : ℕ) (way : List ℕ) {inside : Ep} → WayIn lab H (asks_at lab c) (k ∷ way) inside (embedded own) → FIRST_PORT ≤ (embedded own).port
  port_given k [] w = subst (λ (e : Ep). FIRST_PORT ≤ e.port) w.3
      (live_ports_are_in_range (nat_of lab k) (nat_history lab k H) (now H) (set_up_past lab H k g) w.2.datagram.inside w.2.datagram.dst w.0.port
      (counting_datagram_holds_its_port (nat_of lab k) (nat_history lab k H) (now H) (set_up_past lab H k g) w.2.datagram w.2.counts ∙ ap (λ (p : ℕ). Some p) w.2.by_port)).0
  port_given k (j ∷ way) w = port_given j way w.3

  -- all of it
  pub is_end : IsEnd lab n c own
  is_end =
      let p = client_is_there.server_of lab.topology n c is there in
      let nat_keeps : IsNatNode last.row = each_node lab.topology (outermost lab c) (nat last.row) is last.at in
      let server_keeps : IsServerNode p.row = each_node lab.topology c.server (server p.row) is p.there in
      record {
        there = there;
        nats = nats;
        places = inner_but_last lab lab.chain c.nat;
        nat_row = last.row;
        nat_is = last.at;
        outside = ap (λ (k : ℕ). is_inner lab.chain k) (sym is_outer) ∙ settled.reached.outermost;
        external = external;
        server_row = p.row;
        server_is = p.there;
        primary = p.primary;
        secondary = p.secondary;
        address = own_is;
        made = subst IsEp (sym own_is.of.mapped_is) own_is.made;
        usable = usable_at (embedded own) (subst (λ (ip : Ip4). is_global Strict ip ≡ true) (sym external) nat_keeps.external.global)
            (high_port (embedded own).port (port_given c.nat (outer_nats_of lab c) way_of_server));
        server_global = subst (λ (ip : Ip4). is_global Strict ip ≡ true) (sym (own_is.of.server_is ∙ p.primary)) server_keeps.primary.global;
      }
