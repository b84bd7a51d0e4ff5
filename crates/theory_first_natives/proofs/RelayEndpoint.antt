-- A relay beside a client that is settled along its way: it may reach the client, and its endpoint is nobody else's.
use Rattle.theory_first_natives.proofs.Words.{Ip4, IsElsewhere, IsEnd, IsOnWay, IsRelayNode, IsTopology, Lab, MayTell, Node, RelayNode, Some, Strict, addresses_are_apart, and_from, and_left, ap, arith, each_node, each_so, embedded, false, false_from_ne_true, false≢true, has_address, is_global, is_reachable, is_teredo, is_usable, nat, nat_has, nat_of, nat_tests, nats_of, node_at, not, outermost, primary_has, refl, relay, same_ep, same_ip, same_ip-self, same_ip-true, secondary_has, server, server_in, subst, sym, true, two_kinds, usable_at, ℕ, ◌==◌, ◌∙◌, ◌≡◌, ◌≢◌}
use Rattle.theory_first_packets.proofs.passing.Sides.{Side}
use Rattle.theory_first_natives.proofs.Apart.{is_relay_node}

-- node k is the relay r, and the client is at the end of its way
pub record IsBeside (lab : Lab) (a : Side) (k : ℕ) (r : RelayNode) : Type 0 where
  pub rules : IsTopology lab.topology
  pub end : IsEnd lab a.n a.c a.own
  pub there : node_at lab.topology k ≡ Some (relay r)

module _ {lab : Lab} {a : Side} {k : ℕ} {r : RelayNode} (is : IsBeside lab a k r) where
  pub reachable : is_reachable Strict a.own ≡ true
  unfolding is_reachable
  reachable = and_from (is_usable Strict (embedded a.own)) (is_global Strict (server_in a.own)) is.end.usable is.end.server_global

  pub relay_keeps : IsRelayNode r
  relay_keeps = each_node lab.topology k (relay r) is.rules is.there

  -- no node of another kind has its address
  no_other : (ip : Ip4) (n : ℕ) {b : Node} → node_at lab.topology n ≡ Some b → is_relay_node b ≡ false → has_address ip b ≡ true → same_ip r.at.ip ip ≡ false
  no_other ip n {b} at kind has = false_from_ne_true (same_ip r.at.ip ip) (λ e. two_kinds lab.topology is_relay_node is.there at refl kind
      (sym (addresses_are_apart lab.topology n k b (relay r) r.at.ip is.rules at is.there
      (subst (λ (z : Ip4). has_address z b ≡ true) (sym (same_ip-true r.at.ip ip e)) has) (rw (same_ip-self r.at.ip) refl))))

  -- so it is none of the server's
  pub no_primary : same_ip r.at.ip is.end.server_row.primary ≡ false
  no_primary = no_other is.end.server_row.primary a.c.server is.end.server_is refl (primary_has is.end.server_row)

  pub no_secondary : same_ip r.at.ip is.end.server_row.secondary ≡ false
  no_secondary = no_other is.end.server_row.secondary a.c.server is.end.server_is refl (secondary_has is.end.server_row)

  -- nor at a NAT of the client's way
  pub relay_elsewhere : IsElsewhere lab r.at.ip (nats_of lab a.c)
  relay_elsewhere = each_so (λ j (on : IsOnWay lab j). no_other (nat_of lab j).external j on.at refl
      (subst (λ (z : Ip4). has_address z (nat on.row) ≡ true) (sym on.external) (nat_has on.row))) (nats_of lab a.c) is.end.nats

  -- nor that which the client's address embeds
  pub no_loop : same_ip (embedded a.own).ip r.at.ip ≡ false
  no_loop = false_from_ne_true (same_ip (embedded a.own).ip r.at.ip) (λ e. false≢true (sym (no_other (embedded a.own).ip (outermost lab a.c)
      is.end.nat_is refl (subst (λ (z : Ip4). has_address z (nat is.end.nat_row) ≡ true) (sym is.end.external) (nat_has is.end.nat_row)))
      ∙ ap (λ (z : Ip4). same_ip r.at.ip z) (same_ip-true (embedded a.own).ip r.at.ip e) ∙ same_ip-self r.at.ip))

  -- datagrams may come from it
  pub relay_usable : is_usable Strict r.at ≡ true
  relay_usable = usable_at r.at relay_keeps.public.global (no_zero r.at.port relay_keeps.port) where
    no_zero : (n : ℕ) → n ≢ 0 → (n == 0) ≡ false
    no_zero n h = grind (arith, nat_tests)

  -- and it may tell the client's server of itself
  pub may_tell : MayTell lab is.end.server_row r.six r.at
  may_tell = record {
    rules = is.rules;
    sixteen = relay_keeps.six;
    usable = relay_usable;
    no_primary = no_primary;
    no_secondary = no_secondary;
    unforged = and_left (is_teredo r.six) (not (same_ep (embedded r.six) r.at)) relay_keeps.outside.other;
  }
