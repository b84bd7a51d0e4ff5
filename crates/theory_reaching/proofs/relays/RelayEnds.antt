-- What is so of a settled client, a native host and its relay: the client's way and server, and that the relay's endpoint is nobody else's.
use Rattle.theory_reaching.proofs.Words.{Ip6, IsBeside, IsElsewhere, IsEnd, IsHere, IsNativeNode, IsRelayNode, IsSettledAlong, Settles, Some, Strict, WayIn, address_at, ap, as_client, asks_at, client_settings, each_node, embedded, false, from_no_server, is_end, is_from_server, is_here, is_reachable, journal, native, nats_of, node_at, option_and_then, relay, same_ip, true, way_of_server, ◌≡◌}
use Rattle.theory_first_packets.proofs.passing.Sides.{Side}
use Rattle.theory_first_natives.proofs.RelayEndpoint as endpoint
use Rattle.theory_reaching.proofs.clients.SettledClients.{settled_along}
use Rattle.theory_reaching.proofs.relays.Relays.{RelayedHosts, relay_is_there}

module _ (the : RelayedHosts) where
  open the use {lab, H, n, m, c, h, r, are}

  abbrev own : Ip6
  own = address_at lab H n

  abbrev pub c_side : Side
  c_side = record { n = n; c = c; own = own }

  -- THE CLIENT

  pub along : IsSettledAlong lab H n c own
  along = settled_along lab H n c are.client_is are.settled

  settles : Settles lab H n c own
  settles = record {
    rules = are.rules;
    chained = are.chained;
    grown = are.grown;
    client = ap (option_and_then as_client) are.client_is;
    settled = along;
  }

  pub end : IsEnd lab n c own
  end = is_end lab H n c own settles

  pub here : IsHere (client_settings lab.topology c) (journal n H) own
  here = is_here lab H n c own (record { grown = are.grown; there = are.client_is; address = along.address })

  pub way : WayIn lab H (asks_at lab c) (nats_of lab c) c.inside (embedded own)
  way = way_of_server lab H n c own settles

  -- THE RELAY

  pub relay_there : node_at lab.topology h.relay ≡ Some (relay r)
  relay_there = relay_is_there lab.topology h.relay r are.relay_is

  -- it stands beside the client
  abbrev pub beside : IsBeside lab c_side h.relay r
  beside = record { rules = are.rules; end = end; there = relay_there }

  pub reachable : is_reachable Strict own ≡ true
  reachable = endpoint.reachable beside

  pub relay_keeps : IsRelayNode r
  relay_keeps = endpoint.relay_keeps beside

  pub native_keeps : IsNativeNode lab.topology h
  native_keeps = each_node lab.topology m (native h) are.rules are.host_is

  -- its endpoint isn't that of the client's server
  pub no_primary : same_ip r.at.ip end.server_row.primary ≡ false
  no_primary = endpoint.no_primary beside

  pub no_secondary : same_ip r.at.ip end.server_row.secondary ≡ false
  no_secondary = endpoint.no_secondary beside

  pub no_server : is_from_server (client_settings lab.topology c) r.at ≡ false
  no_server = from_no_server lab c_side end r.at no_primary no_secondary

  -- nor at a NAT of the client's way
  pub relay_elsewhere : IsElsewhere lab r.at.ip (nats_of lab c)
  relay_elsewhere = endpoint.relay_elsewhere beside

  -- nor that which the client's address embeds
  pub no_loop : same_ip (embedded own).ip r.at.ip ≡ false
  no_loop = endpoint.no_loop beside
