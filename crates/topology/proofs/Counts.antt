-- How many nodes there are.
use Rattle.topology.proofs.Words.{IsTopology, NODES_MAX, TopologyState, arith, client, length, length-append, length-map, map, nat, native, nodes, refl, relay, rules, server, ◌++◌, ◌+◌, ◌∙◌, ◌≡◌, ◌≤◌}

pub count : (t : TopologyState) → length (nodes t) ≡ length t.servers + (length t.nats + (length t.clients + (length t.relays + length t.natives)))
count t =
    length-append (map server t.servers) (map nat t.nats ++ (map client t.clients ++ (map relay t.relays ++ map native t.natives)))
    ∙ rw (
      length-append (map nat t.nats) (map client t.clients ++ (map relay t.relays ++ map native t.natives)),
      length-append (map client t.clients) (map relay t.relays ++ map native t.natives),
      length-append (map relay t.relays) (map native t.natives),
      length-map t.servers server,
      length-map t.nats nat,
      length-map t.clients client,
      length-map t.relays relay,
      length-map t.natives native,
    ) refl

pub few : (t : TopologyState) → IsTopology t → length (nodes t) ≤ NODES_MAX
few t rules =
    let n = count t in
    omega (arith, n, rules.servers, rules.nats, rules.clients, rules.relays, rules.natives)
