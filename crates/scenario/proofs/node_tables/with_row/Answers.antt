use Rattle.scenario.proofs.Words.{HasNoneBehind, IsTopology, NodeKind, TopologyState, most_rows, row_count, subst, sym, ◌<◌}
use Rattle.scenario.proofs.Grown.{grown_server, grown_nat, grown_client, grown_relay, grown_native}
use Rattle.scenario.proofs.FreshRows.{server_of_table-fresh, nat_of_table-fresh, client_of_table-fresh, relay_of_table-fresh, native_of_table-fresh}
use Rattle.scenario.proofs.node_tables.with_row.Goals as goal

abbrev HasRoom : TopologyState → NodeKind → Type 0
HasRoom t kind = row_count kind t < most_rows kind

abbrev IsNext : TopologyState → NodeKind → Type 0
IsNext t kind = HasNoneBehind kind t

pub add_server-requires-clause-rules : goal.add_server-requires-clause-rules
add_server-requires-clause-rules c =
    let t = c.args.topology in
    let fresh = server_of_table-fresh t _ _ c.in_ok-server-in-Server.server (sym c.in_ok-server-in-Server.ensures) in
    grown_server t c.in_ok-server-in-Server.server (subst IsTopology c.topology.view_is c.topology.invariant) fresh (subst (HasRoom t) c.in-Server.is c.requires.room) (subst (IsNext t) c.in-Server.is c.requires.order)

pub add_nat-requires-clause-rules : goal.add_nat-requires-clause-rules
add_nat-requires-clause-rules c =
    let t = c.args.topology in
    let fresh = nat_of_table-fresh t _ _ c.in_ok-nat-in-Nat.nat (sym c.in_ok-nat-in-Nat.ensures) in
    grown_nat t c.in_ok-nat-in-Nat.nat (subst IsTopology c.topology.view_is c.topology.invariant) fresh (subst (HasRoom t) c.in-Nat.is c.requires.room) (subst (IsNext t) c.in-Nat.is c.requires.order)

pub add_client-requires-clause-rules : goal.add_client-requires-clause-rules
add_client-requires-clause-rules c =
    let t = c.args.topology in
    let fresh = client_of_table-fresh t _ _ c.in_ok-client-in-Client.client (sym c.in_ok-client-in-Client.ensures) in
    grown_client t c.in_ok-client-in-Client.client (subst IsTopology c.topology.view_is c.topology.invariant) fresh (subst (HasRoom t) c.in-Client.is c.requires.room) (subst (IsNext t) c.in-Client.is c.requires.order)

pub add_relay-requires-clause-rules : goal.add_relay-requires-clause-rules
add_relay-requires-clause-rules c =
    let t = c.args.topology in
    let fresh = relay_of_table-fresh t _ _ c.in_ok-relay-in-Relay.relay (sym c.in_ok-relay-in-Relay.ensures) in
    grown_relay t c.in_ok-relay-in-Relay.relay (subst IsTopology c.topology.view_is c.topology.invariant) fresh (subst (HasRoom t) c.in-Relay.is c.requires.room) (subst (IsNext t) c.in-Relay.is c.requires.order)

pub add_native-requires : goal.add_native-requires
add_native-requires c =
    let t = c.args.topology in
    let fresh = native_of_table-fresh t _ _ c.in_ok-native-in-Native.native (sym c.in_ok-native-in-Native.ensures) in
    grown_native t c.in_ok-native-in-Native.native (subst IsTopology c.topology.view_is c.topology.invariant) fresh (subst (HasRoom t) c.in-Native.is c.requires.room)
