use Rattle.std.proofs.Common.{sym, ◌∙◌, arith}
use Rattle.generator.proofs.Fitting.{server_fits, server_added, nat_fits, nat_added, client_fits, client_added, relay_fits, native_fits, native_added, servers_begin, nats_begin, clients_begin, natives_begin, all_made}
use Rattle.generator.proofs.nodes.generated_nodes.Goals as goal

pub loop-k-init : goal.loop-k-init
loop-k-init c = c.new-topology.ensures ∙ sym servers_begin

pub add_server-requires-clause-rules : goal.add_server-requires-clause-rules
add_server-requires-clause-rules c = server_fits c.loop-k.topology _ c.loop-k.k c.loop-k-test.true c.loop-k.invariant c.server.ensures

pub loop-k-preserved : goal.loop-k-preserved
loop-k-preserved c = server_added c.loop-k.topology _ _ c.loop-k.k c.loop-k.invariant c.server.ensures c.in_ok-add_server.ensures.ok

pub add_nat-requires-clause-rules : goal.add_nat-requires-clause-rules
add_nat-requires-clause-rules c = nat_fits c.loop-k-2.topology _ c.loop-k-2.k c.loop-k-2-test.true c.loop-k-2.invariant c.nat.ensures

pub loop-k-2-preserved : goal.loop-k-2-preserved
loop-k-2-preserved c = nat_added c.loop-k-2.topology _ _ c.loop-k-2.k c.loop-k-2.invariant c.nat.ensures c.in_ok-add_nat.ensures.ok

pub add_client-requires-clause-rules : goal.add_client-requires-clause-rules
add_client-requires-clause-rules c = client_fits c.loop-k-3.topology _ c.loop-k-3.k c.loop-k-3-test.true c.loop-k-3.invariant c.client.ensures

pub loop-k-3-preserved : goal.loop-k-3-preserved
loop-k-3-preserved c = client_added c.loop-k-3.topology _ _ c.loop-k-3.k c.loop-k-3.invariant c.client.ensures c.in_ok-add_client.ensures.ok

pub add_native-requires : goal.add_native-requires
add_native-requires c = native_fits c.loop-k-4.topology _ c.loop-k-4.k c.loop-k-4-test.true c.loop-k-4.invariant c.native.ensures

pub loop-k-4-preserved : goal.loop-k-4-preserved
loop-k-4-preserved c = native_added c.loop-k-4.topology _ _ c.loop-k-4.k c.loop-k-4.invariant c.native.ensures c.in_ok-add_native.ensures.ok

pub loop-k-2-init : goal.loop-k-2-init
loop-k-2-init c = nats_begin c.loop-k.topology c.loop-k.k c.loop-k.invariant (omega (arith, c.loop-k-test.false, c.loop-k.auto.k-end))

pub loop-k-3-init : goal.loop-k-3-init
loop-k-3-init c = clients_begin c.loop-k-2.topology c.loop-k-2.k c.loop-k-2.invariant (omega (arith, c.loop-k-2-test.false, c.loop-k-2.auto.k-end))

pub add_relay-requires-clause-rules : goal.add_relay-requires-clause-rules
add_relay-requires-clause-rules c = relay_fits c.loop-k-3.topology _ c.loop-k-3.k c.loop-k-3.invariant (omega (arith, c.loop-k-3-test.false, c.loop-k-3.auto.k-end)) c.relay.ensures

pub loop-k-4-init : goal.loop-k-4-init
loop-k-4-init c = natives_begin c.loop-k-3.topology _ _ c.loop-k-3.k c.loop-k-3.invariant (omega (arith, c.loop-k-3-test.false, c.loop-k-3.auto.k-end)) c.relay.ensures c.in_ok-add_relay.ensures.ok

pub returns : goal.returns
returns c = all_made c.loop-k-4.topology c.loop-k-4.k c.loop-k-4.invariant (omega (arith, c.loop-k-4-test.false, c.loop-k-4.auto.k-end))
