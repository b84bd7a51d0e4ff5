use Rattle.std.proofs.Common.{rules}
use Rattle.td_base.specs.Ip4.{same_ip}
use Rattle.td_base.specs.Ip6.{same_ip6}
use Rattle.topology.specs.Names.{same_name}
use Rattle.td_base.specs.Reach.{is_global, is_global6}
use Rattle.topology.specs.NodeNames.{is_name}
use Rattle.teredo_addr.specs.Teredo.{is_teredo}
use Rattle.laboratory_tests.proofs.sample.nodes.Goals as goal

pub add_server-requires-clause-rules : goal.add_server-requires-clause-rules
unfolding same_ip is_global is_name
add_server-requires-clause-rules c = rw c.new-t.ensures (search rules)

pub add_nat-requires-clause-rules : goal.add_nat-requires-clause-rules
unfolding is_name same_name same_ip is_global
add_nat-requires-clause-rules c = rw (c.in_ok-add_server.ensures.ok, c.new-t.ensures) (search rules)

pub add_nat-requires-2-clause-rules : goal.add_nat-requires-2-clause-rules
unfolding is_name same_name same_ip is_global
add_nat-requires-2-clause-rules c = rw (c.in_ok-add_nat.ensures.ok, c.in_ok-add_server.ensures.ok, c.new-t.ensures) (search rules)

pub add_client-requires-clause-rules : goal.add_client-requires-clause-rules
unfolding is_name same_name same_ip is_global
add_client-requires-clause-rules c = rw (c.in_ok-add_nat-2.ensures.ok, c.in_ok-add_nat.ensures.ok, c.in_ok-add_server.ensures.ok, c.new-t.ensures) (search rules)

pub add_relay-requires-clause-rules : goal.add_relay-requires-clause-rules
unfolding is_name same_name same_ip is_global is_global6 is_teredo
add_relay-requires-clause-rules c = rw (c.in_ok-add_client.ensures.ok, c.in_ok-add_nat-2.ensures.ok, c.in_ok-add_nat.ensures.ok, c.in_ok-add_server.ensures.ok, c.new-t.ensures) (search rules)

pub add_native-requires : goal.add_native-requires
unfolding is_name same_name same_ip same_ip6 is_global is_global6 is_teredo
add_native-requires c = rw (c.in_ok-add_relay.ensures.ok, c.in_ok-add_client.ensures.ok, c.in_ok-add_nat-2.ensures.ok, c.in_ok-add_nat.ensures.ok, c.in_ok-add_server.ensures.ok, c.new-t.ensures) (search rules)
