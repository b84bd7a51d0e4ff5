use Rattle.std.proofs.Common.{rules}
use Rattle.td_base.specs.Ip4.{same_ip}
use Rattle.td_base.specs.Reach.{is_global}
use Rattle.topology.specs.NodeNames.{is_name}
use Rattle.program_tests.proofs.nodes.one_long_server.Goals as goal

pub add_server-requires-clause-rules : goal.add_server-requires-clause-rules
unfolding same_ip is_global is_name
add_server-requires-clause-rules c = rw c.new-t.ensures (search rules)
