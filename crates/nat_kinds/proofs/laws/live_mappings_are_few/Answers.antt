use Rattle.nat_kinds.proofs.LawProofs.{live_mappings_are_few, live_ports_are_in_range}
use Rattle.nat_kinds.proofs.laws.live_mappings_are_few.Goals as goal

pub returns-clause-few : goal.returns-clause-few
returns-clause-few c = live_mappings_are_few

pub returns-clause-ports : goal.returns-clause-ports
returns-clause-ports c = live_ports_are_in_range
