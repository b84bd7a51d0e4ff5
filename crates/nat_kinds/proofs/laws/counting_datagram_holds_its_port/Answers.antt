use Rattle.nat_kinds.proofs.LawProofs.{counting_datagram_holds_its_port}
use Rattle.nat_kinds.proofs.laws.counting_datagram_holds_its_port.Goals as goal

pub returns : goal.returns
returns c = counting_datagram_holds_its_port
