use Rattle.td_ipv4.proofs.LawProofs.{udp4_is_spelled}
use Rattle.td_ipv4.proofs.laws.udp4_is_spelled.Goals as goal

pub returns : goal.returns
returns c = udp4_is_spelled
