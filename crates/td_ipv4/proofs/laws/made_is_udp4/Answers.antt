use Rattle.td_ipv4.proofs.LawProofs.{made_is_udp4}
use Rattle.td_ipv4.proofs.laws.made_is_udp4.Goals as goal

pub returns : goal.returns
returns c = made_is_udp4
