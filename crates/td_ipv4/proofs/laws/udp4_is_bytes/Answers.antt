use Rattle.td_ipv4.proofs.LawProofs.{udp4_is_bytes}
use Rattle.td_ipv4.proofs.laws.udp4_is_bytes.Goals as goal

pub returns : goal.returns
returns c = udp4_is_bytes
