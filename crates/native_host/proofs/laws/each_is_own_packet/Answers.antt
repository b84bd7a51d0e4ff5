use Rattle.native_host.proofs.LawProofs.{each_is_own_packet}
use Rattle.native_host.proofs.laws.each_is_own_packet.Goals as goal

pub returns : goal.returns
returns c = each_is_own_packet
