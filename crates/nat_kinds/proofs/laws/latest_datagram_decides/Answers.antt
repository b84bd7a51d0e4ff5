use Rattle.nat_kinds.proofs.LawProofs.{latest_datagram_decides}
use Rattle.nat_kinds.proofs.laws.latest_datagram_decides.Goals as goal

pub returns : goal.returns
returns c = latest_datagram_decides
