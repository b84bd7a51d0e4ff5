use Rattle.legal.proofs.LawProofs.{gives_packet}
use Rattle.legal.proofs.laws.gives_packet.Goals as goal

pub returns : goal.returns
returns c = gives_packet
