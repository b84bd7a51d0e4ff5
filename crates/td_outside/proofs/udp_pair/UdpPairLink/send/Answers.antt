use Rattle.td_outside.proofs.Words.{rules}
use Rattle.td_outside.proofs.udp_pair.UdpPairLink.send.Goals as goal

pub returns-clause-cause : goal.returns-clause-cause
returns-clause-cause g c = search rules

pub returns-clause-state : goal.returns-clause-state
returns-clause-state g c = search rules
