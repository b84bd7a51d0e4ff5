use Rattle.td_pcap.proofs.LawProofs.{capture_has_no_fault}
use Rattle.td_pcap.proofs.laws.capture_has_no_fault.Goals as goal

pub returns : goal.returns
returns c = capture_has_no_fault
