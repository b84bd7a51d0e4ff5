use Rattle.td_pcap.proofs.LawProofs.{capture_is_bytes}
use Rattle.td_pcap.proofs.laws.capture_is_bytes.Goals as goal

pub returns : goal.returns
returns c = capture_is_bytes
