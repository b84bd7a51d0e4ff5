use Rattle.td_pcap.proofs.Words.{rules}
use Rattle.td_pcap.proofs.writer.magic_of.Goals as goal

pub returns-then-nano : goal.returns-then-nano
returns-then-nano c = search rules
