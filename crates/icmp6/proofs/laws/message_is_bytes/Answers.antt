use Rattle.icmp6.proofs.LawProofs.{message_is_bytes}
use Rattle.icmp6.proofs.laws.message_is_bytes.Goals as goal

pub returns : goal.returns
returns c = message_is_bytes
