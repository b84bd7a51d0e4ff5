use Rattle.icmp6.proofs.LawProofs.{spelling_is_read}
use Rattle.icmp6.proofs.laws.spelling_is_read.Goals as goal

pub returns : goal.returns
returns c = spelling_is_read
