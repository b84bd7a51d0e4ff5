use Rattle.icmp6.proofs.LawProofs.{options_read_back}
use Rattle.icmp6.proofs.laws.options_read_back.Goals as goal

pub returns : goal.returns
returns c = options_read_back
