use Rattle.td_base.proofs.Words.{rules}
use Rattle.td_base.proofs.ipv6_reader.hex_digit.Goals as goal

pub returns-in-65-to-70 : goal.returns-in-65-to-70
returns-in-65-to-70 c = search rules
