use Rattle.report.proofs.Words.{rules}
use Rattle.std.proofs.Common.{append_assoc}
use Rattle.report.proofs.marks.put_udp.Goals as goal

pub returns-clause-text : goal.returns-clause-text
returns-clause-text c = λ t. search (rules, append_assoc)
