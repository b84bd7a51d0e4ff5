use Rattle.indications.proofs.Words.{arith, sym}
use Rattle.indications.proofs.FoundLaws.{origin_bytes_len}
use Rattle.indications.proofs.writer.origin_len.Goals as goal

pub returns-in-Some-clause-whole : goal.returns-in-Some-clause-whole
returns-in-Some-clause-whole c = rw c.in-Some.is (sym (origin_bytes_len c.in-Some.ep (omega arith)))
