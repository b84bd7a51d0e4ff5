use Rattle.td_ipv4.proofs.SumLaws.{checksums_verify}
use Rattle.td_ipv4.proofs.laws.checksums_verify.Goals as goal

pub returns : goal.returns
returns c = checksums_verify
