use Rattle.indications.proofs.Words.{rules}
use Rattle.indications.proofs.writer.put_nonce.Goals as goal

pub returns-clause-put : goal.returns-clause-put
returns-clause-put c = search rules
