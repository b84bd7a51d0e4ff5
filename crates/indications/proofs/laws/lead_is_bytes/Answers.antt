use Rattle.indications.proofs.LawProofs.{lead_is_bytes}
use Rattle.indications.proofs.laws.lead_is_bytes.Goals as goal

pub returns : goal.returns
returns c = lead_is_bytes
