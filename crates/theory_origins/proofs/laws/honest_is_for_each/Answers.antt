use Rattle.theory_origins.proofs.LawProofs.{honest_is_for_each}
use Rattle.theory_origins.proofs.laws.honest_is_for_each.Goals as goal

pub returns : goal.returns
returns c = honest_is_for_each
