use Rattle.theory_ways.proofs.LawProofs.{addresses_differ}
use Rattle.theory_ways.proofs.laws.addresses_differ.Goals as goal

pub returns : goal.returns
returns c = addresses_differ
