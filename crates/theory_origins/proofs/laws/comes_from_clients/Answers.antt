use Rattle.theory_origins.proofs.LawProofs.{comes_from_clients}
use Rattle.theory_origins.proofs.laws.comes_from_clients.Goals as goal

pub returns : goal.returns
returns c = comes_from_clients
