use Rattle.lab_nodes.proofs.Words.{rules}
use Rattle.lab_nodes.proofs.client.gives_address.Goals as goal

pub returns-in-Changed : goal.returns-in-Changed
returns-in-Changed c = search rules
