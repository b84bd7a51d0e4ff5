use Rattle.client_core.proofs.Words.{◌∙◌}
use Rattle.client_core.proofs.Read.{read_same}
use Rattle.client_core.proofs.client.Client.peers.Goals as goal

pub returns-clause-count : goal.returns-clause-count
returns-clause-count c = λ j stands. c.count.ensures.count ∙ (read_same c.args.self.now j c.args.now.0 stands c.requires.clock).count
