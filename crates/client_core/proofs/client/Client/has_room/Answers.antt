use Rattle.client_core.proofs.Words.{◌∙◌}
use Rattle.client_core.proofs.Read.{read_same}
use Rattle.client_core.proofs.client.Client.has_room.Goals as goal

pub returns : goal.returns
returns c = λ j stands. c.has_room.ensures ∙ (read_same c.args.self.now j c.args.now.0 stands c.requires.clock).room c.args.who
