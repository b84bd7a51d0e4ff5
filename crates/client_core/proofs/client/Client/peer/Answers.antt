use Rattle.client_core.proofs.Words.{Option, Peer, ap, is_some, listed_is_known, mentions, ◌∙◌}
use Rattle.client_core.proofs.Read.{read_same}
use Rattle.client_core.proofs.client.Client.peer.Goals as goal

pub returns-clause-listed : goal.returns-clause-listed
returns-clause-listed c = λ j stands.
    ap (λ (o : Option Peer). is_some o) (c.find.ensures ∙ (read_same c.args.self.now j c.args.now.0 stands c.requires.clock).peer c.args.who)
    ∙ listed_is_known (mentions j.entries) c.args.now.0 c.args.who
