use Rattle.relay_core.proofs.Words.{Option, Peer, ap, is_some, listed_is_known, relay_mentions, rules, ◌∙◌}
use Rattle.relay_core.proofs.Read.{read_same}
use Rattle.relay_core.proofs.relay.Relay.peer.Goals as goal

pub returns-clause-known : goal.returns-clause-known
returns-clause-known c = search rules

pub returns-clause-listed : goal.returns-clause-listed
returns-clause-listed c = λ j stands.
    ap (λ (o : Option Peer). is_some o) (c.find.ensures ∙ (read_same c.args.self.now j c.args.now.0 stands c.requires.clock).peer c.args.who)
    ∙ listed_is_known (relay_mentions j) c.args.now.0 c.args.who
