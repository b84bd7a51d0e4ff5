use Rattle.lab_nodes.proofs.Words.{IsNoSooner, Settings, client_due, journal, subst}
use Rattle.lab_nodes.proofs.played_node.PlayedNode.quiet_until.Goals as goal

pub returns-in-Client : goal.returns-in-Client
returns-in-Client c = rw (c.in-Client.is) (λ lab H n m ready kept.
    let until = c.or_never.result.0 in
    subst (λ (s : Settings). IsNoSooner until (client_due s (journal n H) m)) kept.settings (c.quiet_until.ensures.none until c.or_never.ensures (journal n H) m kept.stands ready))

pub returns-in-Relay : goal.returns-in-Relay
returns-in-Relay c = rw (c.in-Relay.is) (λ lab H n m ready kept.
    c.quiet_until-in-Relay.ensures.none c.or_never-in-Relay.result.0 c.or_never-in-Relay.ensures (journal n H).entries m kept.stands ready)
