use Rattle.relay_core.proofs.Words.{◌∙◌}
use Rattle.relay_core.proofs.relay.Relay.latest_peer.Goals as goal

pub returns : goal.returns
returns c = λ j stands. c.latest.ensures ∙ stands.peers.latest
