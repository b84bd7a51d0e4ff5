use Rattle.client_core.proofs.Words.{◌∙◌}
use Rattle.client_core.proofs.client.Client.latest_peer.Goals as goal

pub returns : goal.returns
returns c = λ j stands. c.latest.ensures ∙ stands.peers.latest
