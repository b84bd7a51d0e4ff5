use Rattle.client_core.proofs.Words.{mentions}
use Rattle.client_core.proofs.client.Client.restart.Goals as goal

pub returns-clause-stands : goal.returns-clause-stands
unfolding mentions
returns-clause-stands c = record { qualification = c.start-self.ensures.stands; peers = c.clear.ensures.stands }
