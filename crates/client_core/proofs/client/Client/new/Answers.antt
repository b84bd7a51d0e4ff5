use Rattle.client_core.proofs.Words.{mentions}
use Rattle.client_core.proofs.client.Client.new.Goals as goal

pub returns-clause-stands : goal.returns-clause-stands
unfolding mentions
returns-clause-stands c = record { qualification = c.start.ensures.stands; peers = c.new.ensures.stands }
