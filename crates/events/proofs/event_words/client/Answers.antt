use Rattle.events.proofs.Words.{rules}
use Rattle.events.proofs.event_words.client.Goals as goal

pub returns : goal.returns
returns c = search rules
