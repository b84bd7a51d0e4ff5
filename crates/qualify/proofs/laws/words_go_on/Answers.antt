use Rattle.qualify.proofs.Streams.{words_after, after_after}
use Rattle.qualify.proofs.laws.words_go_on.Goals as goal

pub returns : goal.returns
returns c = record { words = words_after; place = after_after }
