use Rattle.qualify.proofs.LawProofs.{seed_gives_words}
use Rattle.qualify.proofs.laws.seed_gives_words.Goals as goal

pub returns : goal.returns
returns c = seed_gives_words
