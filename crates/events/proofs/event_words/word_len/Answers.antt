use Rattle.events.proofs.Words.{None, Some, space}
use Rattle.events.proofs.WordsLemmas.{ends_at}
use Rattle.events.proofs.event_words.word_len.Goals as goal

pub returns-in-Some-clause-value : goal.returns-in-Some-clause-value
returns-in-Some-clause-value c = ends_at space c.args.text.now (Some c.in-Some.len) c.in-Some.ensures

pub returns-in-None-clause-value : goal.returns-in-None-clause-value
returns-in-None-clause-value c = ends_at space c.args.text.now None c.in-None.ensures
