use Rattle.events.proofs.Words.{arith, refl}
use Rattle.events.proofs.WordsLemmas.{words_from-end, words_from-cut}
use Rattle.events.proofs.event_words.no_more.Goals as goal

pub returns-then-words : goal.returns-then-words
returns-then-words c = rw (words_from-end c.args.words.text.now c.args.words.at (omega arith)) refl

pub returns : goal.returns
returns c = rw (words_from-cut c.args.words.text.now c.args.words.at _ (omega arith) refl) refl
