use Rattle.events.proofs.Words.{arith, length-drop, refl, sym, take_rest}
use Rattle.events.proofs.WordsLemmas.{words_from-end, words_from-cut}
use Rattle.events.proofs.event_words.next_word.Goals as goal

pub returns-then-at-text-clause-none : goal.returns-then-at-text-clause-none
returns-then-at-text-clause-none c = (refl, words_from-end c.args.words.text.now c.args.words.at (omega arith))

pub overflow_add-behind : goal.overflow_add-behind
overflow_add-behind c = omega (arith, c.ranges.words.1, length-drop c.args.words.at c.args.words.text.now)

pub overflow_add-behind-2 : goal.overflow_add-behind-2
overflow_add-behind-2 c = omega (arith, c.ranges.words.1)

pub returns-clause-found : goal.returns-clause-found
returns-clause-found c =
    rw (take_rest c.args.words.text.now c.args.words.at)
    (words_from-cut c.args.words.text.now c.args.words.at c.word_len-len.result (omega arith) (rw (sym (take_rest c.args.words.text.now c.args.words.at)) c.word_len-len.ensures.value))
