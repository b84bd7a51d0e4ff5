-- A word on two hosts is short.
use Rattle.reach_query.proofs.Words.{Reach, arith, length, reach_word, ◌≤◌}
use Rattle.theory_reaching.specs.declared.word.Reach.TheVariants as word

pub word_short : (w : Reach) → length (reach_word w) ≤ 9
word_short word.Off = omega arith
word_short word.Away = omega arith
word_short word.OneAddress = omega arith
word_short word.Moved = omega arith
word_short word.Lost = omega arith
word_short word.OneNat = omega arith
word_short word.Full = omega arith
word_short word.Stale = omega arith
word_short word.Barred = omega arith
word_short word.Known = omega arith
word_short word.Within1 = omega arith
word_short word.Within2 = omega arith
word_short word.Within4 = omega arith
word_short word.Within5 = omega arith
word_short word.Within6 = omega arith
word_short word.Within7 = omega arith
word_short word.Within8 = omega arith
word_short word.Within9 = omega arith
word_short word.Within10 = omega arith
word_short word.Within11 = omega arith
word_short word.Within12 = omega arith
word_short word.Within13 = omega arith
