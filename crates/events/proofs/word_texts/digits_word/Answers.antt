use Rattle.events.proofs.Words.{arith, eqb-true, sym, ◌∙◌}
use Rattle.events.proofs.HexWords.{hex_of-long, hex_of-none}
use Rattle.events.proofs.word_texts.digits_word.Goals as goal

pub returns-then-is_empty : goal.returns-then-is_empty
returns-then-is_empty c = sym (hex_of-none _ _ (eqb-true _ 0 (sym c.is_empty.ensures ∙ c.if-is_empty.true)))

pub returns-then-len-most : goal.returns-then-len-most
returns-then-len-most c = sym (hex_of-long _ _ (omega arith))
