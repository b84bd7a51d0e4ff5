use Rattle.td_base.proofs.Words.{decimal_digit}
use Rattle.td_base.proofs.DigitPairs.{decimal_two}
use Rattle.td_base.proofs.digits.write_two.Goals as goal

pub returns-then-number-lt10-clause-text : goal.returns-then-number-lt10-clause-text
returns-then-number-lt10-clause-text c = rw (c.write_byte.ensures.text, decimal_digit c.args.number c.if-number-lt10.true)

pub returns-clause-text : goal.returns-clause-text
returns-clause-text c = rw (c.write_pair.ensures.text, decimal_two c.args.number c.if-number-lt10.false c.requires.0)
