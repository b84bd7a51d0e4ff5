use Rattle.td_base.proofs.Words.{arith}
use Rattle.std.proofs.Common.{append_assoc}
use Rattle.td_base.proofs.DigitPairs.{decimal_pair}
use Rattle.td_base.proofs.digits.write_four.Goals as goal

pub returns-clause-text : goal.returns-clause-text
returns-clause-text c =
    rw (c.write_pair.ensures.text, c.write_two-at.ensures.text, append_assoc, decimal_pair c.args.number c.if-number-lt100.false (omega arith))
