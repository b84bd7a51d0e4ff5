use Rattle.td_base.proofs.Words.{arith}
use Rattle.std.proofs.Common.{append_assoc}
use Rattle.td_base.proofs.DigitPairs.{decimal_four}
use Rattle.td_base.proofs.digits.write_eight.Goals as goal

pub returns-clause-text : goal.returns-clause-text
returns-clause-text c =
    rw (
      c.write_pair.ensures.text,
      c.write_pair-at.ensures.text,
      c.write_four-at.ensures.text,
      append_assoc,
      append_assoc,
      decimal_four c.args.number c.if-number-lt10000.false (omega arith),
    )
