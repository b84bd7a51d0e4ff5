use Rattle.std.proofs.Common.{append_assoc}
use Rattle.td_base.proofs.DigitPairs.{pair_at}
use Rattle.td_base.proofs.digits.write_pair.Goals as goal

pub returns-clause-text : goal.returns-clause-text
returns-clause-text c =
    let p = pair_at c.args.pair c.requires.0 in
    rw (c.write_byte.ensures.text, c.write_byte-at.ensures.text, p.0, p.1, append_assoc)
