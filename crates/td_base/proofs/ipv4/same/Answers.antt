use Rattle.td_base.proofs.Words.{arith}
use Rattle.td_base.proofs.NumberLemmas.{one_number}
use Rattle.td_base.proofs.ipv4.same.Goals as goal

pub returns : goal.returns
returns c =
    let a = c.number.ensures in
    let b = c.number-2.ensures in
    one_number c.args.a c.args.b _ _ (omega arith, a.bytes) (omega arith, b.bytes) a.number b.number
