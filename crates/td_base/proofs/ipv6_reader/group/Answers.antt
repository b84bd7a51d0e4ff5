use Rattle.td_base.proofs.Words.{arith, sym, take, take_rest}
use Rattle.std.proofs.lemmas.List.{length-take-le, take-append-drop}
use Rattle.td_base.proofs.ipv6_reader.group.Goals as goal

pub returns-clause-found : goal.returns-clause-found
returns-clause-found c =
    let f = c.front_group-number.ensures in
    let len = length-take-le c.front_group-number.result.1 c.args.text.now f.within in
    rw (take_rest c.args.text.now c.front_group-number.result.1) (
      take c.front_group-number.result.1 c.args.text.now,
      ((omega (arith, len, c.if-len-eq0.false), f.digits), f.value, omega (arith, len, f.short)),
      sym (take-append-drop c.front_group-number.result.1 c.args.text.now),
      rw len f.stops,
    )
