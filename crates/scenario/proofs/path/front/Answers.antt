use Rattle.scenario.proofs.Words.{arith, length-take, sym, take_all}
use Rattle.scenario.proofs.path.front.Goals as goal

pub returns-then-key-le-KEY_SHOWN-clause-value : goal.returns-then-key-le-KEY_SHOWN-clause-value
returns-then-key-le-KEY_SHOWN-clause-value c = sym (take_all 32 c.args.key.now (omega arith))

pub slice_bounds-result-end : goal.slice_bounds-result-end
slice_bounds-result-end c = omega (arith, length-take 32 c.args.key.now, c.if-key-le-KEY_SHOWN.false)

pub returns-clause-short : goal.returns-clause-short
returns-clause-short c = omega (arith, length-take 32 c.args.key.now, c.if-key-le-KEY_SHOWN.false)
