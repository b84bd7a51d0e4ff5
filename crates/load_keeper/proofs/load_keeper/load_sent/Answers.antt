use Rattle.load_keeper.proofs.Words.{arith}
use Rattle.load_keeper.proofs.Loops.{sent_first, sent_last, sent_none}
use Rattle.load_keeper.proofs.load_keeper.load_sent.Goals as goal

pub returns-then-i-released : goal.returns-then-i-released
returns-then-i-released c = sent_first c.args.released.now c.args.last c.args.i c.if-i-released.true

pub returns-then-i-released-2 : goal.returns-then-i-released-2
returns-then-i-released-2 c = sent_last c.args.released.now c.args.last c.args.i (omega (arith, c.if-i-released-2.true))

pub returns : goal.returns
returns c = sent_none c.args.released.now c.args.last c.args.i (omega (arith, c.if-i-released.false)) c.if-i-released-2.false
