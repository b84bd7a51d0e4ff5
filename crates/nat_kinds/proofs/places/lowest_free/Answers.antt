use Rattle.nat_kinds.proofs.Words.{arith}
use Rattle.nat_kinds.proofs.FrontLemmas.{live_by_port}
use Rattle.nat_kinds.proofs.places.lowest_free.Goals as goal

pub returns-then-front-eq-MAPPINGS_MAX-clause-all : goal.returns-then-front-eq-MAPPINGS_MAX-clause-all
returns-then-front-eq-MAPPINGS_MAX-clause-all c = λ q l m. live_by_port c.args.idle c.args.now.0 c.args.places.now c.move_on.new.front c.move_on.ensures.live q l (omega (arith, c.if-front-eq-MAPPINGS_MAX.true, m))

pub returns-clause-lowest : goal.returns-clause-lowest
returns-clause-lowest c = live_by_port c.args.idle c.args.now.0 c.args.places.now c.move_on.new.front c.move_on.ensures.live
