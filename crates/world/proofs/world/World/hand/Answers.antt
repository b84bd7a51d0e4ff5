use Rattle.world.proofs.Words.{numbered, played, refl}
use Rattle.world.proofs.Hands.{hands}
use Rattle.world.proofs.Routes.{there_within}
use Rattle.world.proofs.world.World.hand.Goals as goal

pub returns-clause-plays : goal.returns-clause-plays
returns-clause-plays c = λ d H s e quiet mild.
    let w = c.args.self.now in
    let here = there_within w.topology w.nodes c.args.number s.nodes.rows c.requires.within in
    hands d w c.act.new.self H (numbered c.args.out.now.event e) c.args.verb c.args.number c.args.bytes.now here.0 (played c.act.result c.act.new.out) s here.1
    (c.act.ensures.plays d H (record { nodes = s.nodes; nats = s.nats; wire = s.wire; armed = s.armed }) e quiet mild here.0 here.1)
