use Rattle.reach_query.proofs.Words.{◌==◌}
use Rattle.reach_query.proofs.Shown.{outermost_shown}
use Rattle.reach_query.proofs.two_clients.have_one_nat.Goals as goal

pub returns : goal.returns
returns c = λ d H s sender receiver.
    let chain = c.nats-nats.result.now.chain in
    let nats = c.nats-nats.ensures in
    let outer = outermost_shown d c.args.world.now chain c.args.a.row c.outermost-outer.result nats.chain c.outermost-outer.ensures in
    let other_outer = outermost_shown d c.args.world.now chain c.args.b.row c.outermost-other_outer.result nats.chain c.outermost-other_outer.ensures in
    λ i. outer i == other_outer i
