use Rattle.qualify.proofs.Words.{[], all_routers, arith, fills, has_room, message_bytes, replicate, router_solicit}
use Rattle.qualify.proofs.Lengths.{solicit_len}
use Rattle.qualify.proofs.solicitation.message.Goals as goal

pub unwrap-requires : goal.unwrap-requires
unwrap-requires c =
    has_room (message_bytes c.args.source all_routers (router_solicit [])) (replicate 8 0) _ c.write.result c.write.ensures.written (omega (arith, solicit_len c.args.source all_routers))

pub returns : goal.returns
returns c =
    fills (message_bytes c.args.source all_routers (router_solicit [])) (replicate 8 0) _ c.write.result c.unwrap.result c.unwrap.ensures c.write.ensures.written (omega (arith, solicit_len c.args.source all_routers))
