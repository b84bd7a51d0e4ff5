use Rattle.server_core.proofs.Words.{List, ap, arith, fills, has_room, message_bytes, message_is_bytes, replicate, router_advert, ℕ, ◌∙◌}
use Rattle.server_core.proofs.advertisement.advertisement.Goals as goal

pub unwrap-requires : goal.unwrap-requires
unwrap-requires c =
    let m = router_advert 0 0 0 0 0 c.options.result in
    let long = (message_is_bytes c.args.server c.args.client m).long in
    has_room (message_bytes c.args.server c.args.client m) (replicate 56 0) _ c.write.result c.write.ensures.written (omega (arith, long))

pub returns : goal.returns
returns c =
    let m = router_advert 0 0 0 0 0 c.options.result in
    let long = (message_is_bytes c.args.server c.args.client m).long in
    fills (message_bytes c.args.server c.args.client m) (replicate 56 0) _ c.write.result c.unwrap.result c.unwrap.ensures c.write.ensures.written (omega (arith, long))
    ∙ ap (λ (options : List ℕ). message_bytes c.args.server c.args.client (router_advert 0 0 0 0 0 options)) c.options.ensures
