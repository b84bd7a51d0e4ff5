use Rattle.server_core.proofs.Words.{Ep, IsPeer, packet_view, subst, sym}
use Rattle.server_core.proofs.Lengths.{small_rest, rest_within}
use Rattle.server_core.proofs.decision.decide.Goals as goal

pub returns-in-ForwardOrigin-clause-warrant : goal.returns-in-ForwardOrigin-clause-warrant
returns-in-ForwardOrigin-clause-warrant c =
    let known = c.in-ForwardOrigin.ensures.warrant in
    let peer = subst (λ (to : Ep). IsPeer c.args.settings.now to) (sym c.embedded.ensures) known.0 in
    (peer, small_rest (packet_view c.in-Ok.payload.packet) _ _ known.1 c.in-Ok.ensures.inside, rest_within _ _)

pub returns-in-Forward-clause-warrant : goal.returns-in-Forward-clause-warrant
returns-in-Forward-clause-warrant c =
    let known = c.in-Forward.ensures.warrant in
    let peer = subst (λ (to : Ep). IsPeer c.args.settings.now to) (sym c.embedded-in-Forward.ensures) known.0 in
    (peer, small_rest (packet_view c.in-Ok.payload.packet) _ _ known.1 c.in-Ok.ensures.inside, rest_within _ _)
