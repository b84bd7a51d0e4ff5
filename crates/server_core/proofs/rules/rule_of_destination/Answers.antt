use Rattle.server_core.proofs.Words.{packet_view, sym, ◌∙◌}
use Rattle.server_core.proofs.Peers.{teredo_peer, client_is_teredo}
use Rattle.server_core.proofs.rules.rule_of_destination.Goals as goal

pub returns-then-is_for_client-clause-warrant : goal.returns-then-is_for_client-clause-warrant
returns-then-is_for_client-clause-warrant c =
    let s = c.args.settings.now in
    let p = packet_view c.args.payload.now.packet in
    let teredo = client_is_teredo s p (sym c.is_for_client.ensures ∙ c.if-is_for_client.true) in
    (teredo_peer s p teredo (sym c.is_unusable.ensures ∙ c.if-is_unusable.false) (sym c.is_looped.ensures ∙ c.if-is_looped.false), c.requires.small)

pub returns-then-is_teredo-clause-warrant : goal.returns-then-is_teredo-clause-warrant
returns-then-is_teredo-clause-warrant c =
    let s = c.args.settings.now in
    let p = packet_view c.args.payload.now.packet in
    let teredo = sym c.is_teredo.ensures ∙ c.if-is_teredo.true in
    (teredo_peer s p teredo (sym c.is_unusable.ensures ∙ c.if-is_unusable.false) (sym c.is_looped.ensures ∙ c.if-is_looped.false), c.requires.small)
