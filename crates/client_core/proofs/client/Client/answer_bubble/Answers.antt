use Rattle.client_core.proofs.Words.{Client, None, Step, TakesPayload, [], direct_bubble, known_to, own_address, payload_view, refl, sending, subst, sym, touch_goes_on, touched_at, tried_at, with_send, ◌∙◌, ◌∷◌, ◌≡◌}
use Rattle.teredo_node.specs.declared.fate.Fate.TheVariants as fate
use Rattle.client_core.proofs.Acts.{indirect}
use Rattle.client_core.proofs.client.Client.answer_bubble.Goals as goal

pub tried-requires-clause-listed : goal.tried-requires-clause-listed
tried-requires-clause-listed c =
    let known = known_to c.args.self.now.peers c.args.now.0 c.args.payload.now.packet.src in
    (touch_goes_on c.args.self.now.peers c.list.new.self c.args.now.0 c.args.payload.now.packet.src (touched_at c.args.now.0 known) refl c.in_ok-list.ensures.listed).listed

pub returns-clause-done : goal.returns-clause-done
returns-clause-done c from =
    let n = c.args.now.0 in
    let v = payload_view c.args.payload.now in
    let old = c.args.self.now in
    let new : Client = record { qualifier = c.heard_server.new.self; peers = c.tried.new.self; rng = old.rng } in
    let known = known_to old.peers n v.packet.src in
    let step : c.send_bubble.new.step ≡ sending fate.Indirect (direct_bubble (own_address old.qualifier.now) v.packet.src c.args.origin ∷ []) =
    c.send_bubble.ensures ∙ (λ i. with_send (c.reset.ensures i) (direct_bubble (c.own_address.ensures i) v.packet.src c.args.origin)) in
    subst (λ (s : Step). TakesPayload old n from v fate.Indirect s new) (sym step)
    (indirect old new n from v c.args.origin (record {
      clock = c.requires.callable.clock;
      origin = c.requires.origin;
      peers = (touch_goes_on old.peers c.list.new.self n v.packet.src (touched_at n known) refl c.in_ok-list.ensures.listed).next c.tried.new.self (tried_at n None) c.tried.ensures.tried;
      qualified = c.heard_server.ensures.stands;
      settings = c.heard_server.ensures.settings;
      rng = refl;
    }))
