use Rattle.world.proofs.Words.{List, NodesOf, Plays, StandsFor, WorldState, address_at, ap, data_packet, hands_in, lab_in, lab_on, node_at, numbered, packet_bytes, played, refl, subst, sym, target_address, ℕ, ◌∙◌, ◌≡◌}
use Rattle.events.specs.declared.event.Event.TheVariants as event
use Rattle.events.specs.declared.verb.Verb.TheVariants as verb
use Rattle.world.proofs.world.World.send_data.Goals as goal

pub returns-clause-plays : goal.returns-clause-plays
returns-clause-plays c = λ d H s.
    let w = c.self.inside in
    let same = c.self.view_is in
    let stands = subst (λ (x : WorldState). StandsFor d x H) (sym same) s in
    let nodes : NodesOf (lab_on d w.topology.now w.nats.chain) c.as_slice-nodes.result.now H = rw (c.as_slice-nodes.ensures) stands.nodes in
    let t = c.args.self.now.topology in
    let src : c.address_at-src.result ≡ address_at (lab_in d c.args.self.now) H c.args.number =
    c.address_at-src.ensures (lab_on d w.topology.now w.nats.chain) H nodes ∙ ap (λ (x : WorldState). address_at (lab_in d x) H c.args.number) same in
    let dst : c.target_address-dst.result ≡ target_address (lab_in d c.args.self.now) H c.args.to =
    c.target_address-dst.ensures (lab_on d w.topology.now w.nats.chain) H nodes ∙ ap (λ (x : WorldState). target_address (lab_in d x) H c.args.to) same in
    let bytes = c.write_data-len.ensures.written ∙ (λ i. packet_bytes (data_packet (src i) (dst i) c.args.body.now)) in
    let e = event.Host c.args.number c.args.to c.args.body.now in
    subst (λ (x : List ℕ). Plays d c.args.self.now c.hand.new.self H (hands_in (lab_in d c.args.self.now) H (numbered c.args.out.now.event e) verb.Host c.args.number x (node_at t c.args.number)) (played c.hand.result c.hand.new.out)) bytes
    (c.hand.ensures.plays d H s e refl refl)
