use Rattle.client_core.proofs.Words.{Client, List, Step, TakesPayload, Updates, held_at, known_to, payload_view, refl, subst, sym, ℕ}
use Rattle.teredo_node.specs.declared.fate.Fate.TheVariants as fate
use Rattle.client_core.proofs.Holds.{held}
use Rattle.client_core.proofs.Listed.{listed_has_room}
use Rattle.client_core.proofs.client.Client.hold_packet.Goals as goal

pub hold-requires-clause-room : goal.hold-requires-clause-room
hold-requires-clause-room c = listed_has_room c.args.self.now.peers c.args.now.0 c.args.payload.now.packet.src c.requires.listed

pub returns-clause-done : goal.returns-clause-done
returns-clause-done c =
    let old = c.args.self.now in
    let n = c.args.now.0 in
    let v = payload_view c.args.payload.now in
    let new : Client = record old { peers = c.hold.new.self } in
    subst (λ (s : Step). TakesPayload old n c.args.from v fate.Held s new) (sym c.reset.ensures)
    (held old new n c.args.from v c.requires.listed
    (record {
      clock = c.requires.callable.clock;
      peers = subst (λ (x : List ℕ). Updates old.peers c.hold.new.self n v.packet.src (held_at n c.args.from x (known_to old.peers n v.packet.src))) c.requires.packet c.in_ok-hold.ensures.held;
      qualifier = refl;
      rng = refl;
    }))
