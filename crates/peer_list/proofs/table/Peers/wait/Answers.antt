use Rattle.peer_list.proofs.Words.{Table, ap, arith, false, has_room_in, is_full, known_to, listings_of, no_peer, queued_at, subst, sym, true, unwrap_or, ◌∙◌, ◌≡◌}
use Rattle.peer_list.proofs.TableLemmas.{other_peer, other_room, other_keeps, other_updates}
use Rattle.peer_list.proofs.SettleLemmas.{earlier, held_answered, kept_later}
use Rattle.peer_list.proofs.TimelyLemmas.{queued_so}
use Rattle.peer_list.proofs.table.Peers.wait.Goals as goal

pub wait-queued-requires-clause-kept : goal.wait-queued-requires-clause-kept
wait-queued-requires-clause-kept c = kept_later c.self.invariant.kept (earlier c.self.inside.entries _ _ _ c.self.view_is c.requires.clock)

pub wait-queued-requires-clause-room : goal.wait-queued-requires-clause-room
wait-queued-requires-clause-room c = other_room c.args.now.0 c.self.inside.moment.0 c.self.inside.latest c.args.now.0 c.args.who (listings_of c.self.inside.entries)
    ∙ subst (λ (v : Table). has_room_in v c.args.now.0 c.args.who ≡ true) (sym c.self.view_is) c.requires.room

pub wait-queued-requires-clause-free : goal.wait-queued-requires-clause-free
wait-queued-requires-clause-free c =
    let known = ap (λ o. unwrap_or o no_peer) (other_peer c.args.now.0 c.self.inside.moment.0 c.self.inside.latest c.args.now.0 c.args.who (listings_of c.self.inside.entries)) in
    ap is_full known ∙ subst (λ (v : Table). is_full (known_to v c.args.now.0 c.args.who) ≡ false) (sym c.self.view_is) c.requires.free

pub invariant_of-self : goal.invariant_of-self
invariant_of-self c =
    let e = c.self.inside.entries in
    held_answered e c.wait-queued.new.entries c.self.inside.moment.0 c.args.now.0 c.args.who
    (queued_at c.args.now.0 c.args.packet.now) c.wait-queued.result c.self.invariant (earlier e _ _ _ c.self.view_is c.requires.clock) c.wait-queued.ensures.kept
    (λ before. queued_so _ _ _ before (omega arith) c.args.packet.now) c.wait-queued.ensures.queued c.wait-queued.ensures.same

pub returns-clause-queued : goal.returns-clause-queued
returns-clause-queued c = rw (c.note.ensures.same, ← c.self.view_is) (other_updates c.args.now.0 c.self.inside.moment.0 c.self.inside.latest c.note.new.latest
    (listings_of c.self.inside.entries) (listings_of c.wait-queued.new.entries) c.args.who (queued_at c.args.now.0 c.args.packet.now) c.wait-queued.result c.wait-queued.ensures.queued c.note.ensures.noted)

pub returns-clause-kept : goal.returns-clause-kept
returns-clause-kept c = rw (c.note.ensures.same, ← c.self.view_is) (other_keeps c.args.now.0 c.self.inside.moment.0 c.self.inside.latest c.note.new.latest
    (listings_of c.self.inside.entries) (listings_of c.wait-queued.new.entries) c.wait-queued.result c.wait-queued.ensures.same c.note.ensures.kept)
