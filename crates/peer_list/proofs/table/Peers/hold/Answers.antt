use Rattle.peer_list.proofs.Words.{Table, ap, arith, false, has_room_in, held_at, holds_most, known_to, listings_of, no_peer, subst, sym, true, unwrap_or, ◌∙◌, ◌≡◌}
use Rattle.peer_list.proofs.TableLemmas.{other_peer, other_room, other_keeps, other_updates}
use Rattle.peer_list.proofs.SettleLemmas.{earlier, held_answered, kept_later}
use Rattle.peer_list.proofs.TimelyLemmas.{held_so}
use Rattle.peer_list.proofs.table.Peers.hold.Goals as goal

pub hold-held-requires-clause-kept : goal.hold-held-requires-clause-kept
hold-held-requires-clause-kept c = kept_later c.self.invariant.kept (earlier c.self.inside.entries _ _ _ c.self.view_is c.requires.clock)

pub hold-held-requires-clause-room : goal.hold-held-requires-clause-room
hold-held-requires-clause-room c = other_room c.args.now.0 c.self.inside.moment.0 c.self.inside.latest c.args.now.0 c.args.who (listings_of c.self.inside.entries)
    ∙ subst (λ (v : Table). has_room_in v c.args.now.0 c.args.who ≡ true) (sym c.self.view_is) c.requires.room

pub hold-held-requires-clause-free : goal.hold-held-requires-clause-free
hold-held-requires-clause-free c =
    let known = ap (λ o. unwrap_or o no_peer) (other_peer c.args.now.0 c.self.inside.moment.0 c.self.inside.latest c.args.now.0 c.args.who (listings_of c.self.inside.entries)) in
    ap holds_most known ∙ subst (λ (v : Table). holds_most (known_to v c.args.now.0 c.args.who) ≡ false) (sym c.self.view_is) c.requires.free

pub invariant_of-self : goal.invariant_of-self
invariant_of-self c =
    let e = c.self.inside.entries in
    held_answered e c.hold-held.new.entries c.self.inside.moment.0 c.args.now.0 c.args.who
    (held_at c.args.now.0 c.args.from c.args.packet.now) c.hold-held.result c.self.invariant (earlier e _ _ _ c.self.view_is c.requires.clock) c.hold-held.ensures.kept
    (λ before. held_so _ _ _ before (omega arith) c.args.from c.args.packet.now) c.hold-held.ensures.held c.hold-held.ensures.same

pub returns-clause-held : goal.returns-clause-held
returns-clause-held c = rw (c.note.ensures.same, ← c.self.view_is) (other_updates c.args.now.0 c.self.inside.moment.0 c.self.inside.latest c.note.new.latest
    (listings_of c.self.inside.entries) (listings_of c.hold-held.new.entries) c.args.who (held_at c.args.now.0 c.args.from c.args.packet.now) c.hold-held.result c.hold-held.ensures.held c.note.ensures.noted)

pub returns-clause-kept : goal.returns-clause-kept
returns-clause-kept c = rw (c.note.ensures.same, ← c.self.view_is) (other_keeps c.args.now.0 c.self.inside.moment.0 c.self.inside.latest c.note.new.latest
    (listings_of c.self.inside.entries) (listings_of c.hold-held.new.entries) c.hold-held.result c.hold-held.ensures.same c.note.ensures.kept)
