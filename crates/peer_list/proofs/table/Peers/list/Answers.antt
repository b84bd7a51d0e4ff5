use Rattle.peer_list.proofs.Words.{Table, ap, arith, has_room_in, is_some, listings_of, on_err_weaker, subst, sym, touched_at, true, ◌∙◌, ◌≡◌}
use Rattle.peer_list.proofs.TableLemmas.{other_peer, other_room, other_keeps, other_updates}
use Rattle.peer_list.proofs.SettleLemmas.{earlier, held_answered, kept_later}
use Rattle.peer_list.proofs.TimelyLemmas.{touched_so}
use Rattle.peer_list.proofs.table.Peers.list.Goals as goal

pub list-listed-requires-clause-kept : goal.list-listed-requires-clause-kept
list-listed-requires-clause-kept c = kept_later c.self.invariant.kept (earlier c.self.inside.entries _ _ _ c.self.view_is c.requires.clock)

pub list-listed-requires-clause-room : goal.list-listed-requires-clause-room
list-listed-requires-clause-room c = other_room c.args.now.0 c.self.inside.moment.0 c.self.inside.latest c.args.now.0 c.args.who (listings_of c.self.inside.entries)
    ∙ subst (λ (v : Table). has_room_in v c.args.now.0 c.args.who ≡ true) (sym c.self.view_is) c.requires.room

pub invariant_of-self : goal.invariant_of-self
invariant_of-self c =
    let e = c.self.inside.entries in
    held_answered e c.list-listed.new.entries c.self.inside.moment.0 c.args.now.0 c.args.who (touched_at c.args.now.0) c.list-listed.result c.self.invariant (earlier e _ _ _ c.self.view_is c.requires.clock) c.list-listed.ensures.kept
    (λ before. touched_so _ _ _ before (omega arith)) c.list-listed.ensures.listed c.list-listed.ensures.same

pub returns-clause-listed : goal.returns-clause-listed
returns-clause-listed c = rw (c.note.ensures.same, ← c.self.view_is) (other_updates c.args.now.0 c.self.inside.moment.0 c.self.inside.latest c.note.new.latest
    (listings_of c.self.inside.entries) (listings_of c.list-listed.new.entries) c.args.who (touched_at c.args.now.0) c.list-listed.result c.list-listed.ensures.listed c.note.ensures.noted)

pub returns-clause-kept : goal.returns-clause-kept
returns-clause-kept c = rw (c.note.ensures.same, ← c.self.view_is) (other_keeps c.args.now.0 c.self.inside.moment.0 c.self.inside.latest c.note.new.latest
    (listings_of c.self.inside.entries) (listings_of c.list-listed.new.entries) c.list-listed.result c.list-listed.ensures.same c.note.ensures.kept)

pub returns-clause-unlisted : goal.returns-clause-unlisted
returns-clause-unlisted c = rw (c.note.ensures.same, ← c.self.view_is)
    (on_err_weaker c.list-listed.result (λ h. sym (ap is_some (other_peer c.args.now.0 c.self.inside.moment.0 c.self.inside.latest c.args.now.0 c.args.who (listings_of c.self.inside.entries))) ∙ h) c.list-listed.ensures.unlisted)
