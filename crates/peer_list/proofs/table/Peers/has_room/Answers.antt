use Rattle.peer_list.proofs.Words.{PEERS_MAX, arith, length, listings_of, ltb-true, sym, ◌<◌, ◌∙◌}
use Rattle.peer_list.proofs.TableLemmas.{other_room}
use Rattle.peer_list.proofs.PlaceLemmas.{apart_of}
use Rattle.peer_list.proofs.EntryLemmas.{sound_of, length_of}
use Rattle.peer_list.proofs.NoSoonerLemmas.{roomy}
use Rattle.peer_list.proofs.table.Peers.has_room.Goals as goal

pub returns-then-is_short : goal.returns-then-is_short
returns-then-is_short c =
    let e = c.self.inside.entries in
    let same = length_of e c.self.invariant.kept.whole.names in
    let short = ltb-true _ _ (sym c.is_short.ensures ∙ c.if-is_short.true) in
    let few : length (listings_of e) < PEERS_MAX = omega (arith, same, short) in
    rw (← c.self.view_is) (sym (roomy c.self.inside.moment.0 c.args.now.0 c.args.who (listings_of e) (apart_of (sound_of e c.self.invariant.kept.whole.names)) few)
    ∙ other_room c.self.inside.moment.0 c.self.inside.moment.0 c.self.inside.latest c.args.now.0 c.args.who (listings_of e))
