use Rattle.peer_list.proofs.Words.{Peer, ap, is_some, ltb-true, on_err_weaker, on_ok_weaker, refl, sym, touched_at, ◌∙◌}
use Rattle.peer_list.proofs.EntryLemmas.{led}
use Rattle.peer_list.proofs.AddLemmas.{kept_answered, listings_kept}
use Rattle.peer_list.proofs.ChangeLemmas.{there_at}
use Rattle.peer_list.proofs.PurgeLemmas.{keeps_all, unlisted, room_is, updates_added, updates_there}
use Rattle.peer_list.proofs.listings.list.Goals as goal

pub change-requires-clause-there : goal.change-requires-clause-there
change-requires-clause-there c = there_at c.purge.new.self c.args.who c.in-Some.key c.purge.ensures.kept.whole.names (sym c.in-Some.ensures)

pub returns-in-Some-clause-listed : goal.returns-in-Some-clause-listed
returns-in-Some-clause-listed c =
    let p = c.purge.new.self in
    let lead = led p.slab p.index.entries c.args.who c.in-Some.key c.purge.ensures.kept.whole.names.leads (sym c.in-Some.ensures) in
    updates_there c.requires.kept c.purge.ensures.kept c.purge.ensures.listings c.args.who c.in-Some.key lead.listing (sym c.in-Some.ensures) lead.at
    c.change.new.self (touched_at c.args.now.0 lead.listing.peer) (touched_at c.args.now.0) (c.change.ensures.changed lead.listing lead.at) refl

pub add-requires-clause-room : goal.add-requires-clause-room
add-requires-clause-room c = ltb-true _ _ (sym (room_is c.requires.kept c.purge.ensures.kept c.purge.ensures.listings c.args.who (sym c.in-None.ensures)) ∙ c.requires.room)

pub returns-in-None-clause-kept : goal.returns-in-None-clause-kept
returns-in-None-clause-kept c =
    kept_answered c.purge.new.self c.add.new.self (record { who = c.args.who; peer = c.new-peer.result }) c.args.now.0 c.add.result
    c.purge.ensures.kept c.add.ensures.whole c.add.ensures.touched c.add.ensures.added c.add.ensures.same (ap (λ (x : Peer). x.touched) c.new-peer.ensures)

pub returns-in-None-clause-listed : goal.returns-in-None-clause-listed
returns-in-None-clause-listed c =
    on_ok_weaker c.add.result (λ adds. updates_added c.requires.kept c.purge.ensures.kept c.purge.ensures.listings c.add.new.self (record { who = c.args.who; peer = c.new-peer.result }) (touched_at c.args.now.0)
    (sym c.in-None.ensures) c.add.ensures.whole adds c.new-peer.ensures) c.add.ensures.added

pub returns-in-None-clause-same : goal.returns-in-None-clause-same
returns-in-None-clause-same c =
    on_err_weaker c.add.result (λ same. keeps_all c.requires.kept c.purge.ensures.kept c.purge.ensures.listings c.add.new.self (listings_kept c.purge.new.self c.add.new.self same)) c.add.ensures.same

pub returns-in-None-clause-unlisted : goal.returns-in-None-clause-unlisted
returns-in-None-clause-unlisted c =
    on_err_weaker c.add.result (λ same. ap is_some (unlisted c.requires.kept c.purge.ensures.kept c.purge.ensures.listings c.args.who (sym c.in-None.ensures))) c.add.ensures.same
