use Rattle.peer_list.proofs.Words.{Leads, Peer, ap, err_from_is_err_and, held_at, holding, holds_most, ltb-true, on_err_weaker, on_ok_weaker, sym, ◌∙◌}
use Rattle.peer_list.proofs.EntryLemmas.{led}
use Rattle.peer_list.proofs.AdmitLemmas.{new_holds_none}
use Rattle.peer_list.proofs.HoldLemmas.{held_touched, since_some}
use Rattle.peer_list.proofs.AddLemmas.{kept_answered, listings_kept}
use Rattle.peer_list.proofs.ChangeLemmas.{there_at}
use Rattle.peer_list.proofs.PurgeLemmas.{keeps, keeps_all, room_is, updates_added, known, updates_there}
use Rattle.peer_list.proofs.listings.hold.Goals as goal

pub hold_at-requires-clause-there : goal.hold_at-requires-clause-there
hold_at-requires-clause-there c = there_at c.purge.new.self c.args.who c.in-Some.key c.purge.ensures.kept.whole.names (sym c.in-Some.ensures)

pub hold_at-requires-clause-free : goal.hold_at-requires-clause-free
hold_at-requires-clause-free c l at = ap holds_most (sym (known c.requires.kept c.purge.ensures.kept c.purge.ensures.listings c.args.who c.in-Some.key l (sym c.in-Some.ensures) at)) ∙ c.requires.free

pub returns-in-Some-clause-held : goal.returns-in-Some-clause-held
returns-in-Some-clause-held c =
    let p = c.purge.new.self in
    let call = held_at c.args.now.0 c.args.from c.args.packet.now in
    let lead : Leads p.slab (c.args.who, c.in-Some.key) = led p.slab p.index.entries c.args.who c.in-Some.key c.purge.ensures.kept.whole.names.leads (sym c.in-Some.ensures) in
    on_ok_weaker c.hold_at.result (λ a. updates_there c.requires.kept c.purge.ensures.kept c.purge.ensures.listings c.args.who c.in-Some.key lead.listing (sym c.in-Some.ensures) lead.at
    c.hold_at.new.entries (holding c.args.from c.args.packet.now lead.listing.peer) call a
    (held_touched c.args.now.0 c.args.from c.args.packet.now lead.listing.peer (since_some _ _ (c.purge.ensures.kept.touched c.in-Some.key lead.listing lead.at)))) (c.hold_at.ensures.held lead.listing lead.at)

pub returns-in-Some-clause-same : goal.returns-in-Some-clause-same
returns-in-Some-clause-same c = on_err_weaker c.hold_at.result (keeps_all c.requires.kept c.purge.ensures.kept c.purge.ensures.listings c.hold_at.new.entries) c.hold_at.ensures.same

pub hold-requires-clause-free : goal.hold-requires-clause-free
hold-requires-clause-free c = ap holds_most c.new-peer.ensures ∙ new_holds_none c.args.now.0

pub returns-in_err-hold-in-None-clause-same : goal.returns-in_err-hold-in-None-clause-same
returns-in_err-hold-in-None-clause-same c =
    let r = err_from_is_err_and c.from_residual.result c.from_residual.ensures.1 in
    rw r.1 (keeps c.requires.kept c.purge.ensures.kept c.purge.ensures.listings)

pub add-requires-clause-room : goal.add-requires-clause-room
add-requires-clause-room c = ltb-true _ _ (sym (room_is c.requires.kept c.purge.ensures.kept c.purge.ensures.listings c.args.who (sym c.in-None.ensures)) ∙ c.requires.room)

pub returns-in_ok-hold-in-None-clause-kept : goal.returns-in_ok-hold-in-None-clause-kept
returns-in_ok-hold-in-None-clause-kept c =
    kept_answered c.purge.new.self c.add.new.self (record { who = c.args.who; peer = c.hold.new.self }) c.args.now.0 c.add.result c.purge.ensures.kept c.add.ensures.whole c.add.ensures.touched c.add.ensures.added c.add.ensures.same
    (ap (λ (x : Peer). x.touched) c.in_ok-hold-in-None.ensures.held ∙ ap (λ (x : Peer). x.touched) c.new-peer.ensures)

pub returns-in_ok-hold-in-None-clause-held : goal.returns-in_ok-hold-in-None-clause-held
returns-in_ok-hold-in-None-clause-held c =
    let call = held_at c.args.now.0 c.args.from c.args.packet.now in
    on_ok_weaker c.add.result (λ adds. updates_added c.requires.kept c.purge.ensures.kept c.purge.ensures.listings c.add.new.self (record { who = c.args.who; peer = c.hold.new.self }) call (sym c.in-None.ensures) c.add.ensures.whole adds
    (c.in_ok-hold-in-None.ensures.held ∙ ap (holding c.args.from c.args.packet.now) c.new-peer.ensures)) c.add.ensures.added

pub returns-in_ok-hold-in-None-clause-same : goal.returns-in_ok-hold-in-None-clause-same
returns-in_ok-hold-in-None-clause-same c =
    on_err_weaker c.add.result (λ same. keeps_all c.requires.kept c.purge.ensures.kept c.purge.ensures.listings c.add.new.self (listings_kept c.purge.new.self c.add.new.self same)) c.add.ensures.same
