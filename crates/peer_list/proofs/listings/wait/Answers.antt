use Rattle.peer_list.proofs.Words.{Leads, Peer, ap, err_from_is_err_and, is_full, ltb-true, on_err_weaker, on_ok_weaker, queued_at, refl, sym, ◌∙◌}
use Rattle.peer_list.proofs.EntryLemmas.{led}
use Rattle.peer_list.proofs.AdmitLemmas.{new_free}
use Rattle.peer_list.proofs.AddLemmas.{kept_answered, listings_kept}
use Rattle.peer_list.proofs.ChangeLemmas.{there_at}
use Rattle.peer_list.proofs.PurgeLemmas.{keeps, keeps_all, room_is, updates_added, known, updates_there}
use Rattle.peer_list.proofs.listings.wait.Goals as goal

pub wait_at-requires-clause-there : goal.wait_at-requires-clause-there
wait_at-requires-clause-there c = there_at c.purge.new.self c.args.who c.in-Some.key c.purge.ensures.kept.whole.names (sym c.in-Some.ensures)

pub wait_at-requires-clause-free : goal.wait_at-requires-clause-free
wait_at-requires-clause-free c l at = ap is_full (sym (known c.requires.kept c.purge.ensures.kept c.purge.ensures.listings c.args.who c.in-Some.key l (sym c.in-Some.ensures) at)) ∙ c.requires.free

pub returns-in-Some-clause-queued : goal.returns-in-Some-clause-queued
returns-in-Some-clause-queued c =
    let p = c.purge.new.self in
    let call = queued_at c.args.now.0 c.args.packet.now in
    let lead : Leads p.slab (c.args.who, c.in-Some.key) = led p.slab p.index.entries c.args.who c.in-Some.key c.purge.ensures.kept.whole.names.leads (sym c.in-Some.ensures) in
    on_ok_weaker c.wait_at.result (λ a. updates_there c.requires.kept c.purge.ensures.kept c.purge.ensures.listings c.args.who c.in-Some.key lead.listing (sym c.in-Some.ensures) lead.at
    c.wait_at.new.entries (call lead.listing.peer) call a refl) (c.wait_at.ensures.queued lead.listing lead.at)

pub returns-in-Some-clause-same : goal.returns-in-Some-clause-same
returns-in-Some-clause-same c = on_err_weaker c.wait_at.result (keeps_all c.requires.kept c.purge.ensures.kept c.purge.ensures.listings c.wait_at.new.entries) c.wait_at.ensures.same

pub wait-requires-clause-free : goal.wait-requires-clause-free
wait-requires-clause-free c = ap is_full c.new-peer.ensures ∙ new_free c.args.now.0

pub returns-in_err-wait-in-None-clause-same : goal.returns-in_err-wait-in-None-clause-same
returns-in_err-wait-in-None-clause-same c =
    let r = err_from_is_err_and c.from_residual.result c.from_residual.ensures.1 in
    rw r.1 (keeps c.requires.kept c.purge.ensures.kept c.purge.ensures.listings)

pub add-requires-clause-room : goal.add-requires-clause-room
add-requires-clause-room c = ltb-true _ _ (sym (room_is c.requires.kept c.purge.ensures.kept c.purge.ensures.listings c.args.who (sym c.in-None.ensures)) ∙ c.requires.room)

pub returns-in_ok-wait-in-None-clause-kept : goal.returns-in_ok-wait-in-None-clause-kept
returns-in_ok-wait-in-None-clause-kept c =
    kept_answered c.purge.new.self c.add.new.self (record { who = c.args.who; peer = c.wait.new.self }) c.args.now.0 c.add.result c.purge.ensures.kept c.add.ensures.whole c.add.ensures.touched c.add.ensures.added c.add.ensures.same
    (ap (λ (x : Peer). x.touched) c.in_ok-wait-in-None.ensures.queued)

pub returns-in_ok-wait-in-None-clause-queued : goal.returns-in_ok-wait-in-None-clause-queued
returns-in_ok-wait-in-None-clause-queued c =
    let call = queued_at c.args.now.0 c.args.packet.now in
    on_ok_weaker c.add.result (λ adds. updates_added c.requires.kept c.purge.ensures.kept c.purge.ensures.listings c.add.new.self (record { who = c.args.who; peer = c.wait.new.self }) call (sym c.in-None.ensures) c.add.ensures.whole adds
    (c.in_ok-wait-in-None.ensures.queued ∙ ap call c.new-peer.ensures)) c.add.ensures.added

pub returns-in_ok-wait-in-None-clause-same : goal.returns-in_ok-wait-in-None-clause-same
returns-in_ok-wait-in-None-clause-same c =
    on_err_weaker c.add.result (λ same. keeps_all c.requires.kept c.purge.ensures.kept c.purge.ensures.listings c.add.new.self (listings_kept c.purge.new.self c.add.new.self same)) c.add.ensures.same
