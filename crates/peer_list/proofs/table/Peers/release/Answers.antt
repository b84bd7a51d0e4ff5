use Rattle.peer_list.proofs.Words.{changed_at}
use Rattle.peer_list.proofs.EntryLemmas.{led}
use Rattle.peer_list.proofs.SettleLemmas.{earlier, there, kept_later, known_found, updates_by_call, held_by_call}
use Rattle.peer_list.proofs.TimelyLemmas.{changed_so}
use Rattle.peer_list.proofs.table.Peers.release.Goals as goal

pub key-key-requires-clause-there : goal.key-key-requires-clause-there
key-key-requires-clause-there c = there c.self.inside.entries _ _ c.self.view_is c.requires.listed

pub change-requires-clause-kept : goal.change-requires-clause-kept
change-requires-clause-kept c = kept_later c.self.invariant.kept (earlier c.self.inside.entries _ _ _ c.self.view_is c.requires.clock)

pub invariant_of-self : goal.invariant_of-self
invariant_of-self c =
    let e = c.self.inside.entries in
    let lead = led e.slab e.index.entries c.args.who c.key-key.result c.self.invariant.kept.whole.names.leads c.key-key.ensures.key in
    held_by_call e _ _ c.self.view_is c.change.new.self (changed_at c.args.now.0 c.args.change) c.self.invariant c.requires.clock c.requires.listed c.key-key.ensures.key
    (c.change.ensures.changed lead.listing lead.at) c.change.ensures.kept (λ all later. changed_so _ _ _ all later c.args.change c.requires.listed)

pub returns-clause-sends : goal.returns-clause-sends
returns-clause-sends c = rw (known_found c.self.inside.entries _ _ c.self.view_is _ c.peer_under-peer.ensures c.requires.listed) c.send_waiting.ensures

pub returns-clause-changed : goal.returns-clause-changed
returns-clause-changed c =
    let e = c.self.inside.entries in
    let lead = led e.slab e.index.entries c.args.who c.key-key.result c.self.invariant.kept.whole.names.leads c.key-key.ensures.key in
    updates_by_call e _ _ c.self.view_is c.change.new.self (changed_at c.args.now.0 c.args.change) c.self.invariant.kept.whole c.requires.listed c.key-key.ensures.key (c.change.ensures.changed lead.listing lead.at)
