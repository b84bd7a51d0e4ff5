use Rattle.peer_list.proofs.TurnLemmas.{NoneInFront}
use Rattle.peer_list.proofs.entries.Entries.due.Given as goal

-- none of those so far is listed and has packets that wait for it
abbrev pub invariant-loop-key : goal.invariant-loop-key
invariant-loop-key l = NoneInFront l.self.slab l.self.order.items l.now.0 l.key-index
