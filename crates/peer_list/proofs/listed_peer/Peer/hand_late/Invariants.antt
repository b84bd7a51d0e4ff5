use Rattle.peer_list.proofs.Words.{held_elsewhere, held_from, length, take, ◌+◌, ◌≡◌, ◌≤◌}
use Rattle.peer_list.proofs.listed_peer.Peer.hand_late.Given as goal

-- what was handed over so far, and what came from elsewhere
abbrev pub invariant-loop-held : goal.invariant-loop-held
invariant-loop-held l =
    (l.step ≡ record l.fn.step { late = held_from l.from (take l.held-index l.held-items) }) ×
    (l.elsewhere ≡ held_elsewhere l.from (take l.held-index l.held-items)) ×
    (length l.step.late + l.elsewhere ≤ l.held-index)
