use Rattle.peer_list.proofs.Words.{releases, take, ◌≡◌}
use Rattle.peer_list.proofs.listed_peer.Peer.send_waiting.Given as goal

-- what was sent so far
abbrev pub invariant-loop-packet : goal.invariant-loop-packet
invariant-loop-packet l = l.step ≡ record l.fn.step { sends = releases l.to (take l.packet-index l.packet-items) }
