-- What waits in what is kept of the nodes is what waits by their pasts.
use Rattle.lab_nodes.proofs.Words.{EachWaitsAsInThePast, Full, IsKept, IsReady, Lab, List, Mention, Node, Peer, PlayedNode, [], ap, arith, client_is_read, client_packet, journal, listed_peers, map, now, past_of, peers_packets, played_waits, played_waits_at, refl, relay_is_read, relay_listed_peers, relay_mentions, relay_packet, row_of, sum, sum-map, sum_by-append, sym, ℕ, ◌+◌, ◌∙◌, ◌∷◌, ◌≡◌}
use Rattle.client_rules.specs.Bearings as client_bearings
use Rattle.weights.specs.Burden as past
use Rattle.lab_nodes.specs.declared.played_node.PlayedNode.TheVariants as played
use Rattle.lab_nodes.proofs.PeerSums.{AreMentioned, same_sums}
use Rattle.lab_nodes.proofs.NodesFrom.{NodesFrom, all_from, first_kept, first_ready, behind}

-- OF PEERS

same_packets : (w : List ℕ → ℕ) (peers : List Peer) (j : List Mention) (m : ℕ) → AreMentioned peers j m
    → sum (map w (peers_packets peers)) ≡ sum (map w (past.waiting_packets j m))
same_packets w peers j m read =
    sum-map w (peers_packets peers) ∙ same_sums w (λ (peer : Peer). peer.waiting) peers j m read ∙ sym (sum-map w (past.waiting_packets j m))

-- OF A NODE

same_at : (lab : Lab) (H : List Full) (n : ℕ) (p : PlayedNode) → IsKept lab.topology n (past_of lab n H) p → IsReady (now H) p
    → sum (played_waits_at (now H) p) ≡ sum (past.waits_at H n (row_of p))
same_at lab H n (played.Client c is) kept ready =
    let j = journal n H in
    same_packets client_packet (listed_peers is (now H)) (client_bearings.mentions j.entries) (now H) (client_is_read is j (now H) kept.stands ready).sum
same_at lab H n (played.Relay r is) kept ready =
    let j = (journal n H).entries in
    same_packets relay_packet (relay_listed_peers is (now H)) (relay_mentions j) (now H) (relay_is_read is j (now H) kept.stands ready)
same_at lab H n _ kept ready = refl

-- OF ALL

-- of the nodes from number n on
same_from : (lab : Lab) (H : List Full) (n : ℕ) (rest : List PlayedNode) → NodesFrom lab H n rest
    → sum (played_waits (now H) rest) ≡ sum (past.waits_from H n (map row_of rest))
same_from lab H n [] from = refl
same_from lab H n (p ∷ rest) from =
    let one : sum (played_waits_at (now H) p) ≡ sum (past.waits_at H n (row_of p)) = same_at lab H n p (first_kept lab H n p rest from) (first_ready lab H n p rest from) in
    let others = same_from lab H (n + 1) rest (behind lab H n p rest from) in
    let new = sum_by-append (λ (k : ℕ). k) (played_waits_at (now H) p) (played_waits (now H) rest) in
    let old = sum_by-append (λ (k : ℕ). k) (past.waits_at H n (row_of p)) (past.waits_from H (n + 1) (map row_of rest)) in
    omega (arith, one, others, new, old)

pub waits_as_in_the_past : EachWaitsAsInThePast
waits_as_in_the_past lab list H of ready =
    same_from lab H 0 list (all_from lab H list of ready) ∙ ap (λ (bs : List Node). sum (past.waits_from H 0 bs)) of.rows
