-- What is kept of the nodes falls due when their pasts say.
use Rattle.lab_nodes.proofs.Words.{EachSumIsOfThePast, Full, IsKept, IsReady, Journal, Lab, List, Node, Option, PlayedNode, SaysWhatJournalSays, Settings, [], all_played_due, ap, client_is_read, client_settings, flat_map, journal, listed_peers, map, now, option_to_list, own_due, past_of, played_due, qualification, refl, relay_is_read, relay_listed_peers, relay_mentions, row_of, sum_by, sum_by-append, sym, waits_until, ℕ, ◌+◌, ◌∙◌, ◌∷◌, ◌≡◌}
use Rattle.client_rules.specs.Bearings as client_bearings
use Rattle.legal.specs.Left as legal
use Rattle.lab_nodes.specs.declared.played_node.PlayedNode.TheVariants as played
use Rattle.lab_nodes.proofs.PeerSums.{same_sums}
use Rattle.lab_nodes.proofs.NodesFrom.{NodesFrom, all_from, first_kept, first_ready, behind}

-- OF A NODE

same_moments : (lab : Lab) (H : List Full) (n : ℕ) (w : ℕ → ℕ) (p : PlayedNode) → IsKept lab.topology n (past_of lab n H) p → IsReady (now H) p
    → sum_by w (played_due (now H) p) ≡ sum_by w (legal.due_moments lab H n (row_of p))
same_moments lab H n w (played.Client c is) kept ready =
    let j : Journal = journal n H in
    let peers : List ℕ = flat_map waits_until (listed_peers is (now H)) in
    let past : List ℕ = legal.peers_due (client_bearings.mentions j.entries) (now H) in
    let says : SaysWhatJournalSays is j (now H) = client_is_read is j (now H) kept.stands ready in
    let due : own_due is ≡ (qualification (client_settings lab.topology c) j).due = says.due ∙ ap (λ (s : Settings). (qualification s j).due) kept.settings in
    let same : sum_by w peers ≡ sum_by w past = same_sums w waits_until (listed_peers is (now H)) (client_bearings.mentions j.entries) (now H) says.sum in
    sum_by-append w (option_to_list (own_due is)) peers
    ∙ ap (λ (k : ℕ). sum_by w (option_to_list (own_due is)) + k) same
    ∙ ap (λ (x : Option ℕ). sum_by w (option_to_list x) + sum_by w past) due
    ∙ sym (sum_by-append w (option_to_list (qualification (client_settings lab.topology c) j).due) past)
same_moments lab H n w (played.Relay r is) kept ready =
    let j = (journal n H).entries in
    same_sums w waits_until (relay_listed_peers is (now H)) (relay_mentions j) (now H) (relay_is_read is j (now H) kept.stands ready)
same_moments lab H n w (played.Server row) kept ready = refl
same_moments lab H n w (played.Nat row) kept ready = refl
same_moments lab H n w (played.Native row) kept ready = refl

-- OF ALL

-- of the nodes from number n on
same_from : (lab : Lab) (H : List Full) (w : ℕ → ℕ) (n : ℕ) (rest : List PlayedNode) → NodesFrom lab H n rest
    → sum_by w (all_played_due (now H) rest) ≡ sum_by w (legal.all_due lab H n (map row_of rest))
same_from lab H w n [] from = refl
same_from lab H w n (p ∷ rest) from =
    let one : sum_by w (played_due (now H) p) ≡ sum_by w (legal.due_moments lab H n (row_of p)) =
    same_moments lab H n w p (first_kept lab H n p rest from) (first_ready lab H n p rest from) in
    let others = same_from lab H w (n + 1) rest (behind lab H n p rest from) in
    sum_by-append w (played_due (now H) p) (all_played_due (now H) rest)
    ∙ ap (λ (k : ℕ). k + sum_by w (all_played_due (now H) rest)) one
    ∙ ap (λ (k : ℕ). sum_by w (legal.due_moments lab H n (row_of p)) + k) others
    ∙ sym (sum_by-append w (legal.due_moments lab H n (row_of p)) (legal.all_due lab H (n + 1) (map row_of rest)))

pub as_in_the_past : EachSumIsOfThePast
as_in_the_past lab list H w of ready =
    same_from lab H w 0 list (all_from lab H list of ready) ∙ ap (λ (bs : List Node). sum_by w (legal.all_due lab H 0 bs)) of.rows
