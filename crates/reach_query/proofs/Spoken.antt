-- A client's NAT is a NAT.
use Rattle.reach_query.proofs.Words.{ClientNode, IsTopology, Node, None, Option, Some, TopologyState, as_nat, client, each_node, false≢true, is_nat, is_some, nat, native, node_at, option_and_then, refl, relay, server, true, ℕ, ◌≡◌}

with_row : (o : Option Node) → is_some (option_and_then as_nat o) ≡ true → is_nat o ≡ true
with_row None e = absurd (false≢true e)
with_row (Some (server a)) e = absurd (false≢true e)
with_row (Some (nat a)) e = refl
with_row (Some (client a)) e = absurd (false≢true e)
with_row (Some (relay a)) e = absurd (false≢true e)
with_row (Some (native a)) e = absurd (false≢true e)

pub its_nat : (t : TopologyState) (n : ℕ) (row : ClientNode) → IsTopology t → node_at t n ≡ Some (client row) → is_nat (node_at t row.nat) ≡ true
its_nat t n row is at = with_row (node_at t row.nat) (each_node t n (client row) is at).rules.behind
