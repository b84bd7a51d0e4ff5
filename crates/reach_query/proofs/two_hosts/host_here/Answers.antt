use Rattle.reach_query.proofs.Words.{PlayedNode, Some, ap, has_host, row_of, sym, ◌∙◌}
use Rattle.lab_nodes.specs.declared.played_node.PlayedNode.TheVariants as played
use Rattle.reach_query.proofs.two_hosts.host_here.Goals as goal

pub returns-in-Client-clause-here : goal.returns-in-Client-clause-here
returns-in-Client-clause-here c = λ d H s. record {
  there = sym c.in_ok-node.ensures.row ∙ ap (λ (p : PlayedNode). Some (row_of p)) c.in-Client.is;
  kept = s.nodes.each c.args.number (played.Client c.in-Client.row c.in-Client.client) (sym c.in_ok-node.ensures.kept ∙ ap (λ (p : PlayedNode). Some p) c.in-Client.is);
}

pub returns-in-Native-clause-node : goal.returns-in-Native-clause-node
returns-in-Native-clause-node c = sym c.in_ok-node.ensures.row ∙ ap (λ (p : PlayedNode). Some (row_of p)) c.in-Native.is

pub returns-in-Server-clause-none : goal.returns-in-Server-clause-none
returns-in-Server-clause-none c = ap has_host (sym c.in_ok-node.ensures.row ∙ ap (λ (p : PlayedNode). Some (row_of p)) c.in-Server.is)

pub returns-in-Nat-clause-none : goal.returns-in-Nat-clause-none
returns-in-Nat-clause-none c = ap has_host (sym c.in_ok-node.ensures.row ∙ ap (λ (p : PlayedNode). Some (row_of p)) c.in-Nat.is)

pub returns-in-Relay-clause-none : goal.returns-in-Relay-clause-none
returns-in-Relay-clause-none c = ap has_host (sym c.in_ok-node.ensures.row ∙ ap (λ (p : PlayedNode). Some (row_of p)) c.in-Relay.is)
