use Rattle.reach_query.proofs.Words.{Node, Option, PlayedNode, Some, ap, as_relay, option_and_then, row_of, sym, ◌∙◌}
use Rattle.lab_nodes.specs.declared.played_node.PlayedNode.TheVariants as played
use Rattle.reach_query.proofs.two_hosts.relay_here.Goals as goal

pub returns-in-Relay-clause-here : goal.returns-in-Relay-clause-here
returns-in-Relay-clause-here c = λ d H s. record {
  there = sym c.in_ok-node.ensures.row ∙ ap (λ (p : PlayedNode). Some (row_of p)) c.in-Relay.is;
  kept = s.nodes.each c.args.number (played.Relay c.in-Relay.row c.in-Relay.relay) (sym c.in_ok-node.ensures.kept ∙ ap (λ (p : PlayedNode). Some p) c.in-Relay.is);
}

pub returns-in-Server-clause-row : goal.returns-in-Server-clause-row
returns-in-Server-clause-row c =
    sym (ap (λ (o : Option Node). option_and_then as_relay o) (sym c.in_ok-node.ensures.row ∙ ap (λ (p : PlayedNode). Some (row_of p)) c.in-Server.is))

pub returns-in-Nat-clause-row : goal.returns-in-Nat-clause-row
returns-in-Nat-clause-row c =
    sym (ap (λ (o : Option Node). option_and_then as_relay o) (sym c.in_ok-node.ensures.row ∙ ap (λ (p : PlayedNode). Some (row_of p)) c.in-Nat.is))

pub returns-in-Client-clause-row : goal.returns-in-Client-clause-row
returns-in-Client-clause-row c =
    sym (ap (λ (o : Option Node). option_and_then as_relay o) (sym c.in_ok-node.ensures.row ∙ ap (λ (p : PlayedNode). Some (row_of p)) c.in-Client.is))

pub returns-in-Native-clause-row : goal.returns-in-Native-clause-row
returns-in-Native-clause-row c =
    sym (ap (λ (o : Option Node). option_and_then as_relay o) (sym c.in_ok-node.ensures.row ∙ ap (λ (p : PlayedNode). Some (row_of p)) c.in-Native.is))
