use Rattle.state_writer.proofs.Words.{Fact, List, Node, None, Phase, Some, Writing, Writing-line, ap, at_node, client_facts, client_is, fact_line, facts_of, map, new_journal, subst, sym, ◌∙◌, ◌≡◌}
use Rattle.topology.specs.declared.node.Node.TheVariants as row
use Rattle.state_writer.proofs.FirstFacts.{first_of_client, first_of_relay}
use Rattle.state_writer.proofs.at_first.write_first_of.Goals as goal

pub returns-in-Client : goal.returns-in-Client
returns-in-Client g c =
    let t = c.args.topology.now in
    let n = c.args.number in
    let first = first_of_client t c.in-Client.row in
    let line = c.as_slice-in-Client.ensures.value ∙ c.client_line.ensures ∙ ap (λ (p : Phase). fact_line t None 0 (at_node n (client_is p None (Some 0)))) c.first_phase-phase.ensures in
    rw c.in-Client.is (subst (λ (fs : List Fact). Writing (g.K.Sink.state c.args.out.now) (g.K.Sink.state c.write_line-in-Client.new.out) (map (fact_line t None 0) (map (at_node n) fs)) c.write_line-in-Client.result) (sym first)
    (Writing-line _ _ _ _ _ line c.write_line-in-Client.ensures))

pub returns-in-Relay : goal.returns-in-Relay
returns-in-Relay g c =
    let t = c.args.topology.now in
    let n = c.args.number in
    let line = c.as_slice-in-Relay.ensures.value ∙ c.relay_line.ensures in
    rw c.in-Relay.is (subst (λ (fs : List Fact). Writing (g.K.Sink.state c.args.out.now) (g.K.Sink.state c.write_line-in-Relay.new.out) (map (fact_line t None 0) (map (at_node n) fs)) c.write_line-in-Relay.result) (sym first_of_relay)
    (Writing-line _ _ _ _ _ line c.write_line-in-Relay.ensures))
