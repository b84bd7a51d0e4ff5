use Rattle.state_writer.proofs.Words.{ClientNode, Failed, IsTopology, List, Mark, None, Ok, Passing, Record, Some, WritesFacts, [], ap, client_at, flat_map, is_chain, lab_in, marks_of, nothing_wrote, passing_facts, reverse, subst, sym, true, walk_marked, walk_of, ℕ, ◌∙◌, ◌∷◌, ◌≡◌}
use Rattle.state_writer.proofs.LetOut.{client_nat, client_there, nothing_of_none, nothing_of_others, walked_of_client}
use Rattle.state_writer.proofs.at_nats.write_let_out.Goals as goal

pub returns-in_default : goal.returns-in_default
returns-in_default g c = λ d r H stands said.
    let w = c.args.world.now in
    let none : r.node ≡ None = sym (ap (λ (x : Record). x.node) said) ∙ c.in_default.is in
    subst (λ (ps : List Passing). WritesFacts {E = Failed} w.topology (Some c.args.index) w.moment (g.K.Sink.state c.args.out.now) (g.K.Sink.state c.args.out.now) (flat_map (passing_facts w.topology) (reverse ps)) (Ok tt))
    (sym (nothing_of_none (lab_in d w) H r stands.grown.0 none)) (nothing_wrote _)

pub returns-in_default-client_row : goal.returns-in_default-client_row
returns-in_default-client_row g c = λ d r H stands said.
    let w = c.args.world.now in
    let n = c.in-Some.number in
    let node : r.node ≡ Some n = sym (ap (λ (x : Record). x.node) said) ∙ c.in-Some.is in
    let other : client_at w.topology n ≡ None = rw c.topology-topology.ensures at (sym c.client_row.ensures ∙ c.in_default-client_row.is) in
    subst (λ (ps : List Passing). WritesFacts {E = Failed} w.topology (Some c.args.index) w.moment (g.K.Sink.state c.args.out.now) (g.K.Sink.state c.args.out.now) (flat_map (passing_facts w.topology) (reverse ps)) (Ok tt))
    (sym (nothing_of_others (lab_in d w) H r stands.grown.0 n node other)) (nothing_wrote _)

pub write_marks-requires-clause-nat : goal.write_marks-requires-clause-nat
write_marks-requires-clause-nat g c =
    let w = c.args.world.now in
    let rules : IsTopology w.topology = rw c.topology-topology.ensures at c.clients-rules.ensures.rules in
    client_nat w.topology c.in-Some.number c.in-Some-client_row.client rules (rw c.topology-topology.ensures at (sym c.client_row.ensures ∙ c.in-Some-client_row.is))

pub returns : goal.returns
returns g c = λ d r H stands said.
    let w = c.args.world.now in
    let n = c.in-Some.number in
    let row : ClientNode = c.in-Some-client_row.client in
    let node : r.node ≡ Some n = sym (ap (λ (x : Record). x.node) said) ∙ c.in-Some.is in
    let rules : IsTopology w.topology = rw c.topology-topology.ensures at c.clients-rules.ensures.rules in
    let there : client_at w.topology n ≡ Some row = rw c.topology-topology.ensures at (sym c.client_row.ensures ∙ c.in-Some-client_row.is) in
    let chain : is_chain w.topology w.chain ≡ true = rw (c.nats.ensures.same, c.nats.ensures.chain) at c.topology-chain.ensures.rules in
    let walked = walked_of_client (lab_in d w) H r stands.grown.0 n row node (client_there w.topology n row there) rules chain stands.grown in
    let marks : c.as_slice.result.now ≡ marks_of r.first r.made = c.as_slice.ensures.value ∙ ap (λ (x : Record). x.marks) said in
    let by_marks = subst (λ (ms : List Mark). WritesFacts {E = Failed} w.topology (Some c.args.index) w.moment (g.K.Sink.state c.args.out.now) (g.K.Sink.state c.write_marks.new.out)
    (flat_map (passing_facts w.topology) (flat_map (walk_marked (walk_of (lab_in d w) (r ∷ H) w.moment row)) ms)) c.write_marks.result) marks (c.write_marks.ensures d (r ∷ H) stands) in
    let at_moment = subst (λ (m : ℕ). WritesFacts {E = Failed} w.topology (Some c.args.index) w.moment (g.K.Sink.state c.args.out.now) (g.K.Sink.state c.write_marks.new.out)
    (flat_map (passing_facts w.topology) (flat_map (walk_marked (walk_of (lab_in d w) (r ∷ H) m row)) (marks_of r.first r.made))) c.write_marks.result) stands.moment by_marks in
    subst (λ (ps : List Passing). WritesFacts {E = Failed} w.topology (Some c.args.index) w.moment (g.K.Sink.state c.args.out.now) (g.K.Sink.state c.write_marks.new.out)
    (flat_map (passing_facts w.topology) ps) c.write_marks.result) (sym walked) at_moment
