use Rattle.state_writer.proofs.Words.{Failed, List, Node, NodeFact, None, Ok, Record, Some, WritesFacts, ap, node_at, nothing_wrote, subst, sym, ◌∙◌, ◌≡◌}
use Rattle.topology.specs.declared.node.Node.TheVariants as row
use Rattle.state_writer.proofs.AtNode.{no_node, not_there, at_server, at_native}
use Rattle.state_writer.proofs.at_node.write_at_node.Goals as goal

pub returns-in_default : goal.returns-in_default
returns-in_default g c = λ d r H stands said asked.
    let w = c.args.world.now in
    let none : r.node ≡ None = sym (ap (λ (x : Record). x.node) said) ∙ c.in_default.is in
    subst (λ (fs : List NodeFact). WritesFacts {E = Failed} w.topology (Some c.args.index) w.moment (g.K.Sink.state c.args.out.now) (g.K.Sink.state c.args.out.now) fs (Ok tt)) (sym (no_node w.topology H r none)) (nothing_wrote _)

pub returns-in-Server : goal.returns-in-Server
returns-in-Server g c = λ d r H stands said asked.
    let w = c.args.world.now in
    let n = c.in-Some.number in
    let node : r.node ≡ Some n = sym (ap (λ (x : Record). x.node) said) ∙ c.in-Some.is in
    let there : node_at w.topology n ≡ Some (row.Server c.in-Server.field-0) = rw (c.topology-topology.ensures, c.from.ensures) at (sym c.node.ensures.found ∙ c.in-Some-node.is ∙ ap (λ (x : Node). Some x) c.in-Server.is) in
    subst (λ (fs : List NodeFact). WritesFacts {E = Failed} w.topology (Some c.args.index) w.moment (g.K.Sink.state c.args.out.now) (g.K.Sink.state c.args.out.now) fs (Ok tt))
    (sym (at_server w.topology H r n node c.in-Server.field-0 there)) (nothing_wrote _)

pub returns-in-Native : goal.returns-in-Native
returns-in-Native g c = λ d r H stands said asked.
    let w = c.args.world.now in
    let n = c.in-Some.number in
    let node : r.node ≡ Some n = sym (ap (λ (x : Record). x.node) said) ∙ c.in-Some.is in
    let there : node_at w.topology n ≡ Some (row.Native c.in-Native.field-0) = rw (c.topology-topology.ensures, c.from.ensures) at (sym c.node.ensures.found ∙ c.in-Some-node.is ∙ ap (λ (x : Node). Some x) c.in-Native.is) in
    subst (λ (fs : List NodeFact). WritesFacts {E = Failed} w.topology (Some c.args.index) w.moment (g.K.Sink.state c.args.out.now) (g.K.Sink.state c.args.out.now) fs (Ok tt))
    (sym (at_native w.topology H r n node c.in-Native.field-0 there)) (nothing_wrote _)
