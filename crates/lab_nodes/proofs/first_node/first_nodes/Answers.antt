use Rattle.lab_nodes.proofs.Words.{IsKept, Node, None, Some, [], ap, arith, draws, lab_on, length, node_at, past_of, subst, sym, ℕ, ◌∙◌, ◌≡◌}
use Rattle.lab_nodes.proofs.NodeLists.{first_more, first_few, first_stand}
use Rattle.lab_nodes.proofs.first_node.first_nodes.Goals as goal

pub loop-node-preserved : goal.loop-node-preserved
loop-node-preserved c =
    let list = c.loop-node.list.items in
    let size : length list ≡ c.len.result = sym c.loop-node.list.ok.0 ∙ sym c.len.ensures in
    let here : node_at c.args.topology.now (length list) ≡ Some c.in-Some.node = ap (node_at c.args.topology.now) size ∙ sym c.node.ensures.found ∙ c.in-Some.is in
    let same : c.len-in-Some.result ≡ length list = c.len-in-Some.ensures ∙ c.loop-node.list.ok.0 in
    let first = c.in_ok-first.first in
    rw (c.in_ok-push.ensures.items) (λ chain.
    let lab = lab_on (draws c.args.seed) c.args.topology.now chain in
    let kept = subst (λ (n : ℕ). IsKept lab.topology n (past_of lab n []) first) same (c.in_ok-first.ensures.kept chain) in
    first_more lab list first (here ∙ ap (λ (a : Node). Some a) (sym c.in_ok-first.ensures.row)) (c.loop-node.invariant chain) kept c.in_ok-first.ensures.ready)

pub returns-clause-kept : goal.returns-clause-kept
returns-clause-kept c =
    let list = c.loop-node.list.items in
    let size : length list ≡ c.len.result = sym c.loop-node.list.ok.0 ∙ sym c.len.ensures in
    let none : node_at c.args.topology.now (length list) ≡ None = ap (node_at c.args.topology.now) size ∙ sym c.node.ensures.found ∙ c.in_default.is in
    λ chain. first_stand (lab_on (draws c.args.seed) c.args.topology.now chain) list none (c.loop-node.invariant chain)

pub returns-clause-few : goal.returns-clause-few
returns-clause-few c =
    let few = c.in_default.ensures.few in
    let so_far = first_few (lab_on (draws c.args.seed) c.args.topology.now []) c.loop-node.list.items (c.loop-node.invariant []) in
    omega (arith, few, so_far)

pub returns-clause-ready : goal.returns-clause-ready
returns-clause-ready c = (c.loop-node.invariant []).ready
