use Rattle.td_chain.proofs.Words.{Some, ap, length, node_at, sym, ◌∙◌, ◌≡◌}
use Rattle.td_chain.proofs.ThereLemmas.{first_of, first_more, first_rows, first_stand, first_ready}
use Rattle.td_chain.proofs.first_nats.first_nats.Goals as goal

pub loop-node-preserved : goal.loop-node-preserved
loop-node-preserved c =
    let list = c.loop-node.list.items in
    let size : length list ≡ c.len.result = sym c.loop-node.list.ok.0 ∙ sym c.len.ensures in
    let at : node_at c.args.topology.now (length list) ≡ Some c.in-Some.node = ap (node_at c.args.topology.now) size ∙ sym c.node.ensures.found ∙ c.in-Some.is in
    rw (c.in_ok-push.ensures.items) (first_more c.args.topology.now list c.in-Some.node c.first_nat.result at c.loop-node.invariant c.first_nat.ensures.row
    (first_of c.first_nat.result c.first_nat.ensures.stands c.first_nat.ensures.moment))

pub returns-clause-rows : goal.returns-clause-rows
returns-clause-rows c =
    let list = c.loop-node.list.items in
    let size : length list ≡ c.len.result = sym c.loop-node.list.ok.0 ∙ sym c.len.ensures in
    first_rows c.args.topology.now list (ap (node_at c.args.topology.now) size ∙ sym c.node.ensures.found ∙ c.in_default.is) c.loop-node.invariant

pub returns-clause-stand : goal.returns-clause-stand
returns-clause-stand c =
    let list = c.loop-node.list.items in
    let size : length list ≡ c.len.result = sym c.loop-node.list.ok.0 ∙ sym c.len.ensures in
    first_stand c.args.topology.now list (ap (node_at c.args.topology.now) size ∙ sym c.node.ensures.found ∙ c.in_default.is) c.loop-node.invariant

pub returns-clause-ready : goal.returns-clause-ready
returns-clause-ready c =
    let list = c.loop-node.list.items in
    let size : length list ≡ c.len.result = sym c.loop-node.list.ok.0 ∙ sym c.len.ensures in
    first_ready c.args.topology.now list (ap (node_at c.args.topology.now) size ∙ sym c.node.ensures.found ∙ c.in_default.is) c.loop-node.invariant
