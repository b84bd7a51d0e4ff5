use Rattle.lab_nodes.proofs.Words.{ChangesAt, Restarts, Some, length, refl, set, slice_get, slice_get_read, subst, ℕ, ◌<◌, ◌≡◌}
use Rattle.lab_nodes.proofs.NodeLists.{changed, ready_at, still_ready}
use Rattle.lab_nodes.proofs.one_node.restart_at.Goals as goal

pub returns-clause-ready : goal.returns-clause-ready
returns-clause-ready c = λ m all.
    let items = c.args.nodes.now.items in
    let k = c.from.result in
    let before = c.index_mut-node.result.now in
    let within : k < length items = rw (c.from.ensures) c.requires.within in
    let here : slice_get items k ≡ Some before = slice_get_read items (length items) k before refl within c.index_mut-node.ensures.value in
    still_ready m items k c.restart.new.self all (c.restart.ensures.ready m (ready_at m items k before all here))

pub returns-clause-restarts : goal.returns-clause-restarts
returns-clause-restarts c =
    let items = c.args.nodes.now.items in
    let k = c.from.result in
    let before = c.index_mut-node.result.now in
    let within : k < length items = rw (c.from.ensures) c.requires.within in
    let here : slice_get items k ≡ Some before = slice_get_read items (length items) k before refl within c.index_mut-node.ensures.value in
    subst (λ (n : ℕ). ChangesAt (Restarts c.args.now.0) n items (set items k c.restart.new.self)) c.from.ensures (changed (Restarts c.args.now.0) items k before c.restart.new.self here c.restart.ensures.row c.restart.ensures.restarts)
