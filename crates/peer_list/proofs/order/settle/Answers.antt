use Rattle.peer_list.proofs.Words.{ap, arith, cond, count_by, entry_due, eq-eqb, get, is_some, length, nat_eq, refl, vec_capacity, ◌&&◌, ◌+◌, ◌∙◌, ◌≡◌}
use Rattle.peer_list.proofs.OrderLemmas.{one_if, once_settled, room_without}
use Rattle.peer_list.proofs.order.settle.Goals as goal

pub put-requires-clause-room : goal.put-requires-clause-room
put-requires-clause-room c =
    let key = c.args.key in
    let there : count_by (nat_eq key) c.args.order.now.items ≡ one_if (is_some c.args.before) =
    c.requires.once key ∙ ap (λ b. one_if (is_some (cond b c.args.before (entry_due (get c.args.slab.now key))))) (eq-eqb key key refl) in
    let long = c.args.order.now.ok.0 in
    let fits = c.args.order.now.ok.1 in
    let less = room_without key (vec_capacity c.args.order.now) c.args.order.now.items (is_some c.args.before) there
    (λ none. let room = c.requires.room none in omega (arith, room, long)) (omega (arith, long, fits)) in
    let same = ap length c.take_out.ensures.items in
    let new = c.take_out.new.order.ok.0 in
    let cap = c.take_out.ensures.capacity in
    omega (arith, less, same, new, cap)

pub returns-clause-once : goal.returns-clause-once
returns-clause-once c =
    let due = entry_due (get c.args.slab.now c.args.key) in
    once_settled c.args.slab.now c.args.key c.args.before c.args.order.now.items c.put.new.order.items c.requires.once
    (λ k. c.put.ensures.keys k ∙ ap (λ ks. count_by (nat_eq k) ks + one_if (nat_eq k c.args.key && is_some due)) c.take_out.ensures.items)
