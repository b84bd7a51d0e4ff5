use Rattle.td_outside.proofs.Words.{Came, List, Nothing, ap, arith, at_primary, came_from, get_or-map, length-map, map, map-set, slice_index_or, slice_set, sym, ◌∙◌, ◌≡◌}
use Rattle.td_outside.proofs.Arrivals.{turned_one}
use Rattle.td_outside.proofs.mem_arrival.all_to_primary.Goals as goal

pub loop-arrival-preserved : goal.loop-arrival-preserved
loop-arrival-preserved c =
    let i = c.loop-arrival.arrival-index in
    let olds : List Came = map came_from c.args.arrivals.now in
    let nows : List Came = map came_from c.loop-arrival.arrivals in
    let new = c.turn_to_primary.new.arrival in
    let found : came_from new ≡ at_primary (slice_index_or nows i Nothing) = c.turn_to_primary.ensures
    ∙ ap at_primary (sym (get_or-map came_from c.loop-arrival.arrivals i c.arrival-item.result Nothing (omega (
      arith,
      c.loop-arrival-test.true,
      c.loop-arrival.auto.arrivals,
    )))) in
    map-set came_from c.loop-arrival.arrivals i new ∙ ap (slice_set nows i) found ∙ turned_one olds nows i (rw (length-map c.args.arrivals.now came_from) c.loop-arrival-test.true) c.loop-arrival.invariant
