use Rattle.load_ends.proofs.Words.{Err, Failed, Ok, TopologyState, Writing, [], arith, err_from_is_err_and, length, refl, subst, where_is, whereabouts_line, ◌<◌, ◌∷◌, ◌≤◌}
use Rattle.load_ends.proofs.Told.{NextTold, none_told, next_told, one_told, front_told, all_written, all_counted}
use Rattle.load_ends.proofs.ends_table.EndsTable.write_packets.Goals as goal

pub loop-place-init : goal.loop-place-init
loop-place-init g c = none_told c.args.world.now c.args.keeper.now c.args.self.now.rows.items (g.K.Sink.state c.args.out.now) c.args.counts.now c.requires.none

pub add-requires : goal.add-requires
add-requires g c = record {
  few =
      let told = c.loop-place.invariant in
      let within : c.loop-place.place < length c.args.self.now.rows.items = omega (arith, c.loop-place-test.true, c.deref-row-items.ensures.len) in
      omega (arith, told.counted.packets, told.count, within, c.args.self.now.few);
}

pub loop-place-preserved : goal.loop-place-preserved
loop-place-preserved g c =
    let w = c.args.world.now in
    let k = c.args.keeper.now in
    let rows = c.args.self.now.rows.items in
    let i = c.loop-place.place in
    let x = where_is c.ends_of-ends.result in
    let told = c.loop-place.invariant in
    let mid = g.K.Sink.state c.loop-place.out in
    let new = g.K.Sink.state c.write_packet.new.out in
    let within : i < length rows = omega (arith, c.loop-place-test.true, c.deref-row-items.ensures.len) in
    let next : NextTold w k rows i x = next_told w k rows _ i c.moment.result.0 _ x c.ends_of-ends.ensures c.deref-row-items.ensures.value within c.moment.ensures.kept in
    let line : Writing {E = Failed} mid new (whereabouts_line w.topology x ∷ []) (Ok tt) =
    subst (λ (t : TopologyState). Writing {E = Failed} mid new (whereabouts_line t x ∷ []) (Ok tt)) c.topology.ensures c.in_ok-write_packet.ensures in
    one_told w k rows (g.K.Sink.state c.args.out.now) new next told c.add.new.self line (c.add.ensures told.ws x told.counted refl)

pub returns-in_err-write_packet : goal.returns-in_err-write_packet
returns-in_err-write_packet g c =
    let w = c.args.world.now in
    let k = c.args.keeper.now in
    let rows = c.args.self.now.rows.items in
    let i = c.loop-place.place in
    let x = where_is c.ends_of-ends.result in
    let e = c.in_err-write_packet.field-0.0 in
    let mid = g.K.Sink.state c.loop-place.out in
    let new = g.K.Sink.state c.write_packet.new.out in
    let p = err_from_is_err_and c.from_residual.result c.from_residual.ensures.1 in
    let within : i < length rows = omega (arith, c.loop-place-test.true, c.deref-row-items.ensures.len) in
    let next : NextTold w k rows i x = next_told w k rows _ i c.moment.result.0 _ x c.ends_of-ends.ensures c.deref-row-items.ensures.value within c.moment.ensures.kept in
    let line : Writing {E = Failed} mid new (whereabouts_line w.topology x ∷ []) (Err e) =
    subst (λ (t : TopologyState). Writing {E = Failed} mid new (whereabouts_line t x ∷ []) (Err e)) c.topology.ensures c.in_err-write_packet.ensures in
    record {
      written = λ d H stands kept is. rw p.1 (front_told w k rows (g.K.Sink.state c.args.out.now) new next c.loop-place.invariant e p.0 line H (record { draws = d; stands = stands; kept = kept; are = is }));
      counted = λ d H stands kept is. rw p.1 tt;
    }

pub returns : goal.returns
returns g c =
    let w = c.args.world.now in
    let k = c.args.keeper.now in
    let rows = c.args.self.now.rows.items in
    let i = c.loop-place.place in
    let old = g.K.Sink.state c.args.out.now in
    let new = g.K.Sink.state c.loop-place.out in
    let end : length rows ≤ i = omega (arith, c.loop-place-test.false, c.deref-row-items.ensures.len) in
    record {
      written = λ d H stands kept is. all_written w k rows old new end c.loop-place.invariant H (record { draws = d; stands = stands; kept = kept; are = is });
      counted = λ d H stands kept is. all_counted w k rows old new end c.loop-place.invariant H (record { draws = d; stands = stands; kept = kept; are = is });
    }
