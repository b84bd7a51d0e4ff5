use Rattle.load_ends.proofs.Words.{[], both_written, ended_early, err_from_is_err_and, map, packets_line, whereabouts_line, ◌∷◌}
use Rattle.load_ends.proofs.Places.{all_told}
use Rattle.load_ends.proofs.ends_table.EndsTable.write_ends.Goals as goal

pub returns-in_err-write_packets : goal.returns-in_err-write_packets
returns-in_err-write_packets g c = λ d H tells kept stands.
    let t = c.args.world.now.topology in
    let p = err_from_is_err_and c.from_residual.result c.from_residual.ensures.1 in
    let rows = c.note_wire.ensures d H stands tells (c.wire.ensures t H kept) in
    rw p.1 (ended_early (g.K.Sink.state c.args.out.now) (g.K.Sink.state c.write_packets.new.out) (map (whereabouts_line t) (all_told t H)) (packets_line (all_told t H) ∷ []) _ p.0
    (c.in_err-write_packets.ensures.written d H stands kept rows))

pub returns : goal.returns
returns g c = λ d H tells kept stands.
    let t = c.args.world.now.topology in
    let rows = c.note_wire.ensures d H stands tells (c.wire.ensures t H kept) in
    both_written (g.K.Sink.state c.args.out.now) (g.K.Sink.state c.write_packets.new.out) (g.K.Sink.state c.write_counts.new.out) (map (whereabouts_line t) (all_told t H)) (packets_line (all_told t H) ∷ [])
    c.write_counts.result (c.in_ok-write_packets.ensures.written d H stands kept rows) (c.write_counts.ensures (all_told t H) (c.in_ok-write_packets.ensures.counted d H stands kept rows))
