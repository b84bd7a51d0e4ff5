use Rattle.reach_query.proofs.Words.{[], err_from_is_err_and}
use Rattle.reach_query.proofs.PairsWritten.{said_in, pairs_unsaid, total_ends}
use Rattle.reach_query.proofs.reach_writer.ReachWriterListener.end.Goals as goal

pub returns-in_err-write_pairs : goal.returns-in_err-write_pairs
returns-in_err-write_pairs g c =
    let p = err_from_is_err_and c.from_residual.result c.from_residual.ensures.1 in
    λ d H same stands. rw p.1 (pairs_unsaid _ _ _ _ _ _ _ p.0 (said_in c.args.world.now d H _ _ _ _ _ _ same (c.in_err-write_pairs.ensures d H stands)))

pub returns : goal.returns
returns g c = λ d H same stands.
    let said = said_in c.args.world.now d H _ _ _ _ _ _ same (c.in_ok-write_pairs.ensures d H stands) in
    total_ends _ _ _ _ _ _ _ _ said (c.write_pairs_total.ensures _ (said.counted [] c.new-counts.ensures.counts))
