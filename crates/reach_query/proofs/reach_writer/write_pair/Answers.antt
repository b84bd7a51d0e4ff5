use Rattle.reach_query.proofs.Words.{lab_in, sym}
use Rattle.reach_query.proofs.PairsWritten.{no_pair, none_said}
use Rattle.reach_query.proofs.reach_writer.write_pair.Goals as goal

pub returns-in_default-clause-said : goal.returns-in_default-clause-said
returns-in_default-clause-said g c = λ d H stands. none_said _ _ _ _ (no_pair (lab_in d c.args.world.now) H c.args.from c.args.to (sym (c.in_default.ensures.word d H stands)))
