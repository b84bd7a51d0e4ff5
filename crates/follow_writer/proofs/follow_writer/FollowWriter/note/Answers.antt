use Rattle.follow_writer.proofs.Words.{refl, ◌∙◌}
use Rattle.follow_writer.proofs.follow_writer.FollowWriter.note.Goals as goal

pub returns : goal.returns
returns c = record {
  topology = refl;
  records = refl;
  noted = λ H r kept told.
      let heard = c.in_ok-hear.ensures H r kept.keeper told in
      (heard.0, c.in_ok-hear-2.ensures c.args.self.now.topology.now H r kept.ends told.told kept.records (c.deref.ensures.value ∙ heard.1), heard.1);
}
