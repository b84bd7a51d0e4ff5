use Rattle.follow_writer.proofs.Words.{Err, HearFault, List, Ok, WritesNothing-refl, Writing, arith, err_from_is_err_and, length, not_wrote, refl, subst, sym, wrote, ℕ, ◌+◌, ◌∙◌, ◌∷◌, ◌≡◌}
use Rattle.player.specs.declared.hear_fault.HearFault.TheVariants.{Failed}
use Rattle.follow_writer.proofs.Hears.{KeepsAndSays, told_by_world, noted_by, lines_follow}
use Rattle.follow_writer.proofs.follow_writer.FollowWriterListener.hear.Goals as goal

pub returns-in_err-note : goal.returns-in_err-note
returns-in_err-note g c =
    let p = err_from_is_err_and c.from_residual.result c.from_residual.ensures.1 in
    record {
      kept = λ t H r kept news. rw p.1 tt;
      written = λ t H r kept news. rw (p.1, p.2) (refl, refl, WritesNothing-refl _);
    }

pub returns-in_err-write_said : goal.returns-in_err-write_said
returns-in_err-write_said g c =
    let p = err_from_is_err_and c.from_residual-in_err-write_said.result c.from_residual-in_err-write_said.ensures.1 in
    let new = c.note.new.self in
    record {
      kept = λ t H r kept news. rw p.1 tt;
      written = λ t H r kept news.
          let told = told_by_world t c.args.world.now c.args._event.now c.args.said.now H r _ _ news c.peer_of-peer.ensures c.source_of-from.ensures in
          let noted = noted_by (KeepsAndSays H r new.keeper new.ends new.said.items) t H r c.args.self.now c.args.said.now _ _ kept told (c.in_ok-note.ensures.noted H r) in
          let at : new.topology.now ≡ t = rw c.in_ok-note.ensures.topology kept.topology in
          let counted : new.records ≡ length H = c.in_ok-note.ensures.records ∙ kept.records in
          let same = lines_follow t new.topology.now H r new.records c.deref.result.now at counted (c.deref.ensures.value ∙ noted.2) in
          rw (p.1, p.2) (subst (λ (lines : List (List ℕ)). Writing {E = HearFault} (g.K.Sink.state c.args.out.now) (g.K.Sink.state c.write_said.new.out) lines (Err Failed)) same
          (not_wrote _ _ _ _ _ (c.in_err-write_said.ensures r (sym news.is))));
    }

pub returns : goal.returns
returns g c =
    let new = c.note.new.self in
    record {
      kept = λ t H r kept news.
          let told = told_by_world t c.args.world.now c.args._event.now c.args.said.now H r _ _ news c.peer_of-peer.ensures c.source_of-from.ensures in
          let noted = noted_by (KeepsAndSays H r new.keeper new.ends new.said.items) t H r c.args.self.now c.args.said.now _ _ kept told (c.in_ok-note.ensures.noted H r) in
          let at : new.topology.now ≡ t = rw c.in_ok-note.ensures.topology kept.topology in
          let counted : new.records ≡ length H = c.in_ok-note.ensures.records ∙ kept.records in
          let more : new.records + 1 ≡ length (r ∷ H) = omega (arith, counted) in
          record { topology = at; records = more; keeper = noted.0; ends = noted.1 };
      written = λ t H r kept news.
          let told = told_by_world t c.args.world.now c.args._event.now c.args.said.now H r _ _ news c.peer_of-peer.ensures c.source_of-from.ensures in
          let noted = noted_by (KeepsAndSays H r new.keeper new.ends new.said.items) t H r c.args.self.now c.args.said.now _ _ kept told (c.in_ok-note.ensures.noted H r) in
          let at : new.topology.now ≡ t = rw c.in_ok-note.ensures.topology kept.topology in
          let counted : new.records ≡ length H = c.in_ok-note.ensures.records ∙ kept.records in
          let same = lines_follow t new.topology.now H r new.records c.deref.result.now at counted (c.deref.ensures.value ∙ noted.2) in
          subst (λ (lines : List (List ℕ)). Writing {E = HearFault} (g.K.Sink.state c.args.out.now) (g.K.Sink.state c.write_said.new.out) lines (Ok tt)) same
          (wrote _ _ _ _ (c.in_ok-write_said.ensures r (sym news.is)));
    }
