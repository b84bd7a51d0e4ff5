use Rattle.player.proofs.Words.{Full, List, Record, Sums, TopologyState, Writing-line, ap, err_from_is_err_and, length, not_wrote, record_line, record_of, sums_of, wrote, ◌∙◌, ◌≡◌}
use Rattle.player.proofs.SmallSums.{sums_small}
use Rattle.player.proofs.report_writer.ReportWriterListener.hear.Goals as goal

-- the line of a record that was heard is the report's
heard_line : (t : TopologyState) (H : List Full) (r : Full) (own : TopologyState) (sums : Sums) (said : Record) → own ≡ t → sums ≡ sums_of H → said ≡ record_of r → record_line own sums.records said ≡ record_line t (length H) (record_of r)
heard_line t H r own sums said at is says =
    ap (λ (z : TopologyState). record_line z sums.records said) at
    ∙ ap (λ (z : Sums). record_line t z.records said) is
    ∙ ap (record_line t (length H)) says

pub add-requires : goal.add-requires
add-requires g c =
    let can = c.requires in
    sums_small _ can.history can.last can.kept.1 can.kept.2 can.few can.news.fits

pub returns-in_err-write_line : goal.returns-in_err-write_line
returns-in_err-write_line g c =
    let p = err_from_is_err_and c.from_residual.result c.from_residual.ensures.1 in
    let self = c.args.self.now in
    record {
      kept = λ t H r kept news. rw p.1 tt;
      written = λ t H r kept news.
          let same = c.as_slice.ensures.value ∙ c.line.ensures ∙ heard_line t H r self.topology.now self.sums c.args.said.now kept.0 kept.1 news.is in
          rw (p.1, p.2) (Writing-line _ _ _ _ _ same (not_wrote _ _ _ _ _ c.in_err-write_line.ensures));
    }

pub returns : goal.returns
returns g c =
    let self = c.args.self.now in
    record {
      kept = λ t H r kept news. (kept.0, c.add.ensures.sums H r kept.1 news.is news.tells, c.add.ensures.few kept.2);
      written = λ t H r kept news.
          let same = c.as_slice.ensures.value ∙ c.line.ensures ∙ heard_line t H r self.topology.now self.sums c.args.said.now kept.0 kept.1 news.is in
          Writing-line _ _ _ _ _ same (wrote _ _ _ _ c.in_ok-write_line.ensures);
    }
