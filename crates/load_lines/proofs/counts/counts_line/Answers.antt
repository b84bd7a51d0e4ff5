use Rattle.load_lines.proofs.Words.{◌∙◌}
use Rattle.load_lines.proofs.Counted.{counted_line}
use Rattle.load_lines.proofs.counts.counts_line.Goals as goal

pub returns : goal.returns
returns c = λ ws counts. c.put_counts.ensures ∙ counted_line c.args.counts ws counts
