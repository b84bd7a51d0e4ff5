use Rattle.state_writer.proofs.Words.{Writing-line, ap, codes, decimal, ℕ, ◌++◌}
use Rattle.state_writer.proofs.state_writer.StateWriterListener.end.Goals as goal

pub returns : goal.returns
returns g c = λ d H kept stands. Writing-line _ _ _ _ _ (ap (λ (n : ℕ). codes "total records " ++ (decimal n ++ codes "\n")) kept.1) c.write_count.ensures
