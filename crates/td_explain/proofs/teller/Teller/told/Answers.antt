use Rattle.td_explain.proofs.Words.{Counts, ap, ◌∙◌}
use Rattle.td_explain.proofs.SaidLaws.{all_said_long}
use Rattle.td_explain.proofs.teller.Teller.told.Goals as goal

pub returns : goal.returns
returns c = λ s rs tells. ap (λ (k : Counts). k.packets) tells.tallies.counts_are ∙ all_said_long s rs
