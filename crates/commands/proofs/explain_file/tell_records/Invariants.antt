use Rattle.commands.proofs.Words.{IsWithinBytes, TellsSoFar, bytes_left}
use Rattle.commands.proofs.explain_file.tell_records.Given as goal

abbrev pub invariant-records : goal.invariant-records
invariant-records g l = record {
  inside : IsWithinBytes l.explainer;
  told : TellsSoFar (g.K.Sink.state l.fn.out) (g.K.Sink.state l.out) l.asked l.bytes l.explainer l.place;
}

abbrev pub decreases-records : goal.decreases-records
decreases-records g l = bytes_left l.explainer
