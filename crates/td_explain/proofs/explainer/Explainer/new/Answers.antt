use Rattle.td_explain.proofs.Words.{refl, starts}
use Rattle.td_explain.proofs.explainer.Explainer.new.Goals as goal

pub returns-clause-begins : goal.returns-clause-begins
returns-clause-begins c = record {
  bytes_are = refl;
  walks = starts c.in_ok-head.head c.args.bytes.now c.in_ok-head.ensures.found;
  tells = c.new.ensures;
}
