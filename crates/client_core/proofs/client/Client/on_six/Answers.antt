use Rattle.client_core.proofs.Words.{Does, Step, from_six, subst, sym}
use Rattle.client_core.proofs.Entered.{takes_no_six}
use Rattle.client_core.proofs.client.Client.on_six.Goals as goal

pub returns : goal.returns
returns c = record {
  done = λ x.
      subst (λ (s : Step). Does c.args.self.now c.args.now.0 (from_six x) s c.args.self.now) (sym c.reset.ensures)
      (takes_no_six c.args.self.now c.args.now.0 x c.requires.callable.clock);
}
