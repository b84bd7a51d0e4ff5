use Rattle.relay_core.proofs.Words.{RelayDoes, Step, given, subst, sym}
use Rattle.relay_core.proofs.Entered.{takes_no_host}
use Rattle.relay_core.proofs.relay.Relay.on_host.Goals as goal

pub returns : goal.returns
returns c = record {
  done = λ x.
      subst (λ (s : Step). RelayDoes c.args.self.now c.args.now.0 (given x) s c.args.self.now) (sym c.reset.ensures)
      (takes_no_host c.args.self.now c.args.now.0 x c.requires.callable.clock);
}
