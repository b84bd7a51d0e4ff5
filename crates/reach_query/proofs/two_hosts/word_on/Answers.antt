use Rattle.reach_query.proofs.Words.{lab_in, reach_between, reach_of, sym, ◌∙◌}
use Rattle.reach_query.proofs.NoWord.{from_nobody, to_nobody}
use Rattle.reach_query.proofs.two_hosts.word_on.Goals as goal

pub returns-in_err-sender : goal.returns-in_err-sender
returns-in_err-sender c = record {
  word = λ d H s. c.from_residual.ensures ∙ sym (from_nobody (lab_in d c.args.world.now) H c.args.from c.args.to c.in_err-sender.ensures.none);
}

pub returns-in_err-receiver : goal.returns-in_err-receiver
returns-in_err-receiver c = record {
  word = λ d H s. c.from_residual-in_err-receiver.ensures ∙ sym (to_nobody (lab_in d c.args.world.now) H c.args.from c.args.to c.in_err-receiver.ensures.none);
}

pub returns : goal.returns
unfolding reach_of
returns c = record {
  word = λ d H s.
      let from = c.in_ok-sender.ensures in
      let to = c.in_ok-receiver.ensures in
      c.word_of_host.ensures d H s (from.here d H s) (to.here d H s)
      ∙ (λ i. reach_between (lab_in d c.args.world.now) H (from.number i) (to.number i) (sym from.node i) (sym to.node i));
}
