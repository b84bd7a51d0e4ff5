use Rattle.td_chain.proofs.ThereLemmas.{alone_is_chain}
use Rattle.td_chain.proofs.chains.Chains.alone.Goals as goal

pub invariant_of-result : goal.invariant_of-result
invariant_of-result c = record {
  rules = rw (c.new.ensures.items) (alone_is_chain c.args.topology.now);
  rows = c.in_ok-nats.ensures.rows;
  ready = c.in_ok-nats.ensures.ready;
}
