use Rattle.td_chain.proofs.Words.{ChainsState, is_nat, node_at, subst, sym, true, ◌≡◌}
use Rattle.td_chain.proofs.ThereLemmas.{nat_there}
use Rattle.td_chain.proofs.chains.Chains.port.Goals as goal

pub port_at-requires-clause-there : goal.port_at-requires-clause-there
port_at-requires-clause-there c =
    let t = c.self.inside.topology.now in
    let is : is_nat (node_at t c.args.nat) ≡ true = subst (λ (x : ChainsState). is_nat (node_at x.topology c.args.nat) ≡ true) (sym c.self.view_is) c.requires.nat in
    rw (c.as_slice.ensures.value) (nat_there t c.self.inside.nats.items c.args.nat c.self.invariant.rows is)
