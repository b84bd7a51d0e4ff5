use Rattle.td_chain.proofs.Words.{ChainsStandFor, ChainsState, List, NatState, NatsStand, Nesting, Option, behind_of, chain_in, inward_of, is_nat, map, node_at, once_sent, subst, sym, true, ◌≡◌}
use Rattle.td_chain.proofs.ThereLemmas.{nat_there}
use Rattle.td_chain.proofs.chains.Chains.lets_in_once.Goals as goal

pub come_in_once-requires-clause-there : goal.come_in_once-requires-clause-there
come_in_once-requires-clause-there c =
    let t = c.self.inside.topology.now in
    let is : is_nat (node_at t c.args.nat) ≡ true = subst (λ (x : ChainsState). is_nat (node_at x.topology c.args.nat) ≡ true) (sym c.self.view_is) c.requires.nat in
    rw (c.as_slice-2.ensures.value) (nat_there t c.self.inside.nats.items c.args.nat c.self.invariant.rows is)

pub returns : goal.returns
returns c = λ h.
    let s = c.args.sending in
    let t = c.self.inside.topology.now in
    subst (λ (x : ChainsState). ChainsStandFor x h → inward_of c.come_in_once.result
    ≡ chain_in x.topology x.chain (once_sent x.topology x.chain h s.now.0 s.nat s.inside s.dst) s.now.0 c.args.nat c.args.src c.args.port) c.self.view_is (λ stand.
    subst (λ (chain : List Nesting). inward_of c.come_in_once.result
    ≡ chain_in t (map behind_of chain) (once_sent t (map behind_of chain) h s.now.0 s.nat s.inside s.dst) s.now.0 c.args.nat c.args.src c.args.port) c.as_slice.ensures.value
    (c.come_in_once.ensures h (subst (λ (x : List (Option NatState)). NatsStand t x h) (sym c.as_slice-2.ensures.value) stand)))
