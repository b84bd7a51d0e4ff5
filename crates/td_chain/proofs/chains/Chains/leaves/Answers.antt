use Rattle.td_chain.proofs.Words.{ChainsStandFor, ChainsState, List, NatState, NatsStand, Nesting, Option, behind_of, chain_out, map, subst, sym, ◌≡◌}
use Rattle.td_chain.proofs.chains.Chains.leaves.Goals as goal

pub returns : goal.returns
returns c = λ h.
    let s = c.args.sending in
    let t = c.self.inside.topology.now in
    subst (λ (x : ChainsState). ChainsStandFor x h → c.leave_out.result ≡ chain_out x.topology x.chain h s.now.0 s.nat s.inside s.dst) c.self.view_is (λ stand.
    subst (λ (chain : List Nesting). c.leave_out.result ≡ chain_out t (map behind_of chain) h s.now.0 s.nat s.inside s.dst) c.as_slice.ensures.value
    (c.leave_out.ensures h (subst (λ (x : List (Option NatState)). NatsStand t x h) (sym c.as_slice-2.ensures.value) stand)))
