use Rattle.td_chain.proofs.Words.{ChainsStandFor, ChainsState, List, NatState, NatsStand, Nesting, Option, behind_of, map, option_map, passing_of, slice_get, subst, sym, walk, way_out, ◌≡◌}
use Rattle.td_chain.proofs.chains.Chains.walked.Goals as goal

pub returns : goal.returns
returns c = λ h.
    let s = c.args.sending in
    let t = c.self.inside.topology.now in
    subst (λ (x : ChainsState). ChainsStandFor x h → option_map passing_of c.walk_out.result ≡ slice_get (walk x.topology h s.now.0 s.dst (way_out x.chain s.nat) s.inside) c.args.place) c.self.view_is (λ stand.
    subst (λ (chain : List Nesting). option_map passing_of c.walk_out.result ≡ slice_get (walk t h s.now.0 s.dst (way_out (map behind_of chain) s.nat) s.inside) c.args.place) c.as_slice.ensures.value
    (c.walk_out.ensures h (subst (λ (x : List (Option NatState)). NatsStand t x h) (sym c.as_slice-2.ensures.value) stand)))
