use Rattle.td_chain.proofs.Words.{ChainsState, List, Nesting, behind_of, is_cone_kind, list_all, map, nat_set_up, subst, way_out, ℕ, ◌≡◌}
use Rattle.td_chain.proofs.chains.Chains.is_all_cone.Goals as goal

pub returns : goal.returns
returns c =
    subst (λ (x : ChainsState). c.is_all_cone.result ≡ list_all (λ (k : ℕ). is_cone_kind (nat_set_up x.topology k).kind) (way_out x.chain c.args.nat)) c.self.view_is
    (subst (λ (chain : List Nesting). c.is_all_cone.result ≡ list_all (λ (k : ℕ). is_cone_kind (nat_set_up c.self.inside.topology.now k).kind) (way_out (map behind_of chain) c.args.nat))
    c.as_slice.ensures.value c.is_all_cone.ensures)
