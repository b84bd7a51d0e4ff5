use Rattle.world.proofs.Words.{Node, Some, TopologyState, ap, chain_in, is_nat, lab_by, nat, nat_pasts, node_at, not-false, same_ip, same_ip-true, sym, ◌∙◌, ◌≡◌}
use Rattle.world.proofs.lookup.Lookup.way_in.Goals as goal

pub inward-requires-clause-nat : goal.inward-requires-clause-nat
inward-requires-clause-nat c =
    let there : node_at c.args.self.topology.now c.args.at ≡ Some (nat c.in-Nat.row) =
    ap (node_at c.args.self.topology.now) (sym c.from.ensures) ∙ sym c.in_ok-node.ensures.found ∙ ap (λ (a : Node). Some a) c.in-Nat.is in
    ap (λ (t : TopologyState). is_nat (node_at t c.args.at)) c.requires.lookup.same ∙ ap is_nat there

pub returns : goal.returns
returns c = λ d H is.
    let t = c.args.self.topology.now in
    let nats = c.args.self.nats.now in
    let lab = lab_by d c.args.self in
    record {
      outer = c.args.at;
      row = c.in-Nat.row;
      there = ap (node_at t) (sym c.from.ensures) ∙ sym c.in_ok-node.ensures.found ∙ ap (λ (a : Node). Some a) c.in-Nat.is;
      outermost = sym c.is_inner.ensures ∙ c.if-is_inner.false;
      external = same_ip-true c.args.dst.ip c.in-Nat.row.external (not-false (same_ip c.args.dst.ip c.in-Nat.row.external) (sym c.ne.ensures ∙ c.if-ne.false));
      enters =
          ap (λ (x : TopologyState). chain_in x nats.chain (nat_pasts lab H) c.args.self.now.0 c.args.at c.args.src c.args.dst.port) (sym c.requires.lookup.same)
          ∙ sym (c.inward.ensures (nat_pasts lab H) is.stands);
    }
