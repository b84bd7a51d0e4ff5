-- Each law of this crate, under the name of its function.
use Rattle.std.proofs.Common.{◌≡◌, ℕ, List, [], reverse, sym, ap, subst, ◌∙◌}
use Rattle.std.specs.Prelude.{filter_map}
use Rattle.topology.specs.Chains.{Passing}
use Rattle.history.specs.Full.{Made}
use Rattle.legal.specs.Past.{armed}
use Rattle.legal.specs.Emit.{by_way}
use Rattle.states.specs.Marked.{PassedIsMarked}
use Rattle.states.proofs.OnePassing.{passing_made, marks_tell, passed_is_made}
pub use Rattle.states.proofs.LatestPeers.{latest_is_concerned}
pub use Rattle.states.proofs.LastingNats.{nat_facts_last}
pub use Rattle.states.proofs.LastingPeers.{peer_facts_last}
pub use Rattle.states.proofs.WaysWalked.{passed_is_walked}
pub use Rattle.states.proofs.PortsKept.{ways_keep_ports}

pub passed_is_marked : PassedIsMarked
passed_is_marked lab H r n c e act one =
    let by_one = passed_is_made lab H r.moment c.nat c.inside (armed H) e.step.sends in
    let by_way_out = subst (λ (way : List ℕ). reverse (by_way lab H r.moment way c.inside (armed H) 0 [] e.step.sends).passed
    ≡ filter_map (passing_made c.nat r.moment c.inside) (by_way lab H r.moment way c.inside (armed H) 0 [] e.step.sends).made) (sym one) by_one in
    ap (λ (ps : List Passing). reverse ps) act.passed ∙ by_way_out
    ∙ ap (λ (made : List Made). filter_map (passing_made c.nat r.moment c.inside) made) (sym act.made)
    ∙ sym (marks_tell c.nat r.moment c.inside r.first r.made)
