use Rattle.td_outside.proofs.Words.{arith, common_steps}
use Rattle.td_outside.proofs.Arrivals.{turned_so}
use Rattle.td_outside.proofs.mem_link.MemLinkLink.open_client.Goals as goal

pub invariant_of-self : goal.invariant_of-self
invariant_of-self c =
    let b = c.bring_to_primary.ensures in
    (omega (arith, b.size, c.self.invariant.0), λ more. c.self.invariant.1 (omega (arith, b.size, more)), c.self.invariant.2, c.self.invariant.3, c.self.invariant.4, turned_so _ _ b.behind)

pub returns-clause-state : goal.returns-clause-state
returns-clause-state c =
    let b = c.bring_to_primary.ensures in
    rw (← c.self.view_is) (grind (arith, common_steps, b.before, b.behind))
