use Rattle.td_chain.proofs.Words.{IfSome, Option, is_nat, node_at, subst, true, ℕ, ◌≡◌}
use Rattle.td_chain.proofs.ThereLemmas.{nat_there}
use Rattle.td_chain.proofs.walk.+walk_on.Goals as goal

pub passed_by-requires-clause-there : goal.passed_by-requires-clause-there
passed_by-requires-clause-there g c = nat_there c.args.all.topology.now c.args.all.nats.now c.in-Some.number c.requires.rows
    (subst (λ (o : Option ℕ). IfSome o (λ k. is_nat (node_at c.args.all.topology.now k) ≡ true)) c.in-Some.is c.requires.there)
