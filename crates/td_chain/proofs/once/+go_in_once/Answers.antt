use Rattle.td_chain.proofs.Words.{behind_of, map, sym, ◌∙◌}
use Rattle.td_chain.proofs.ThereLemmas.{nat_there, inner_is_nat}
use Rattle.td_chain.proofs.once.+go_in_once.Goals as goal

pub let_in_once-further-requires-clause-there : goal.let_in_once-further-requires-clause-there
let_in_once-further-requires-clause-there g c =
    let t = c.args.all.topology.now in
    nat_there t c.args.all.nats.now c.in-Some-inner_at.inner c.requires.rows (inner_is_nat t (map behind_of c.args.all.chain.now) c.args.number c.in-Some.inside.ip c.in-Some-inner_at.inner (sym c.inner_at.ensures ∙ c.in-Some-inner_at.is))
