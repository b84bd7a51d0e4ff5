use Rattle.td_chain.proofs.Words.{IfSome, Option, behind_of, is_nat, map, node_at, outer_in, sym, true, ℕ, ◌∙◌, ◌≡◌}
use Rattle.td_chain.proofs.LeaveLemmas.{if_some}
use Rattle.td_chain.proofs.ThereLemmas.{outer_is_nat}
use Rattle.td_chain.proofs.leave.outside.Goals as goal

pub returns-clause-there : goal.returns-clause-there
returns-clause-there c = if_some c.outer_in.result (λ o e. outer_is_nat c.args.all.topology.now (map behind_of c.args.all.chain.now) c.args.number o c.requires.rules (sym c.outer_in.ensures ∙ e))
