use Rattle.nat_kinds.proofs.Words.{sym, ◌∙◌}
use Rattle.nat_kinds.proofs.FrontLemmas.{front_live}
use Rattle.nat_kinds.proofs.front.Front.renew.Goals as goal

pub returns-else-not-is_young-clause-live : goal.returns-else-not-is_young-clause-live
returns-else-not-is_young-clause-live c = λ places is. front_live c.args.idle c.args.now.0 places c.args.self.now is (sym c.is_young.ensures ∙ c.if-not-is_young.false)
