use Rattle.qualify.proofs.Words.{QualifierStandsFor, QualifierState, qualification_of, subst, sym, words_of}
use Rattle.qualify.proofs.Stands.{stands_tick}
use Rattle.qualify.proofs.qualifier.Qualifier.on_tick.Goals as goal

pub returns-clause-stands : goal.returns-clause-stands
returns-clause-stands c j e h a =
    stands_tick c.self.inside.settings (qualification_of c.self.inside.state) (qualification_of c.ticked-self-inside.result) c.args.now.0 c.ticked-self-inside.new.step (words_of c.args.rng.now) c.ticked-self-inside.ensures.tick.turns j e
    (subst (λ (q : QualifierState). QualifierStandsFor q j) (sym c.self.view_is) h) a
