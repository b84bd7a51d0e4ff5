use Rattle.qualify.proofs.Words.{QualifierStandsFor, QualifierState, qualification_of, subst, sym}
use Rattle.qualify.proofs.Stands.{stands_server}
use Rattle.qualify.proofs.qualifier.Qualifier.heard_server.Goals as goal

pub returns-clause-stands : goal.returns-clause-stands
returns-clause-stands c j e h a =
    stands_server c.self.inside.settings (qualification_of c.self.inside.state) (qualification_of c.renewed-self-inside.result) c.args.now.0 c.renewed-self-inside.ensures j e
    (subst (λ (q : QualifierState). QualifierStandsFor q j) (sym c.self.view_is) h) a
