use Rattle.qualify.proofs.Words.{qualification_of}
use Rattle.qualify.proofs.Stands.{stands_at_start}
use Rattle.qualify.proofs.qualifier.Qualifier.start.Goals as goal

pub returns-clause-stands : goal.returns-clause-stands
returns-clause-stands c = stands_at_start c.args.settings (qualification_of c.begun.result) c.args.now.0 c.begun.ensures
