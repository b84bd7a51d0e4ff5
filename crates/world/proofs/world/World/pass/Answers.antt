use Rattle.world.proofs.Words.{None, Record, ap, plain, with_deed, ◌∙◌}
use Rattle.teredo_node.specs.declared.fate.Fate.TheVariants as fate
use Rattle.events.specs.declared.verb.Verb.TheVariants as verb
use Rattle.world.proofs.world.World.pass.Goals as goal

pub returns-clause-record_is : goal.returns-clause-record_is
returns-clause-record_is c = c.say.ensures ∙ ap (λ (r : Record). with_deed (record r { moment = c.args.end }) (plain verb.Advance) None fate.Done) c.requires.fresh
