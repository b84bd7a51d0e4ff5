use Rattle.teredo_addr.proofs.Words.{rules}
use Rattle.teredo_addr.proofs.flags.free_flags.Goals as goal

pub returns-clause-exact : goal.returns-clause-exact
returns-clause-exact c = search rules

pub returns-clause-most : goal.returns-clause-most
returns-clause-most c = search rules
