use Rattle.commands.proofs.Words.{rules}
use Rattle.commands.proofs.source_text.read_rest.Goals as goal

pub returns-clause-whole : goal.returns-clause-whole
returns-clause-whole g c = search rules

pub returns-clause-quiet : goal.returns-clause-quiet
returns-clause-quiet g c = search rules
