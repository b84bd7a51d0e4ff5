use Rattle.std.proofs.Common.{rules}
use Rattle.show.proofs.payload_lines.put_flags.Goals as goal

pub returns-clause-text : goal.returns-clause-text
returns-clause-text c = search rules
