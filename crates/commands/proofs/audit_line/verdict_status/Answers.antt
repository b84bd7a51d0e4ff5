use Rattle.commands.proofs.Words.{rules}
use Rattle.commands.proofs.audit_line.verdict_status.Goals as goal

pub returns-in-Unlicensed : goal.returns-in-Unlicensed
returns-in-Unlicensed c = search rules
