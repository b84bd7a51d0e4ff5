use Rattle.td_audit.proofs.Words.{audited}
use Rattle.td_audit.proofs.VerdictLaws.{one_verdict}
use Rattle.td_audit.proofs.auditor.audit.Goals as goal

pub returns-clause-only : goal.returns-clause-only
returns-clause-only c =
    one_verdict (audited c.args.primary c.args.secondary) c.args.bytes.now c.verdict_on.result
    (record { judged = c.verdict_on.ensures.judged; fault = c.verdict_on.ensures.fault })
