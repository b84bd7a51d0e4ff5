use Rattle.td_explain.proofs.Words.{rules}
use Rattle.td_explain.proofs.question.message_reason.Goals as goal

pub returns-in-Err : goal.returns-in-Err
returns-in-Err c = search rules
