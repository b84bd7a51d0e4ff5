use Rattle.td_outside.proofs.Words.{rules}
use Rattle.td_outside.proofs.mem_sink.MemSinkSink.write.Goals as goal

pub returns-clause-state : goal.returns-clause-state
returns-clause-state c = search rules
