use Rattle.state_writer.proofs.Words.{nothing_wrote}
use Rattle.state_writer.proofs.at_nats.write_lost.Goals as goal

pub returns-in-Fault : goal.returns-in-Fault
returns-in-Fault g c = λ d H stands. rw c.in-Fault.is (nothing_wrote _)
