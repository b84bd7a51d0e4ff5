use Rattle.state_writer.proofs.Words.{nothing_wrote}
use Rattle.state_writer.proofs.at_nats.write_marked.Goals as goal

pub returns-in-Six : goal.returns-in-Six
returns-in-Six g c = λ d H stands. rw c.in-Six.is (nothing_wrote _)
