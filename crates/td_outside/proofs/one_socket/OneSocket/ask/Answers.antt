use Rattle.td_outside.proofs.Words.{rules}
use Rattle.td_outside.proofs.one_socket.OneSocket.ask.Goals as goal

pub returns-clause-side : goal.returns-clause-side
returns-clause-side c = search rules
