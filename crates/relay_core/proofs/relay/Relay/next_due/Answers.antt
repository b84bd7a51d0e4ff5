use Rattle.relay_core.proofs.Words.{Millis, option_map}
use Rattle.relay_core.proofs.Owed.{due_told}
use Rattle.relay_core.proofs.relay.Relay.next_due.Goals as goal

pub returns-clause-told : goal.returns-clause-told
returns-clause-told c j h = due_told c.args.self.now c.args.now.0 (option_map (λ (m : Millis). m.0) c.next_due.result) c.requires.callable.clock c.next_due.ensures.told j h
