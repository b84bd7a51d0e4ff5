use Rattle.client_core.proofs.Words.{Millis, option_map, sooner, sym, ◌∙◌}
use Rattle.client_core.proofs.Owed.{due_told, first_due_of}
use Rattle.client_core.proofs.client.Client.next_due.Goals as goal

pub returns-clause-told : goal.returns-clause-told
returns-clause-told c j h =
    due_told c.args.self.now c.args.now.0 (option_map (λ (m : Millis). m.0) c.sooner.result) c.requires.callable.clock
    (c.sooner.ensures ∙ (λ i. sooner (c.due.ensures.value i) (c.next_due.ensures.told i))) j h

pub returns-clause-first : goal.returns-clause-first
returns-clause-first c = first_due_of c.args.self.now c.args.now.0 _ c.next_due.result c.sooner.result (sym c.due.ensures.value) c.next_due.ensures.first c.sooner.ensures
