use Rattle.scenario.proofs.Words.{table_view}
use Rattle.scenario.proofs.EventsSoFar.{from_texts}
use Rattle.scenario.proofs.event_lists.events_of.Goals as goal

pub returns-clause-value : goal.returns-clause-value
returns-clause-value c =
    let found = from_texts c.args.topology.now (table_view c.args.text.now.table.now) c.args.text.now.place c.in_ok-values.values.now
    c.all_texts.result c.in_ok-texts.texts c.requires c.in_ok-values.ensures c.all_texts.ensures.some c.in_ok-texts.ensures in
    rw found.events (c.few_events.ensures.value found.texts found.are)
