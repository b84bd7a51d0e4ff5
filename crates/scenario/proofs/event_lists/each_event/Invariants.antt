use Rattle.scenario.proofs.Words.{AllByRecursion, IsEvent, IsSome, drop, items_view, texts_of, ◌≡◌}
use Rattle.scenario.proofs.EventsSoFar.{each_value, after_events}
use Rattle.scenario.proofs.event_lists.each_event.Given as goal

abbrev pub invariant-loop-index : goal.invariant-loop-index
invariant-loop-index l = record {
  texts : IsSome (texts_of (items_view (drop l.index l.values)));
  left : after_events l.events (each_value l.topology l.index (items_view (drop l.index l.values))) ≡ each_value l.topology 0 (items_view l.values);
  legal : AllByRecursion (IsEvent l.topology) l.events;
}
