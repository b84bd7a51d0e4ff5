use Rattle.std.proofs.Common.{◌≡◌, ◌*◌}
use Rattle.qualify.specs.Generator.{after_words}
use Rattle.generator.specs.GeneratedNodes.{firsts}
use Rattle.generator.specs.Generated.{event_numbered}
use Rattle.generator.proofs.Stream.{start}
use Rattle.generator.proofs.generated.generated_events.Given as goal

abbrev pub invariant-loop-index : goal.invariant-loop-index
invariant-loop-index l = record {
  words : l.rng ≡ after_words (3 * l.index) (start l.seed);
  events : l.events ≡ firsts (event_numbered l.seed) l.index;
}
