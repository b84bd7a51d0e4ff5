use Rattle.std.proofs.Common.{sym, ◌∙◌, arith}
use Rattle.generator.proofs.Stream.{start, no_words, no_events, three_more, event_is, event_added, all_events}
use Rattle.generator.proofs.generated.generated_events.Goals as goal

pub loop-index-init : goal.loop-index-init
loop-index-init c = record { words = c.events_rng-rng.ensures ∙ sym (no_words (start c.args.seed)); events = c.new-events.ensures ∙ sym (no_events c.args.seed) }

pub loop-index-preserved : goal.loop-index-preserved
loop-index-preserved c =
    let kept = c.loop-index.invariant in
    let is = event_is c.words_go_on.ensures.words c.seed_gives_words.ensures c.args.seed c.loop-index.index c.loop-index.rng (omega (arith, c.loop-index-test.true, c.requires)) kept.words in
    record {
      words = c.next_event.ensures.place ∙ three_more c.words_go_on.ensures.place c.args.seed c.loop-index.index c.loop-index.rng kept.words;
      events = event_added c.args.seed c.loop-index.index c.loop-index.events _ _ kept.events (c.in_ok-next_event.ensures.value ∙ is) c.in_ok-push.ensures.ok;
    }

pub returns : goal.returns
returns c = all_events c.args.seed c.loop-index.index c.args.count c.loop-index.events c.loop-index.invariant.events (omega (arith, c.loop-index-test.false, c.loop-index.auto.index-end))
