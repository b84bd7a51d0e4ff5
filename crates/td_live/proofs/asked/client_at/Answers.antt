use Rattle.td_live.proofs.Words.{ap, live_seed, of_seed, sym, ◌∙◌}
use Rattle.td_live.proofs.Entries.{none_drawn}
use Rattle.td_live.proofs.asked.client_at.Goals as goal

pub returns-clause-at : goal.returns-clause-at
returns-clause-at c = record {
  stands = c.new.ensures.stands;
  settings = c.new.ensures.settings;
  place = c.new.ensures.words ∙ c.from_seed-rng.ensures ∙ ap of_seed c.stream_seed.ensures ∙ sym (none_drawn (of_seed (live_seed c.args.asked.seed)));
}
