use Rattle.nat_kinds.proofs.IndexLemmas.{forgets_goes}
use Rattle.nat_kinds.proofs.mappings.forget.Goals as goal

pub returns-clause-indexed : goal.returns-clause-indexed
returns-clause-indexed c = forgets_goes c.args.settings.now.kind c.args.inside (record { places = _; index = _ }) (record {
  places = _;
  index = _;
}) c.requires.indexed c.forget.ensures.forgets c.forget_keys.ensures.forgets c.forget.ensures.len
