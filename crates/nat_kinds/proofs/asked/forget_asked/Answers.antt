use Rattle.nat_kinds.proofs.Words.{ap, filter_same_pairs, lookup, not, rules, same_ep, same_way, ◌∙◌}
use Rattle.nat_kinds.proofs.IndexLemmas.{lookup_others}
use Rattle.nat_kinds.proofs.asked.forget_asked.Goals as goal

pub returns : goal.returns
returns c = record {
  forgets = λ way. ap (lookup (same_way way))
      (filter_same_pairs _ (λ e. not (same_ep e.0.inside c.args.inside)) _ (λ k v b w f' t. search rules) _ _ c.retain.ensures.filtered)
      ∙ lookup_others c.args.inside way c.args.asked.now.entries;
  once = c.retain.ensures.unique;
}
