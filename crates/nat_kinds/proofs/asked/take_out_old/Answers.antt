use Rattle.nat_kinds.proofs.Words.{ap, asked_at, filter, filter_same_pairs, is_recent, nat_lt, rules, sym, ◌-◌, ◌∙◌, ◌≡◌}
use Rattle.nat_kinds.proofs.AskedLemmas.{recent_left, left_recent}
use Rattle.nat_kinds.proofs.asked.take_out_old.Goals as goal

pub returns : goal.returns
returns c =
    let left : c.retain.new.self.entries ≡ filter (λ e. nat_lt (c.args.now.0 - e.1.0) c.args.idle) c.args.asked.now.entries =
    filter_same_pairs _ (λ e. nat_lt (c.args.now.0 - e.1.0) c.args.idle) _ (λ k v b w f' t. search rules) _ _ c.retain.ensures.filtered in
    record {
      recent = λ n l way. ap (λ es. is_recent c.args.idle n (asked_at es way)) left ∙ recent_left c.args.idle c.args.now.0 n way c.args.asked.now.entries l c.retain.ensures.was_unique;
      kept = λ way m is. left_recent c.args.idle c.args.now.0 way m c.args.asked.now.entries c.retain.ensures.was_unique (sym (ap (λ es. asked_at es way) left) ∙ is);
      once = c.retain.ensures.unique;
    }
