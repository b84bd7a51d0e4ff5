use Rattle.td_base.proofs.Words.{ap, hex_groups_text, take, ◌++◌, ◌∙◌}
use Rattle.td_base.proofs.Ip6Lemmas.{elided_text}
use Rattle.td_base.proofs.ipv6_text.write_ip6.Goals as goal

pub returns-then-len-gt1-clause-text : goal.returns-then-len-gt1-clause-text
returns-then-len-gt1-clause-text c =
    let t = elided_text c.groups_of-groups.result c.longest_zero_run-start.result.0 c.longest_zero_run-start.result.1 c.longest_zero_run-start.ensures.value c.if-len-gt1.true in
    rw c.write_elided.ensures.text (ap (λ text. take c.args.at c.args.out.now ++ text) (t ∙ ap hex_groups_text c.groups_of-groups.ensures))
