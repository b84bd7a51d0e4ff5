use Rattle.report.proofs.Words.{ap, mark_text, sym, ◌++◌, ◌∙◌}
use Rattle.report.proofs.marks.put_mark.Goals as goal

pub returns-in-Udp-clause-text : goal.returns-in-Udp-clause-text
returns-in-Udp-clause-text c = c.put_udp.ensures.text c.args.t.now ∙ ap (λ m. c.args.out.now ++ mark_text c.args.t.now m) (sym c.in-Udp.is)

pub returns-in-Lost-clause-text : goal.returns-in-Lost-clause-text
returns-in-Lost-clause-text c = c.put_lost.ensures.text c.args.t.now ∙ ap (λ m. c.args.out.now ++ mark_text c.args.t.now m) (sym c.in-Lost.is)
