use Rattle.std.proofs.Common.{refl, ◌∙◌}
use Rattle.state_query.proofs.own_lines.relay_own_line.Goals as goal

pub returns : goal.returns
returns c = λ s j is. c.relay_line.ensures ∙ rw (c.due.ensures.told j is.stands) refl
