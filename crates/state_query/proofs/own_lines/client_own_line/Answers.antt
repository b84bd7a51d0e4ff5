use Rattle.std.proofs.Common.{refl, ◌∙◌}
use Rattle.state_query.proofs.own_lines.client_own_line.Goals as goal

pub returns : goal.returns
returns c = λ s j w is. c.client_line.ensures
    ∙ rw (c.phase.ensures j is.stands, c.address.ensures.value j is.stands, c.due.ensures.told j is.stands, is.settings) refl
