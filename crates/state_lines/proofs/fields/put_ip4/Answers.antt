use Rattle.state_lines.proofs.Words.{arith, length_after, printed}
use Rattle.state_lines.proofs.fields.put_ip4.Goals as goal

pub returns : goal.returns
returns c =
    let few = c.print_ip4.ensures.short in
    let text = printed _ _ _ _ c.print_ip4.ensures.text (omega (arith, few, c.requires)) in
    record { text = text; short = length_after _ _ _ _ text few }
