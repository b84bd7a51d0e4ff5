use Rattle.report.proofs.Words.{arith}
use Rattle.report.proofs.Printed.{printed, length_after, ep_length}
use Rattle.report.proofs.fields.put_ep.Goals as goal

pub returns : goal.returns
returns c =
    let few = ep_length c.args.ep (omega arith) (omega arith) (omega arith) (omega arith) (omega arith) in
    let text = printed _ _ _ _ c.print_ep.ensures.text (omega (arith, few, c.requires)) in
    record { text = text; short = length_after _ _ _ _ text few }
