use Rattle.server_core.proofs.Words.{append_assoc, arith, length, ◌∙◌, ◌≡◌}
use Rattle.server_core.proofs.advertisement.options.Goals as goal

pub returns : goal.returns
returns c =
    let four : length c.args.primary.0 ≡ 4 = omega arith in
    (rw four at c.put.ensures.put) ∙ simp append_assoc
