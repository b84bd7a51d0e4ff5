use Rattle.lab_nodes.proofs.Words.{Ok, Pumped, ap, refl, ◌∙◌}
use Rattle.lab_nodes.proofs.Arrivals.{asked_by}
use Rattle.lab_nodes.proofs.server.serve.Goals as goal

pub returns : goal.returns
returns c =
    let own = c.new-server.result in
    let link = c.new-link.result in
    let is = asked_by own link c.pump.new.link c.pump.new.step (record {
      free = rw c.new-link.ensures refl;
      short = rw c.new-link.ensures c.requires;
      new = c.pump.new.e;
      result = c.pump.result;
      pumps = c.pump.ensures.turn;
      from = c.in-Ok-Took.field-0-0;
      len = c.in-Ok-Took.field-0-1;
      failed = c.in-Ok-Took.field-0-2;
      took = c.in-Ok-Took.is ∙ ap (λ (t : Pumped). Ok t) c.in-Ok-Took.field-0-is;
    }) in
    is ∙ rw (c.new-link.ensures, c.new-server.ensures, c.side_of.ensures) refl
