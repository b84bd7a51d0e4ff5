use Rattle.std.specs.Prelude.{codes}
use Rattle.show.specs.Lines.{field}
use Rattle.show.proofs.Joined.{before}
use Rattle.show.proofs.fault_words.put_packet_fault.Goals as goal

pub returns-in-Version-clause-text : goal.returns-in-Version-clause-text
returns-in-Version-clause-text c = rw c.in-Version.is (rw c.from.ensures at c.put_field-in-Version.ensures.text)

pub returns-in-Length-clause-text : goal.returns-in-Length-clause-text
returns-in-Length-clause-text c =
    rw c.in-Length.is
    (before c.args.page.now (field (codes " length said ") c.in-Length.said) _ c.put_field-in-Length.ensures.text c.put_field-in-Length-2.ensures.text)
