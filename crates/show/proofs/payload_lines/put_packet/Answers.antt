use Rattle.std.specs.Prelude.{codes, length}
use Rattle.show.specs.Lines.{field}
use Rattle.show.proofs.Joined.{before}
use Rattle.show.proofs.payload_lines.put_packet.Goals as goal

pub returns-clause-text : goal.returns-clause-text
returns-clause-text c =
    let joined =
    (before c.args.page.now (field (codes "packet class ") c.from.result) _ c.put_field.ensures.text
    (before c.put_field.new.page (field (codes " flow ") c.args.packet.now.flow) _ c.put_field-2.ensures.text
    (before c.put_field-2.new.page (field (codes " next ") c.from-2.result) _ c.put_field-3.ensures.text
    (before c.put_field-3.new.page (field (codes " hop ") c.from-3.result) _ c.put_field-4.ensures.text
    (before c.put_field-4.new.page (field (codes " length ") (length c.args.packet.now.body.now)) _ c.put_field-5.ensures.text c.push_text.ensures.text)))))
    in
    rw (c.from.ensures, c.from-2.ensures, c.from-3.ensures) at joined
