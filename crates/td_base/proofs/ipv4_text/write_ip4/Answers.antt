use Rattle.td_base.proofs.DottedParts.{four_parts}
use Rattle.td_base.proofs.ipv4_text.write_ip4.Goals as goal

pub returns-clause-text : goal.returns-clause-text
returns-clause-text c =
    rw (c.write_four.ensures.text, c.write_dotted-at-3.ensures.text, c.write_dotted-at-2.ensures.text, c.write_dotted-at.ensures.text, c.from.ensures)
    (four_parts _ _ _ _ _)
