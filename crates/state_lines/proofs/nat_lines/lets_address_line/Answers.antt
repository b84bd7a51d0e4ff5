use Rattle.state_lines.proofs.Lines.{line_of}
use Rattle.state_lines.proofs.nat_lines.lets_address_line.Goals as goal

pub returns : goal.returns
returns c = line_of _ c.begin_line.ensures.text c.put_lets_address.ensures.text c.push_text.ensures
