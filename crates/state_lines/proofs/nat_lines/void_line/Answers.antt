use Rattle.state_lines.proofs.Lines.{line_of}
use Rattle.state_lines.proofs.nat_lines.void_line.Goals as goal

pub returns : goal.returns
returns c = line_of _ c.begin_line.ensures.text c.push_text.ensures c.push_text-2.ensures
