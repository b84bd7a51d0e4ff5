use Rattle.state_lines.proofs.Lines.{line_of}
use Rattle.state_lines.proofs.node_lines.relay_line.Goals as goal

pub returns : goal.returns
returns c = line_of _ c.begin_line.ensures.text c.put_relay.ensures.text c.push_text.ensures
