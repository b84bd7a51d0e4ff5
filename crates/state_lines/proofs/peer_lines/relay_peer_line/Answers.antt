use Rattle.state_lines.proofs.Lines.{line_of}
use Rattle.state_lines.proofs.peer_lines.relay_peer_line.Goals as goal

pub returns : goal.returns
returns c = line_of _ c.begin_line.ensures.text c.put_relay_peer.ensures.text c.push_text.ensures
