use Rattle.state_lines.proofs.Lines.{line_of}
use Rattle.state_lines.proofs.peer_lines.client_peer_line.Goals as goal

pub returns : goal.returns
returns c = line_of _ c.begin_line.ensures.text c.put_client_peer.ensures.text c.push_text.ensures
