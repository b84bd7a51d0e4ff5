use Rattle.state_lines.proofs.Words.{before, codes, sym}
use Rattle.state_lines.proofs.peer_lines.put_relay_peer.Goals as goal

pub returns-clause-text : goal.returns-clause-text
returns-clause-text c =
    let joined =
    before c.args.out.now _ _ c.put_peer.ensures.text
    (before c.put_peer.new.out (codes " waits ") _ c.push_text.ensures c.put_number.ensures.text)
    in
    rw (sym c.waiting_count.ensures) joined
