use Rattle.state_lines.proofs.Words.{before, codes, sym}
use Rattle.state_lines.proofs.peer_lines.put_client_peer.Goals as goal

pub returns-clause-text : goal.returns-clause-text
returns-clause-text c =
    let joined =
    before c.args.out.now _ _ c.put_peer.ensures.text
    (before c.put_peer.new.out (codes " nonce ") _ c.push_text.ensures
    (before c.push_text.new.self _ _ c.put_nonce_or_dash.ensures.text
    (before c.put_nonce_or_dash.new.out (codes " waits ") _ c.push_text-2.ensures
    (before c.push_text-2.new.self _ _ c.put_number.ensures.text
    (before c.put_number.new.out (codes " held ") _ c.push_text-3.ensures c.put_number-2.ensures.text)))))
    in
    rw (sym c.nonce.ensures, sym c.waiting_count.ensures, sym c.requires.held, sym c.from.ensures) joined
