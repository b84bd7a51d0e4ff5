use Rattle.state_lines.proofs.Words.{before, codes, sym}
use Rattle.state_lines.proofs.peer_lines.put_peer.Goals as goal

pub returns-clause-text : goal.returns-clause-text
returns-clause-text c =
    let joined =
    before c.args.out.now (codes " peer ") _ c.push_text.ensures
    (before c.push_text.new.self _ _ c.put_ip6.ensures.text
    (before c.put_ip6.new.out (codes " at ") _ c.push_text-2.ensures
    (before c.push_text-2.new.self _ _ c.put_place.ensures.text
    (before c.put_place.new.out (codes " heard ") _ c.push_text-3.ensures
    (before c.push_text-3.new.self _ _ c.put_moment.ensures.text
    (before c.put_moment.new.out (codes " touched ") _ c.push_text-4.ensures
    (before c.push_text-4.new.self _ _ c.put_number.ensures.text
    (before c.put_number.new.out (codes " tries ") _ c.push_text-5.ensures c.put_all_tries.ensures.text))))))))
    in
    rw (sym c.trusted.ensures, c.heard.ensures, c.touched.ensures) joined
