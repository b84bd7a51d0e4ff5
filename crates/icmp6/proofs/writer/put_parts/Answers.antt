use Rattle.icmp6.proofs.Words.{front_more, front_none}
use Rattle.icmp6.proofs.writer.put_parts.Goals as goal

pub returns-clause-put : goal.returns-clause-put
returns-clause-put c =
    let first = front_more c.put-at.result c.args.head.now c.put-at.new.out (front_none c.args.out.now) c.put-at.ensures.put c.put-at.ensures.after in
    let second = front_more c.put.result c.args.tail.now c.put.new.out first c.put.ensures.put c.put.ensures.after in
    second.bytes
