use Rattle.icmp6.proofs.Words.{Message, arith, drop, message_view, refl, sym, ◌∙◌}
use Rattle.icmp6.proofs.AgainLaws.{length-message_bytes}
use Rattle.icmp6.proofs.WriteLaws.{sum_is_put, front_is, front_spelled, front_again}
use Rattle.icmp6.proofs.writer.write.Goals as goal

pub returns-then-out-needed-clause-written : goal.returns-then-out-needed-clause-written
returns-then-out-needed-clause-written c =
    let size = length-message_bytes c.args.src c.args.dst (message_view c.args.m.now) in
    (c.len_of-needed.ensures ∙ sym size, omega (arith, size, c.len_of-needed.ensures), refl)

pub returns-clause-written : goal.returns-clause-written
returns-clause-written c =
    let m : Message = message_view c.args.m.now in
    let size = length-message_bytes c.args.src c.args.dst m in
    let len_is = c.put_plain-len.ensures.after in (
      len_is ∙ sym size,
      omega (arith, len_is, c.len_of-needed.ensures),
      sum_is_put c.args.src c.args.dst m c.args.out.now c.put16.new.out (record {
        len = c.put_plain-len.result;
        len_is = len_is;
        plain = c.put_plain-len.new.out;
        plain_is = c.put_plain-len.ensures.put;
        sum = c.checksum-sum.result;
        sum_is = c.checksum-sum.ensures;
        put = c.put16.ensures.put;
      }),
    )

pub returns-clause-spelled : goal.returns-clause-spelled
returns-clause-spelled c =
    let m : Message = message_view c.args.m.now in
    front_spelled c.args.src c.args.dst m _ c.put_plain-len.ensures.fits
    (front_is c.args.src c.args.dst m c.put_plain-len.result (drop c.put_plain-len.result c.args.out.now) c.put16.new.out
    c.put_plain-len.ensures.after (returns-clause-written c).2)

pub returns-clause-again : goal.returns-clause-again
returns-clause-again c =
    let m : Message = message_view c.args.m.now in
    front_again c.args.src c.args.dst m _ c.put_plain-len.ensures.fits
    (front_is c.args.src c.args.dst m c.put_plain-len.result (drop c.put_plain-len.result c.args.out.now) c.put16.new.out
    c.put_plain-len.ensures.after (returns-clause-written c).2)
