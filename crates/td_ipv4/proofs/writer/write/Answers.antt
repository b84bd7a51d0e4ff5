use Rattle.td_ipv4.proofs.Words.{IsUdp4, List, ap, append_assoc, arith, drop, fixed_head, front_more, front_none, front_writes, sym, take, take_at, udp4_at, udp4_bytes, udp4_view, udp_head, ℕ, ◌++◌, ◌∙◌, ◌≡◌}
use Rattle.td_ipv4.proofs.AgainLaws.{udp4_again}
use Rattle.td_ipv4.proofs.writer.write.Goals as goal

pub returns-clause-written : goal.returns-clause-written
unfolding udp4_bytes
returns-clause-written c =
    let v = udp4_view c.args.u.now in
    let head : List ℕ = fixed_head v.head_sum v ++ v.options in
    let f1 = front_more c.put-at.result c.fixed_head.result c.put-at.new.out (front_none c.args.out.now) c.put-at.ensures.put c.put-at.ensures.after in
    let f2 = front_more c.put-at-2.result v.options c.put-at-2.new.out f1 c.put-at-2.ensures.put c.put-at-2.ensures.after in
    let f3 = front_more c.put-at-3.result c.udp_head.result c.put-at-3.new.out f2 c.put-at-3.ensures.put c.put-at-3.ensures.after in
    let f4 = front_more c.put.result v.body c.put.new.out f3 c.put.ensures.put c.put.ensures.after in
    let first = ap (λ (h : List ℕ). ((h ++ v.options) ++ c.udp_head.result) ++ v.body) c.fixed_head.ensures.bytes in
    let second = ap (λ (h : List ℕ). (head ++ h) ++ v.body) c.udp_head.ensures in
    front_writes (udp4_bytes v) f4 (first ∙ second ∙ append_assoc head (udp_head v.udp_sum v) v.body) (omega arith)

pub returns-clause-spelled : goal.returns-clause-spelled
returns-clause-spelled c =
    let v = udp4_view c.args.u.now in
    let w = returns-clause-written c in
    let front : take c.put.result c.put.new.out ≡ udp4_bytes v = ap (take c.put.result) w.2 ∙ take_at (udp4_bytes v) (drop c.put.result c.args.out.now) c.put.result (sym w.0) in
    let fields : IsUdp4 v = record {
      tos = omega arith;
      id = omega arith;
      frag = omega arith;
      whole = c.requires.whole;
      ttl = omega arith;
      head_sum = omega arith;
      words = c.requires.words;
      options = c.requires.options;
      src = c.fixed_head.ensures.src;
      dst = c.fixed_head.ensures.dst;
      udp_sum = omega arith;
      total = c.requires.total;
    } in
    (fields, front)

pub returns-clause-again : goal.returns-clause-again
returns-clause-again c = let is = returns-clause-spelled c in ap udp4_at is.1 ∙ udp4_again (udp4_view c.args.u.now) is.0
