use Rattle.ipv6_packet.proofs.Words.{IsBytes-take, [], ap, arith, big_bytes, drop, front_more, front_none, front_writes, length, packet_at, packet_bytes, packet_view, sym, take, take_at, ℕ, ◌++◌, ◌∙◌, ◌∷◌, ◌≡◌}
use Rattle.ipv6_packet.proofs.PacketLaws.{packet_found, spelling_again}
use Rattle.ipv6_packet.proofs.writer.write.Goals as goal

pub returns-clause-written : goal.returns-clause-written
unfolding packet_bytes
returns-clause-written c =
    let v = packet_view c.args.p.now in
    let f1 = front_more c.put32-at.result (big_bytes 4 c.first_word.result) c.put32-at.new.out (front_none c.args.out.now) c.put32-at.ensures.put c.put32-at.ensures.after in
    let f2 = front_more c.put16-at.result (big_bytes 2 (length v.body)) c.put16-at.new.out f1 c.put16-at.ensures.put c.put16-at.ensures.after in
    let f3 = front_more c.put8-at.result (v.next ∷ []) c.put8-at.new.out f2 c.put8-at.ensures.put c.put8-at.ensures.after in
    let f4 = front_more c.put8-at-2.result (v.hop ∷ []) c.put8-at-2.new.out f3 c.put8-at-2.ensures.put c.put8-at-2.ensures.after in
    let f5 = front_more c.put-at.result v.src.0 c.put-at.new.out f4 c.put-at.ensures.put c.put-at.ensures.after in
    let f6 = front_more c.put-at-2.result v.dst.0 c.put-at-2.new.out f5 c.put-at-2.ensures.put c.put-at-2.ensures.after in
    let f7 = front_more c.put.result v.body c.put.new.out f6 c.put.ensures.put c.put.ensures.after in
    front_writes (packet_bytes v) f7 (ap (λ (w : ℕ). big_bytes 4 w ++ big_bytes 2 (length v.body) ++ v.next ∷ v.hop ∷ [] ++ v.src.0 ++ v.dst.0 ++ v.body) c.first_word.ensures) (omega arith)

pub returns-clause-again : goal.returns-clause-again
returns-clause-again c =
    let v = packet_view c.args.p.now in
    let w = returns-clause-written c in
    let front : take c.put.result c.put.new.out ≡ packet_bytes v = ap (take c.put.result) w.2 ∙ take_at (packet_bytes v) (drop c.put.result c.args.out.now) c.put.result (sym w.0) in
    ap packet_at front ∙ spelling_again v (omega arith) c.requires.flow (omega arith) (omega arith) c.requires.body

pub returns-clause-spelled : goal.returns-clause-spelled
returns-clause-spelled c =
    packet_found (take c.put.result c.put.new.out) (packet_view c.args.p.now) (IsBytes-take c.put.result c.put.new.out (λ i. omega (arith, c.type_inv.out i))) (returns-clause-again c)
