use Rattle.bubble.proofs.Words.{IsBytes-take, List, Ok, ap, arith, blocks_given, indications_bytes, lead, lead_at, length, packet_at, packet_bytes, packet_view, payload_at, refl, sym, ℕ, ◌++◌, ◌+◌, ◌-◌, ◌∙◌, ◌≡◌}
use Rattle.bubble.proofs.PayloadLaws.{payload_steps, payload_found, written_whole}
use Rattle.bubble.proofs.writer.write.Goals as goal

pub returns-clause-again : goal.returns-clause-again
returns-clause-again c =
    let front : List ℕ = indications_bytes c.args.nonce c.args.origin in
    let y : List ℕ = packet_bytes (packet_view c.args.packet.now) in
    let one = c.in_ok-at.ensures.written in
    let two = c.in_ok-len.ensures.written in
    let v = packet_view c.args.packet.now in
    let w = written_whole front y c.args.out.now c.write.new.out _ c.write-2.new.out c.in_ok-at.at c.in_ok-len.len (length c.write.new.out - c.in_ok-at.at) one.0 one.2 two.0 two.2 in
    let led : lead_at (front ++ y) ≡ Ok (lead (blocks_given c.args.nonce c.args.origin)) = ap (λ (t : List ℕ). lead_at (t ++ y)) (sym w.0) ∙ c.in_ok-at.ensures.again y (omega arith, c.len-2.ensures.version c.requires.flow) in
    let packed : packet_at y ≡ Ok v = ap packet_at (sym w.1) ∙ c.in_ok-len.ensures.again in
    ap payload_at w.2 ∙ payload_steps front y (lead (blocks_given c.args.nonce c.args.origin)) v (omega (arith, c.requires.whole, c.len.ensures.whole, c.len.ensures.parts, c.len-2.ensures.whole, c.len-2.ensures.parts)) led refl packed

pub returns-clause-spelled : goal.returns-clause-spelled
returns-clause-spelled c = payload_found _ _ (IsBytes-take (c.in_ok-at.at + c.in_ok-len.len) _ (λ i. omega (arith, c.type_inv.out i))) (returns-clause-again c)
