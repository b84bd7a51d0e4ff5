use Rattle.ipv6_packet.proofs.Words.{Gives, ap, arith, packet_at, packet_view, subst, ◌∙◌}
use Rattle.ipv6_packet.proofs.PacketLaws.{is_found, is_fault, is_seen, is_unseen, packet_again}
use Rattle.ipv6_packet.proofs.reader.read.Goals as goal

pub returns-clause-found : goal.returns-clause-found
returns-clause-found c = is_found packet_view c.args.bytes.now c.packet_of.result (λ i. omega (arith, c.type_inv.bytes i)) c.packet_of.ensures.exact

pub returns-clause-only : goal.returns-clause-only
returns-clause-only c = λ v bytes. subst (λ r. Gives packet_view c.packet_of.result r) (ap packet_at bytes.1 ∙ packet_again v bytes.0) c.packet_of.ensures.exact

pub returns-clause-fault : goal.returns-clause-fault
returns-clause-fault c = is_fault packet_view c.args.bytes.now c.packet_of.result (λ i. omega (arith, c.type_inv.bytes i)) c.packet_of.ensures.exact

pub returns-clause-seen : goal.returns-clause-seen
returns-clause-seen c = is_seen packet_view c.args.bytes.now c.packet_of.result c.packet_of.ensures.exact

pub returns-clause-unseen : goal.returns-clause-unseen
returns-clause-unseen c = is_unseen packet_view c.args.bytes.now c.packet_of.result c.packet_of.ensures.exact
