use Rattle.td_ipv4.proofs.Words.{Gives, ap, arith, subst, udp4_at, udp4_view, ◌∙◌}
use Rattle.td_ipv4.proofs.FoundLaws.{is_found}
use Rattle.td_ipv4.proofs.FaultLaws.{is_fault}
use Rattle.td_ipv4.proofs.AgainLaws.{udp4_again}
use Rattle.td_ipv4.proofs.reader.read.Goals as goal

pub returns-clause-found : goal.returns-clause-found
returns-clause-found c = is_found udp4_view c.args.bytes.now c.datagram_of.result (λ i. omega (arith, c.type_inv.bytes i)) c.datagram_of.ensures.exact

pub returns-clause-only : goal.returns-clause-only
returns-clause-only c = λ v bytes. subst (λ r. Gives udp4_view c.datagram_of.result r) (ap udp4_at bytes.1 ∙ udp4_again v bytes.0) c.datagram_of.ensures.exact

pub returns-clause-fault : goal.returns-clause-fault
returns-clause-fault c = is_fault udp4_view c.args.bytes.now c.datagram_of.result c.datagram_of.ensures.exact
