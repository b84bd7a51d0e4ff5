use Rattle.td_pcap.proofs.Words.{arith, ◌∙◌}
use Rattle.td_pcap.proofs.HeadLaws.{is_head, is_fault, head_read}
use Rattle.td_pcap.proofs.reader.read_head.Goals as goal

pub returns-clause-found : goal.returns-clause-found
returns-clause-found c = is_head c.args.bytes.now c.head_in.result (λ i. omega (arith, c.type_inv.bytes i)) c.head_in.ensures.exact

pub returns-clause-only : goal.returns-clause-only
returns-clause-only c = λ h begins. c.head_in.ensures.exact ∙ head_read h c.args.bytes.now begins

pub returns-clause-fault : goal.returns-clause-fault
returns-clause-fault c = is_fault c.args.bytes.now c.head_in.result (λ i. omega (arith, c.type_inv.bytes i)) c.head_in.ensures.exact
