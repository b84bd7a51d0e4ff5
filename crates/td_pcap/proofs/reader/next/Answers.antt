use Rattle.td_pcap.proofs.Words.{arith}
use Rattle.td_pcap.proofs.StepLaws.{is_found, is_fault, is_there, is_end}
use Rattle.td_pcap.proofs.reader.next.Goals as goal

pub returns-clause-found : goal.returns-clause-found
returns-clause-found c = is_found c.args.head.now.little c.args.at c.args.bytes.now c.record_at.result (λ i. omega (arith, c.type_inv.bytes i)) c.record_at.ensures.exact

pub returns-clause-only : goal.returns-clause-only
returns-clause-only c = is_there c.args.head.now.little c.args.at c.args.bytes.now c.record_at.result c.record_at.ensures.exact

pub returns-clause-end : goal.returns-clause-end
returns-clause-end c = is_end c.args.head.now.little c.args.at c.args.bytes.now c.record_at.result c.requires c.record_at.ensures.exact

pub returns-clause-fault : goal.returns-clause-fault
returns-clause-fault c = is_fault c.args.head.now.little c.args.at c.args.bytes.now c.record_at.result c.record_at.ensures.exact
