use Rattle.icmp6.proofs.Words.{Gives, arith, message_view, subst}
use Rattle.icmp6.proofs.AgainLaws.{read_again}
use Rattle.icmp6.proofs.FoundLaws.{is_found, is_lent}
use Rattle.icmp6.proofs.FaultLaws.{is_fault}
use Rattle.icmp6.proofs.reader.read.Goals as goal

pub returns-clause-found : goal.returns-clause-found
returns-clause-found c = is_found message_view c.args.src c.args.dst c.args.hop c.args.body.now c.message_of.result (λ i. omega (arith, c.type_inv.body i)) c.message_of.ensures

pub returns-clause-only : goal.returns-clause-only
returns-clause-only c = λ m is. subst (λ r. Gives message_view c.message_of.result r) (read_again c.args.src c.args.dst c.args.hop m c.args.body.now is) c.message_of.ensures

pub returns-clause-fault : goal.returns-clause-fault
returns-clause-fault c = is_fault message_view c.args.src c.args.dst c.args.hop c.args.body.now c.message_of.result c.message_of.ensures

pub returns-clause-lends : goal.returns-clause-lends
returns-clause-lends c = is_lent message_view c.args.src c.args.dst c.args.hop c.args.body.now c.message_of.result (returns-clause-found c)
