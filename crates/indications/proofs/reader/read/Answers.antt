use Rattle.indications.proofs.Words.{arith, ◌∙◌}
use Rattle.indications.proofs.FoundLaws.{is_found, is_inside, are_before}
use Rattle.indications.proofs.LeadLaws.{lead_again}
use Rattle.indications.proofs.FaultLaws.{is_first}
use Rattle.indications.proofs.reader.read.Goals as goal

pub returns-clause-found : goal.returns-clause-found
returns-clause-found c = is_found c.args.bytes.now c.lead_of.result (λ i. omega (arith, c.type_inv.bytes i)) c.lead_of.ensures

pub returns-clause-only : goal.returns-clause-only
returns-clause-only c = λ lead stands. c.lead_of.ensures ∙ lead_again lead c.args.bytes.now stands

pub returns-clause-inside : goal.returns-clause-inside
returns-clause-inside c = is_inside c.args.bytes.now c.lead_of.result (λ i. omega (arith, c.type_inv.bytes i)) c.lead_of.ensures

pub returns-clause-spans : goal.returns-clause-spans
returns-clause-spans c = are_before c.args.bytes.now c.lead_of.result (λ i. omega (arith, c.type_inv.bytes i)) c.lead_of.ensures

pub returns-clause-fault : goal.returns-clause-fault
returns-clause-fault c = is_first c.args.bytes.now c.lead_of.result (λ i. omega (arith, c.type_inv.bytes i)) c.lead_of.ensures
