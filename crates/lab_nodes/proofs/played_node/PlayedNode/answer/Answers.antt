use Rattle.lab_nodes.proofs.Words.{AnswersCall, PlayedNode, subst, sym}
use Rattle.lab_nodes.proofs.played_node.PlayedNode.answer.Goals as goal

pub returns-in-Nat-clause-answers : goal.returns-in-Nat-clause-answers
returns-in-Nat-clause-answers c =
    subst (λ (p : PlayedNode). AnswersCall c.args.call p p c.answer_nat.new.step c.answer_nat.result) (sym c.in-Nat.is) (c.answer_nat.ensures.answers c.args.call c.in-Nat.row)
