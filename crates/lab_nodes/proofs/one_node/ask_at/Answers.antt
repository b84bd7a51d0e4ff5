use Rattle.lab_nodes.proofs.Words.{AnswersOrWants, ChangesAt, Some, length, refl, set, slice_get, slice_get_read, subst, ℕ, ◌<◌, ◌≡◌}
use Rattle.lab_nodes.proofs.NodeLists.{changed, answers_or_wants}
use Rattle.lab_nodes.proofs.one_node.ask_at.Goals as goal

pub returns-clause-answers : goal.returns-clause-answers
returns-clause-answers c =
    let x = c.args.call in
    let items = c.args.nodes.now.items in
    let k = c.from.result in
    let before = c.index_mut-node.result.now in
    let within : k < length items = rw (c.from.ensures) c.requires.within in
    let here : slice_get items k ≡ Some before = slice_get_read items (length items) k before refl within c.index_mut-node.ensures.value in
    let does = AnswersOrWants x c.args.step.now c.answer.new.step c.answer.result in
    subst (λ (n : ℕ). ChangesAt does n items (set items k c.answer.new.self)) c.from.ensures
    (changed does items k before c.answer.new.self here c.answer.ensures.row (answers_or_wants x c.args.step.now c.answer.new.step c.answer.result before c.answer.new.self c.answer.ensures.answers c.answer.ensures.wants))
