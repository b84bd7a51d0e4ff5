use Rattle.nat_kinds.proofs.LawProofs.{answer_is_lowest_free}
use Rattle.nat_kinds.proofs.laws.answer_is_lowest_free.Goals as goal

pub returns : goal.returns
returns c = answer_is_lowest_free
