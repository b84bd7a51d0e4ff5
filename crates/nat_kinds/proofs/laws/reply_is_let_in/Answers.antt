use Rattle.nat_kinds.proofs.LawProofs.{reply_is_let_in}
use Rattle.nat_kinds.proofs.laws.reply_is_let_in.Goals as goal

pub returns : goal.returns
returns c = reply_is_let_in
