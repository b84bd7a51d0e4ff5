use Rattle.native_host.proofs.LawProofs.{each_is_reply}
use Rattle.native_host.proofs.laws.each_is_reply.Goals as goal

pub returns : goal.returns
returns c = each_is_reply
