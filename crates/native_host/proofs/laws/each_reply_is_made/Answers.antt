use Rattle.native_host.proofs.LawProofs.{each_reply_is_made}
use Rattle.native_host.proofs.laws.each_reply_is_made.Goals as goal

pub returns : goal.returns
returns c = each_reply_is_made
