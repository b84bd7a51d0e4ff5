use Rattle.td_audit.proofs.Words.{append_assoc, key_bytes, rules}
use Rattle.td_audit.proofs.key.put_key.Goals as goal

pub returns : goal.returns
unfolding key_bytes
returns c = search (rules, append_assoc)
