use Rattle.state_lines.proofs.Words.{before, rules}
use Rattle.state_lines.proofs.TryByTry.{put_more, split_moments}
use Rattle.state_lines.proofs.peer_lines.+put_tries.Goals as goal

pub returns-clause-text : goal.returns-clause-text
returns-clause-text t c = put_more c.args.now.0 c.args.tries.now _ _ _ _ _ _ c.put_tries-any.ensures.text c.put_tries-any.ensures.any
    (before _ _ _ c.put_comma.ensures.text c.put_number.ensures.text) (search rules)
    (split_moments c.args.tries.now _ c.in-len1-up.len_at_least)
