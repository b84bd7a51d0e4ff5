use Rattle.state_lines.proofs.Words.{length}
use Rattle.state_lines.proofs.peer_lines.+put_tries.Given as goal

abbrev pub decreases-put_tries : goal.decreases-put_tries
decreases-put_tries l = length l.tries.now
