use Rattle.icmp6.proofs.BlockLaws.{all_options}
use Rattle.icmp6.proofs.lend.options.Goals as goal

pub returns-clause-each : goal.returns-clause-each
returns-clause-each c = λ blocks each is. all_options blocks c.args.bytes.now each is
