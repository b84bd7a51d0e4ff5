use Rattle.scenario.proofs.KeptRules.{few_read}
use Rattle.scenario.proofs.reader.read.Goals as goal

pub returns-clause-few : goal.returns-clause-few
returns-clause-few c = few_read c.args.bytes.now c.written.result c.written.ensures.value
