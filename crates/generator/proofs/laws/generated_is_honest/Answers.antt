use Rattle.generator.proofs.LawProofs.{generated_is_honest}
use Rattle.generator.proofs.laws.generated_is_honest.Goals as goal

pub returns : goal.returns
returns c = generated_is_honest
