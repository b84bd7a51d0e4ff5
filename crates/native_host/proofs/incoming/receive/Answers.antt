use Rattle.native_host.proofs.Arrivals.{fault_is_kept}
use Rattle.native_host.proofs.incoming.receive.Goals as goal

pub returns-in_default-clause-whole : goal.returns-in_default-clause-whole
returns-in_default-clause-whole c = fault_is_kept c.args.bytes.now _ c.in_default.ensures.exact
