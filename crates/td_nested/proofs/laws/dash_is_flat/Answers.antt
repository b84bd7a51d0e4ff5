use Rattle.td_nested.proofs.LawProofs.{dash_is_flat}
use Rattle.td_nested.proofs.laws.dash_is_flat.Goals as goal

pub returns : goal.returns
returns c = dash_is_flat
