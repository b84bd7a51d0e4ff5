use Rattle.world.proofs.Words.{item_at, refl, take-map}
use Rattle.world.proofs.entries.Entries.truncate.Goals as goal

pub returns : goal.returns
returns c = rw (← c.self.view_is, c.truncate.ensures.items, take-map (item_at c.self.inside.bytes.items) c.args.len c.self.inside.list.items) refl
