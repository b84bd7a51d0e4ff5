use Rattle.nat_kinds.proofs.IndexLemmas.{puts_goes, refresh_puts}
use Rattle.nat_kinds.proofs.index.refresh.Goals as goal

pub returns : goal.returns
returns c =
    let puts = refresh_puts _ c.args.sent _ _ _ c.requires.indexed c.requires.same (record { set = c.set.ensures.set; len = c.set.ensures.len }) in
    record { indexed = puts_goes _ _ _ _ puts; put = puts.places }
