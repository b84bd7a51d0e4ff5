use Rattle.td_outside.proofs.Arrivals.{turned_behind, all_put}
use Rattle.td_outside.proofs.mem_arrival.rest_to_primary.Goals as goal

pub returns-clause-before : goal.returns-clause-before
returns-clause-before c =
    rw (all_put c.args.arrivals.now c.all_to_primary.new.arrivals c.args.at c.requires.within)
    (turned_behind c.args.arrivals.now c.all_to_primary.new.arrivals c.args.at c.requires.within c.all_to_primary.ensures).0

pub returns-clause-behind : goal.returns-clause-behind
returns-clause-behind c =
    rw (all_put c.args.arrivals.now c.all_to_primary.new.arrivals c.args.at c.requires.within)
    (turned_behind c.args.arrivals.now c.all_to_primary.new.arrivals c.args.at c.requires.within c.all_to_primary.ensures).1
