use Rattle.peer_list.proofs.Words.{listings_of, ◌∙◌}
use Rattle.peer_list.proofs.TableLemmas.{other_count}
use Rattle.peer_list.proofs.table.Peers.count.Goals as goal

pub returns-clause-count : goal.returns-clause-count
returns-clause-count c = rw (← c.self.view_is) (c.count.ensures.count ∙ other_count c.args.now.0 c.self.inside.moment.0 c.self.inside.latest c.args.now.0 (listings_of c.self.inside.entries))
