use Rattle.peer_list.proofs.Words.{listings_of, ◌∙◌}
use Rattle.peer_list.proofs.TableLemmas.{other_waiting}
use Rattle.peer_list.proofs.table.Peers.waiting.Goals as goal

pub returns : goal.returns
returns c = rw (← c.self.view_is) (c.waiting.ensures ∙ other_waiting c.args.now.0 c.self.inside.moment.0 c.self.inside.latest c.args.now.0 (listings_of c.self.inside.entries))
