use Rattle.peer_list.proofs.Words.{Listing, ap, entry_under, option_map, ◌∙◌}
use Rattle.peer_list.proofs.EntryLemmas.{finds}
use Rattle.peer_list.proofs.entries.Entries.peer_under.Goals as goal

pub returns : goal.returns
returns c = ap (option_map (λ (l : Listing). l.peer)) (finds c.args.self.now c.args.who c.requires.whole.names ∙ ap (entry_under c.args.self.now.slab) c.requires.key ∙ c.index.ensures)
