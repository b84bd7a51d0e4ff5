use Rattle.peer_list.proofs.Words.{ap, entry_under, is_some, key_of, sym, ◌∙◌}
use Rattle.peer_list.proofs.EntryLemmas.{finds, has_key}
use Rattle.peer_list.proofs.entries.Entries.key.Goals as goal

pub index-requires : goal.index-requires
index-requires c = has_key c.args.self.now.slab (key_of c.args.self.now c.args.who) (ap is_some (sym (finds c.args.self.now c.args.who c.requires.whole.names)) ∙ c.requires.there)

pub returns-clause-there : goal.returns-clause-there
returns-clause-there c = ap is_some (sym (finds c.args.self.now c.args.who c.requires.whole.names ∙ ap (entry_under c.args.self.now.slab) c.index.ensures)) ∙ c.requires.there
