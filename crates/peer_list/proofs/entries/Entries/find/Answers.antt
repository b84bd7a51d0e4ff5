use Rattle.peer_list.proofs.Words.{Listing, None, Some, ap, entry_under, find, is_of, listings_of, option_map, sym, ◌∙◌, ◌≡◌}
use Rattle.peer_list.proofs.EntryLemmas.{finds}
use Rattle.peer_list.proofs.entries.Entries.find.Goals as goal

pub returns-in_err-find_key : goal.returns-in_err-find_key
returns-in_err-find_key c =
    let none : find (is_of c.args.who) (listings_of c.args.self.now) ≡ None = finds c.args.self.now c.args.who c.requires.whole.names ∙ ap (entry_under c.args.self.now.slab) (sym c.in_err-find_key.ensures) in
    rw c.from_residual.ensures (sym (ap (option_map (λ (l : Listing). l.peer)) none))

pub returns-in_err-get : goal.returns-in_err-get
returns-in_err-get c =
    let none : find (is_of c.args.who) (listings_of c.args.self.now) ≡ None = finds c.args.self.now c.args.who c.requires.whole.names ∙ ap (entry_under c.args.self.now.slab) (sym c.in_ok-find_key.ensures) ∙ sym c.in_err-get.ensures in
    rw c.from_residual-in_err-get.ensures (sym (ap (option_map (λ (l : Listing). l.peer)) none))

pub returns : goal.returns
returns c =
    let some : find (is_of c.args.who) (listings_of c.args.self.now) ≡ Some c.in_ok-get.field-0.now =
    finds c.args.self.now c.args.who c.requires.whole.names ∙ ap (entry_under c.args.self.now.slab) (sym c.in_ok-find_key.ensures)
    ∙ sym c.in_ok-get.ensures in
    sym (ap (option_map (λ (l : Listing). l.peer)) some)
