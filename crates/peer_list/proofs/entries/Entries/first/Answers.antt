use Rattle.peer_list.proofs.Words.{List, NoneBefore, Some, ap, length, listings_of, subst, sym, ℕ, ◌∙◌, ◌≡◌}
use Rattle.peer_list.proofs.TurnLemmas.{none_before_none, none_before_it, none_first, first_waits}
use Rattle.peer_list.proofs.entries.Entries.first.Goals as goal

pub returns-in_err-first-clause-before : goal.returns-in_err-first-clause-before
returns-in_err-first-clause-before c =
    let none : length c.args.self.now.order.items ≡ 0 = ap (λ (ks : List ℕ). length ks) (sym c.deref.ensures.value) ∙ none_first c.deref.result.now c.in_err-first.ensures.value in
    rw c.from_residual.ensures (none_before_none c.args.self.now 0 c.requires.whole none)

pub returns-clause-before : goal.returns-clause-before
returns-clause-before c =
    let e = c.args.self.now in
    let l = c.index-listing.result.now in
    subst (λ (m : ℕ). NoneBefore (Some (record { 0 = m }, l.who)) (listings_of e)) (sym c.due.ensures)
    (none_before_it e 0 c.requires.whole c.deref.ensures.value c.in_ok-first.ensures.value c.index-listing.ensures)

pub returns-clause-there : goal.returns-clause-there
returns-clause-there c =
    let e = c.args.self.now in
    let l = c.index-listing.result.now in
    let key = c.in_ok-first.field-0.now in
    record {
      key = key;
      listing = l;
      at = c.index-listing.ensures;
      waits = first_waits e 0 c.requires.whole c.deref.ensures.value c.in_ok-first.ensures.value c.index-listing.ensures;
      is = ap (λ (m : ℕ). (record { 0 = m }, l.who)) (sym c.due.ensures);
    }
