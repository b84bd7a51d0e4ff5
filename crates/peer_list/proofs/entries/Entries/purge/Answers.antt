use Rattle.peer_list.proofs.Words.{IsSince, Listing, listings_of, ltb-true, sym, ◌∙◌}
use Rattle.peer_list.proofs.FirstLemmas.{all_stay}
use Rattle.peer_list.proofs.EntryLemmas.{all_listings}
use Rattle.peer_list.proofs.entries.Entries.purge.Goals as goal

pub returns-then-is_young-clause-listings : goal.returns-then-is_young-clause-listings
returns-then-is_young-clause-listings c =
    let e = c.args.self.now in
    sym (all_stay e.touched.0 c.args.now.0 (listings_of e) (ltb-true _ _ (sym c.is_young.ensures ∙ c.if-is_young.true))
    (all_listings e.slab (λ (l : Listing). IsSince e.touched.0 l.peer.touched) e.index.entries c.requires.kept.touched c.requires.kept.whole.names.leads))
