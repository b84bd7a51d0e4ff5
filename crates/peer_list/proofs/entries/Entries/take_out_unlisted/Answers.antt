use Rattle.peer_list.proofs.Words.{AreDueOnce, AreInTurn, Ip6, ap, arith, filter, filter_same, get, is_some, length, listings_in, rules, subst, sym, ℕ, ◌∙◌, ◌≡◌}
use Rattle.peer_list.proofs.EntryLemmas.{keep_listed, retained, retained_pairs, names_kept, once_kept, turn_left, shorter, kept_listings}
use Rattle.peer_list.proofs.entries.Entries.take_out_unlisted.Goals as goal

pub returns-clause-whole : goal.returns-clause-whole
returns-clause-whole c =
    let s = c.args.self.now.slab in
    let t = c.retain.new.self in
    let is : (k : ℕ) → get t k ≡ keep_listed c.args.now.0 (get s k) =
    λ k. retained _ c.args.now.0 _ (λ key old keep new next called. (
      search (rules, called.shows, called.called, called.leaves),
      search (rules, called.shows, called.called, called.leaves),
      search (rules, called.called),
    )) 0 s.slots t.slots k c.retain.ensures.retained in
    let pairs : c.retain-2.new.self.entries ≡ filter (λ (pair : Ip6 × ℕ). is_some (get t pair.1)) c.args.self.now.index.entries =
    retained_pairs _ (λ k. is_some (get t k)) _ (λ p key b w next called. (
      search (rules, called.shows, called.called, called.leaves),
      search (rules, called.shows, called.called, called.leaves),
      search (rules, called.called),
    )) _ _ c.retain-2.ensures.filtered in
    let keys : c.retain-3.new.self.items ≡ filter (λ k. is_some (get t k)) c.args.self.now.order.items = filter_same _ _ _ (λ x b f' k. search rules) _ _ c.retain-3.ensures.filtered in
    record {
      names = names_kept s t c.args.now.0 is c.args.self.now.index c.retain-2.new.self pairs c.retain-2.ensures.ordered c.requires.whole.names;
      once = subst (AreDueOnce t) (sym keys) (once_kept s t c.args.now.0 is c.args.self.now.order.items c.requires.whole.once);
      turn = subst (AreInTurn t) (sym keys) (turn_left s t c.args.now.0 is c.args.self.now.order.items c.requires.whole.turn);
      room =
          let room = c.requires.whole.room in
          let less = shorter s t c.args.now.0 is c.args.self.now.index.entries in
          let same = ap length pairs in
          let cap = c.retain-3.ensures.capacity in
          omega (arith, room, less, same, cap);
    }

pub returns-clause-listings : goal.returns-clause-listings
returns-clause-listings c =
    let s = c.args.self.now.slab in
    let t = c.retain.new.self in
    let is : (k : ℕ) → get t k ≡ keep_listed c.args.now.0 (get s k) =
    λ k. retained _ c.args.now.0 _ (λ key old keep new next called. (
      search (rules, called.shows, called.called, called.leaves),
      search (rules, called.shows, called.called, called.leaves),
      search (rules, called.called),
    )) 0 s.slots t.slots k c.retain.ensures.retained in
    let pairs : c.retain-2.new.self.entries ≡ filter (λ (pair : Ip6 × ℕ). is_some (get t pair.1)) c.args.self.now.index.entries =
    retained_pairs _ (λ k. is_some (get t k)) _ (λ p key b w next called. (
      search (rules, called.shows, called.called, called.leaves),
      search (rules, called.shows, called.called, called.leaves),
      search (rules, called.called),
    )) _ _ c.retain-2.ensures.filtered in
    ap (listings_in t) pairs ∙ kept_listings s t c.args.now.0 is c.args.self.now.index.entries c.requires.whole.names.leads
