use Rattle.peer_list.proofs.Words.{Ip6, List, ap, arith, filter, is_listed_at, length, listings_in, listings_of, sym, ℕ, ◌∙◌, ◌≡◌}
use Rattle.peer_list.proofs.PlaceLemmas.{apart_of}
use Rattle.peer_list.proofs.DueLemmas.{count_is}
use Rattle.peer_list.proofs.EntryLemmas.{sound_of}
use Rattle.peer_list.proofs.entries.Entries.count.Goals as goal

pub returns-clause-count : goal.returns-clause-count
returns-clause-count c =
    let rest : length (filter (is_listed_at c.args.now.0) (listings_in c.args.self.now.slab c.loop-key.key-iterator)) ≡ 0 =
    ap (λ (ps : List (Ip6 × ℕ)). length (filter (is_listed_at c.args.now.0) (listings_in c.args.self.now.slab ps))) c.in-None.ensures.steps.0 in
    let all : c.loop-key.count ≡ length (filter (is_listed_at c.args.now.0) (listings_of c.args.self.now)) = let both = c.loop-key.invariant.3 in omega (arith, rest, both) in
    all ∙ sym (count_is c.args.now.0 c.args.now.0 (listings_of c.args.self.now) (apart_of (sound_of c.args.self.now c.requires.whole.names)))
