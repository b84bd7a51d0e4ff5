-- How many nodes and pairs there are.
use Rattle.reach_query.proofs.Words.{AreCounted, AreCountsWithin, List, PairCounts, Said, TopologyState, [], ap, append-nil, append_assoc, arith, count, counted_pairs, length, nodes, range_with_len, suc, sym, ℕ, ◌++◌, ◌+◌, ◌-◌, ◌<◌, ◌∙◌, ◌∷◌, ◌≡◌, ◌≤◌}

-- ---- nodes

pub nodes_counted : (t : TopologyState) → length (nodes t) ≡ length t.servers + (length t.nats + (length t.clients + (length t.relays + length t.natives)))
nodes_counted t = count t

-- those from a number on begin with this one
pub range_head : (a n : ℕ) → a < n → range_with_len a (n - a) ≡ a ∷ range_with_len (a + 1) (n - (a + 1))
range_head a n within = let more : n - a ≡ suc (n - (a + 1)) = omega (arith, within) in ap (range_with_len a) more

-- all of them
pub range_whole : (n : ℕ) → range_with_len 0 n ≡ range_with_len 0 (n - 0)
range_whole n = let all : n ≡ n - 0 = omega arith in ap (range_with_len 0) all

-- none is left
pub range_end : (a n : ℕ) → n ≤ a → range_with_len a (n - a) ≡ []
range_end a n end = let none : n - a ≡ 0 = omega (arith, end) in ap (range_with_len a) none

-- ---- pairs

pub none_counted : (c : PairCounts) → AreCounted [] c c
none_counted c ps counts = counts ∙ ap counted_pairs (sym (append-nil ps))

pub counted_then : (ps qs : List Said) (a b c : PairCounts) → AreCounted ps a b → AreCounted qs b c → AreCounted (ps ++ qs) a c
counted_then ps qs a b c first later before counts = later (before ++ ps) (first before counts) ∙ ap counted_pairs (append_assoc before ps qs)

-- a greater bound
pub within_more : (c : PairCounts) (a b : ℕ) → AreCountsWithin a c → a ≤ b → AreCountsWithin b c
within_more c a b few more = record {
  pairs = omega (arith, few.pairs, more);
  within = omega (arith, few.within, more);
  shut = omega (arith, few.shut, more);
  unsaid = omega (arith, few.unsaid, more);
}
