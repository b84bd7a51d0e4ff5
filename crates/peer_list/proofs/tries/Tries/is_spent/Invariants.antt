use Rattle.peer_list.proofs.Words.{LISTED_MS, Millis, drop, filter, is_younger, length, map, ◌+◌, ◌≡◌, ◌≤◌}
use Rattle.peer_list.proofs.tries.Tries.is_spent.Given as goal

-- the young ones so far, and those of what is left, are all
abbrev pub invariant-loop-moment : goal.invariant-loop-moment
invariant-loop-moment l = record {
  few : l.young ≤ l.moment-index;
  all : l.young + length (filter (is_younger LISTED_MS l.now.0) (map (λ (m : Millis). m.0) (drop l.moment-index l.moment-items))) ≡ length (filter (is_younger LISTED_MS l.now.0) (map (λ (m : Millis). m.0) l.moment-items));
}
