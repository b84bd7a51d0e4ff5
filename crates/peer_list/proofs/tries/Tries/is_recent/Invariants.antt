use Rattle.peer_list.proofs.Words.{LISTED_MS, Millis, TRY_GAP_MS, drop, filter, is_younger, list_any, map, ◌≡◌}
use Rattle.peer_list.proofs.tries.Tries.is_recent.Given as goal

-- what is left has a recent one exactly where all do
abbrev pub invariant-loop-moment : goal.invariant-loop-moment
invariant-loop-moment l =
    list_any (is_younger TRY_GAP_MS l.now.0) (filter (is_younger LISTED_MS l.now.0) (map (λ (m : Millis). m.0) (drop l.moment-index l.moment-items)))
    ≡ list_any (is_younger TRY_GAP_MS l.now.0) (filter (is_younger LISTED_MS l.now.0) (map (λ (m : Millis). m.0) l.moment-items))
