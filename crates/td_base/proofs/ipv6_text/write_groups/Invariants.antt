use Rattle.td_base.proofs.Words.{get_or, groups_text, length, take, ◌*◌, ◌++◌, ◌+◌, ◌∷◌, ◌≡◌, ◌≤◌}
use Rattle.td_base.proofs.ipv6_text.write_groups.Given as goal

abbrev pub invariant-loop-group : goal.invariant-loop-group
invariant-loop-group l =
    (take l.end l.out ≡ take l.at l.fn.out ++ groups_text (get_or l.groups 0 0 ∷ take l.group-index l.rest)) × (l.end ≤ l.at + 5 * (l.group-index + 1)) × (length l.out ≡ length l.fn.out)
