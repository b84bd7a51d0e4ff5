use Rattle.td_base.proofs.Words.{AllDigits, digits_value, length, take, ◌<◌, ◌^◌, ◌≡◌, ◌≤◌}
use Rattle.td_base.proofs.ipv6_reader.front_group.Given as goal

abbrev pub invariant-loop-i : goal.invariant-loop-i
invariant-loop-i l =
    (l.i ≤ length l.text) × AllDigits 16 (take l.i l.text) × (digits_value 16 (take l.i l.text) ≡ l.number) × (l.number < 16 ^ l.i)
