-- A datagram has one outcome: something is sent, or a packet goes on to the IPv6 side, or it is dropped.
use Rattle.server_core.proofs.Words.{Ep, Err, List, Ok, OneOutcome, PayloadFault, Result, Rule, ServerSettings, Side, Value, by_payload, first_of_each, last_line, outcomes, payload_at, refl, rule_of, server_datagram_lines, server_destination_lines, server_packet_lines, server_row, server_seen, step_of, ℕ, ◌++◌, ◌≡◌}

one_of_payload : (s : ServerSettings) (side : Side) (from : Ep) (x : List ℕ) (v : Value) → outcomes (step_of s side from x v (rule_of s from v)) ≡ 1
unfolding rule_of
one_of_payload s side from x v =
    let a = server_seen s from v in
    first_of_each (λ (r : Rule). outcomes (step_of s side from x v r) ≡ 1) (server_datagram_lines a ++ (server_packet_lines a ++ server_destination_lines a)) last_line
    (refl, (refl, (refl, (refl, (refl, (refl, (refl, (refl, (refl, (refl, (refl, (refl, (refl, (refl, (refl, tt)))))))))))))))
    refl

one_of_read : (s : ServerSettings) (side : Side) (from : Ep) (x : List ℕ) (r : Result Value PayloadFault) → outcomes (by_payload s side from x r) ≡ 1
one_of_read s side from x (Ok v) = one_of_payload s side from x v
one_of_read s side from x (Err fault) = refl

pub one_outcome : OneOutcome
unfolding server_row
one_outcome s side from x = one_of_read s side from x (payload_at x)
