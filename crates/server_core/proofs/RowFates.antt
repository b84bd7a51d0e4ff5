-- The fates that the server's table can give.
use Rattle.server_core.proofs.Words.{All-contains_itself, AllByRecursion, Contains, Ep, Err, Fate, FateOfRow, List, Ok, PayloadFault, Result, Rule, ServerSettings, Side, Value, by_payload, first_of_each, last_line, payload_at, recursion_from_All, row_fates, rule_of, server_datagram_lines, server_destination_lines, server_packet_lines, server_row, server_seen, step_of, ℕ, ◌++◌}

fate_of_payload : (P : Fate → Type 0) → AllByRecursion P row_fates → (s : ServerSettings) (side : Side) (from : Ep) (x : List ℕ) (v : Value) → P (step_of s side from x v (rule_of s from v)).fate
unfolding rule_of
fate_of_payload P all s side from x v =
    let a = server_seen s from v in
    let keyed = all.1 in
    let loop = keyed.1.1.1.1.1 in
    let own_echo = loop.1 in
    let embedded = own_echo.1.1.1.1 in
    first_of_each (λ (r : Rule). P (step_of s side from x v r).fate) (server_datagram_lines a ++ (server_packet_lines a ++ server_destination_lines a)) last_line
    (keyed.0, (keyed.1.0, (keyed.1.1.0, (keyed.1.1.1.0, (keyed.1.1.1.1.0, (loop.0, (own_echo.0, (own_echo.1.0, (own_echo.1.1.0, (own_echo.1.1.1.0, (embedded.0, (loop.0, (embedded.1.0, (embedded.1.1.0, (embedded.1.1.1.0, tt)))))))))))))))
    embedded.1.1.1.1.0

fate_of_read : (P : Fate → Type 0) → AllByRecursion P row_fates → (s : ServerSettings) (side : Side) (from : Ep) (x : List ℕ) (r : Result Value PayloadFault) → P (by_payload s side from x r).fate
fate_of_read P all s side from x (Ok v) = fate_of_payload P all s side from x v
fate_of_read P all s side from x (Err fault) = all.0

-- what holds of each of them holds of what becomes of a datagram
pub fate_of_row : (P : Fate → Type 0) → AllByRecursion P row_fates → (s : ServerSettings) (side : Side) (from : Ep) (x : List ℕ) → P (server_row s side from x).fate
unfolding server_row
fate_of_row P all s side from x = fate_of_read P all s side from x (payload_at x)

-- so it is one of them
pub contained : FateOfRow
contained s side from x = fate_of_row (Contains row_fates) (recursion_from_All (Contains row_fates) row_fates (All-contains_itself row_fates)) s side from x
