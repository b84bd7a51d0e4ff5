-- Nodes of the worked scenarios, and what is told of these.
use Rattle.worked_lines.proofs.Words.{Behind, ClientNode, Full, Lab, List, NatKind, NatNode, NativeNode, RelayNode, Scenario, ServerNode, [], draws, each_lines, end_lines, ep, false, follow_lines, ip, ip6, lab_on, last_lines, name1, name2, play_in, records_line, true, ℕ, ◌++◌, ◌+◌, ◌∷◌}

abbrev pub one_server : ServerNode
one_server = record { name = name2 115 49; primary = ip 192 0 2 1; secondary = ip 192 0 2 2 }

-- NAT number i of its kind
abbrev pub nat_numbered : ℕ → NatKind → NatNode
nat_numbered i k = record { name = name2 110 (48 + i); kind = k; external = ip 198 51 100 i; idle = 60000 }

-- the client with a letter, behind a NAT
abbrev pub client_with : ℕ → ℕ → ℕ → ClientNode
client_with letter nat host = record {
  name = name1 letter;
  nat = nat;
  inside = ep (ip 10 0 0 host) 4000;
  server = 0;
  refresh = record { low_ms = 30000; high_ms = 30000 };
  random = false;
  cone_try = true;
}

abbrev pub one_relay : RelayNode
one_relay = record { name = name2 114 49; at = ep (ip 203 0 113 9) 3545; six = ip6 (32 ∷ 1 ∷ 13 ∷ 184 ∷ 0 ∷ 0 ∷ 0 ∷ 0 ∷ 0 ∷ 0 ∷ 0 ∷ 0 ∷ 0 ∷ 0 ∷ 0 ∷ 9 ∷ []) }

-- native host number i, which has this relay
abbrev pub native_numbered : ℕ → ℕ → NativeNode
native_numbered i relay = record { name = name2 104 (48 + i); six = ip6 (32 ∷ 1 ∷ 13 ∷ 184 ∷ 0 ∷ 0 ∷ 0 ∷ 0 ∷ 0 ∷ 0 ∷ 0 ∷ 0 ∷ 0 ∷ 0 ∷ 0 ∷ i ∷ []); relay = relay }

-- THE LINES

-- the laboratory of a scenario with its own words, in which these NATs are behind others
abbrev lab_with : Scenario → List Behind → Lab
lab_with s chain = lab_on (draws s.seed) s.topology chain

-- all records
abbrev pub played : Scenario → List Behind → List Full
played s chain = play_in (lab_with s chain) s.events 100 []

-- where each packet went
abbrev followed_in : Lab → List Full → List (List ℕ)
followed_in lab H = follow_lines lab.topology H ++ end_lines lab.topology H

abbrev pub followed : Scenario → List Behind → List (List ℕ)
followed s chain = followed_in (lab_with s chain) (played s chain)

-- what nodes keep at first, and what each record concerned
abbrev kept_by_each_in : Lab → List Full → List (List ℕ)
kept_by_each_in lab H = each_lines lab.topology H ++ records_line H ∷ []

abbrev pub kept_by_each : Scenario → List Behind → List (List ℕ)
kept_by_each s chain = kept_by_each_in (lab_with s chain) (played s chain)

-- what they keep in the end
abbrev kept_at_last_in : Lab → List Full → List (List ℕ)
kept_at_last_in lab H = last_lines lab H ++ records_line H ∷ []

abbrev pub kept_at_last : Scenario → List Behind → List (List ℕ)
kept_at_last s chain = kept_at_last_in (lab_with s chain) (played s chain)
