-- What of the facts on NATs and on peers lasts where nothing more happens to their node.
use Rattle.std.specs.Prelude.{◌≡◌, ◌≤◌, ℕ, Bool, true, nat_lt, if◌then◌else◌, List, map, filter, filter_map, Option, Some, None}
use Rattle.nat_kinds.specs.declared.settings.NatSettings.{NatSettings}
use Rattle.nat_kinds.specs.History.{NatEntry, counting}
use Rattle.nat_kinds.specs.Laws.{IsPast}
use Rattle.peer_list.specs.declared.limits.TheConstants.{LISTED_MS}
use Rattle.peer_list.specs.Listed.{is_younger}
use Rattle.peer_list.specs.Judged.{is_within}
use Rattle.peer_list.specs.Mentions.{Mention}
use Rattle.states.specs.Facts.{PeerFact, Fact, holds_port, lets}
use Rattle.states.specs.Kept.{port_facts, peer_fact_of, listed_in_order}

-- A NAT

-- *lasts*, of a NAT's fact: a port, and whom the NAT lets in there, last at each moment before their end.
-- the fact lasts at n
abbrev pub fact_lasts : ℕ → Fact → Bool
fact_lasts n (holds_port port inside to end) = nat_lt n end
fact_lasts n (lets port whom end) = nat_lt n end
fact_lasts n _ = true

-- what a NAT keeps at a moment is what it kept at an earlier one, as far as that lasts, in the same order
abbrev pub NatFactsLast : Type 0
NatFactsLast = (s : NatSettings) (h : List NatEntry) (m n : ℕ) → 1 ≤ s.idle → IsPast s h m → m ≤ n
    → port_facts s (counting s.idle n h) ≡ filter (fact_lasts n) (port_facts s (counting s.idle m h))

-- PEERS

-- what is told of a peer at n, of what was told before: nothing where its latest touch is old by then, and of its tries those that aren't
abbrev pub still_told : ℕ → PeerFact → Option PeerFact
still_told n p = if is_within LISTED_MS n p.touched then Some (record p { tries = filter (is_younger LISTED_MS n) p.tries }) else None

-- what is told of the listed peers at a moment, in their order
abbrev pub told_of_peers : List Mention → ℕ → List PeerFact
told_of_peers j n = map (peer_fact_of j n) (listed_in_order j n)

-- it is what was told at an earlier one, as far as that is still told
abbrev pub PeerFactsLast : Type 0
PeerFactsLast = (j : List Mention) (m n : ℕ) → m ≤ n → told_of_peers j n ≡ filter_map (still_told n) (told_of_peers j m)
