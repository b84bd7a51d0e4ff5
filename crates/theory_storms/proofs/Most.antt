-- Nine for each thing that is there are the most, as no entry of the wire draws more than nine deliveries, itself counted.
use Rattle.theory_storms.proofs.Words.{Full, Grown, HistoriesHaveNine, List, NineForEach, NineSettle, Node, SettleByKind, [], arith, client, client_packet, earlier, journal, length, length-map, nat, native, nodes, now, relay, relay_mentions, relay_packet, server, subst, sum_from, waiting_in_client, waiting_in_relay, waiting_packets, waits_at, waits_from, ℕ, ◌++◌, ◌+◌, ◌∷◌, ◌≡◌}
use Rattle.std.proofs.lemmas.List.{length-append}
use Rattle.client_rules.specs.Bearings as client_bearings
use Rattle.theory_storms.proofs.Ending.{are_new}
use Rattle.theory_storms.proofs.ByKind.{few_by_kind}

-- PACKETS THAT WAIT

at_one : (H : List Full) (n : ℕ) (a : Node) → waiting_in_client H n a + waiting_in_relay H n a ≡ length (waits_at H n a)
at_one H n (client c) =
    let many = length-map (waiting_packets (client_bearings.mentions (journal n H).entries) (now H)) client_packet in
    omega (arith, many)
at_one H n (relay r) =
    let many = length-map (waiting_packets (relay_mentions (journal n H).entries) (now H)) relay_packet in
    omega (arith, many)
at_one H n (server a) = omega arith
at_one H n (nat a) = omega arith
at_one H n (native h) = omega arith

counted : (H : List Full) (n : ℕ) (xs : List Node)
    → sum_from (waiting_in_client H) n xs + sum_from (waiting_in_relay H) n xs ≡ length (waits_from H n xs)
counted H n [] = omega arith
counted H n (a ∷ rest) =
    let first = at_one H n a in
    let others = counted H (n + 1) rest in
    let both = length-append (waits_at H n a) (waits_from H (n + 1) rest) in
    omega (arith, first, others, both)

-- ALL

pub nine_for_each : NineForEach
nine_for_each lab H later is g new =
    let follow = few_by_kind lab H later is g new in
    let waiting = counted H 0 (nodes lab.topology) in
    omega (arith, follow, waiting)

-- THE EVENT THAT DELIVERS ALL

pub nine_settle : NineSettle
nine_settle lab H later is g on = nine_for_each lab H later is g (are_new lab H later g on)

pub settle_by_kind : SettleByKind
settle_by_kind lab H later is g on = few_by_kind lab H later is g (are_new lab H later g on)

-- FROM EACH RECORD ON

pub histories : HistoriesHaveNine
histories lab H is g rest later before split =
    let there : Grown lab (later ++ before) = earlier lab rest (later ++ before) (subst (Grown lab) split g) in
    record {
      deliveries = nine_for_each lab before later is there;
      settling = nine_settle lab before later is there;
      by_kind = few_by_kind lab before later is there;
      settling_by_kind = settle_by_kind lab before later is there;
    }
